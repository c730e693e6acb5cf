use Rattle.std.specs.Prelude.{◌≡◌, ℕ, ◌≤◌, ◌<◌, Option, Some, None, ltb}
use Rattle.std.specs.Option.{MatchOption, is_some}
use Rattle.std.proofs.Common.{sym, ◌∙◌, arith, lt-ltb}
use Rattle.std.proofs.Math.Bool.{true}
use Rattle.write_steps.proofs.insert_cause.Goals as goal

-- a node that was found is held
held : (o : Option ℕ) (p n : ℕ) → MatchOption o (n ≤ p) (λ i. (i ≡ p) × (i < n)) → is_some o ≡ true → ltb p n ≡ true
held (Some i) p n m h = lt-ltb p n (omega (arith, m.0, m.1))
held None p n m h = cc

pub returns-then-is_some : goal.returns-then-is_some
returns-then-is_some c =
    rw (
      ← c.kind.ensures,
      sym c.takes.ensures ∙ c.if-not-takes.false,
      sym c.allowed.ensures ∙ c.if-not-allowed.false,
      held _ _ _ c.find.ensures (sym c.is_some.ensures ∙ c.if-is_some.true),
    )
