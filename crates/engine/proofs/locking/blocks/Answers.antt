use Rattle.std.specs.Prelude.{◌≡◌, ℕ, Bool, List}
use Rattle.std.proofs.Common.{◌∙◌}
use Rattle.std.proofs.Math.Bool.{true}
use borrow.Author.Tests.{ne_eqb}
use Rattle.protocol.specs.State.{Marked}
use Rattle.locks.specs.declared.NeedWords.{NeedWords}
use Rattle.engine.specs.Waits.{touches_from, blocks_by}
use Rattle.engine.proofs.locking.blocks.Goals as goal

-- another open transaction
blocks_other : (t u : ℕ) (w : NeedWords) (is_open : ℕ → Bool) (way : List Marked) (o : Bool) → o ≡ is_open u
    → ((o ≡ true) × (u ≡ t → ⊥)) → touches_from w 0 u way ≡ blocks_by t w is_open way u
unfolding blocks_by
blocks_other t u w is_open way o e h = rw (← e, h.0, ne_eqb u t h.1)

pub returns-then-u-t : goal.returns-then-u-t
returns-then-u-t c =
    c.touches.ensures ∙ blocks_other _ _ _ _ _ _ c.is_open.ensures c.if-u-t.true
