use Rattle.std.specs.Prelude.{◌≡◌, ℕ, suc, ◌+◌, ◌≤◌, Bool, leb}
use Rattle.std.proofs.Common.{sym, ◌∙◌, arith, add-one, le-leb}
use Rattle.std.proofs.Math.Bool.{true}
use Rattle.std.proofs.lemmas.Bool.{not-false}
use Rattle.tree.specs.Content.{takes}
use Rattle.rows.specs.Placing.{placed_by}
use Rattle.node_writing.proofs.Tally.has_place.Goals as goal

-- an attribute below an element whose children are in order
attribute_placed : (parent kind k n a : ℕ) (ordered allowed : Bool) → (k ≡ 0 → ⊥) → k ≤ n + 1 → takes parent kind ≡ true → allowed ≡ true
    → parent ≡ 2 → kind ≡ 3 → ordered ≡ true → leb k (a + 1) ≡ placed_by parent kind k n a ordered allowed
unfolding placed_by
attribute_placed parent kind k n a ordered allowed low near t w p x o =
    rw (le-leb 1 k (omega arith), le-leb k (suc n) (omega arith), t, w, p, x, o, add-one a)

pub returns-then-self : goal.returns-then-self
returns-then-self c =
    attribute_placed _ _ _ _ _ _ _ c.if-k-eq0.false c.if-self-k.false (sym c.takes.ensures ∙ c.if-not-takes.false)
    (not-false _ c.if-not-self.false) c.in-2-eq3.is-0 c.in-2-eq3.is-1 c.if-self.true
