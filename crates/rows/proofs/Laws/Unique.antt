-- Rows of which no two have one number: a change by number is a change at one place.
use Rattle.std.specs.Prelude.{◌≡◌, refl, true, cond}
use Rattle.std.proofs.Math.Path.{sym}
use Rattle.std.proofs.Common.{ap, ◌∙◌, eq-eqb, ne_eqb}
use Prim.Native.Nat.{ℕ, zero, suc, ◌<◌}
use mathlib.Core.List.{List, [], ◌∷◌, map}
use native.Mathlib.Omega.{arith}
use Rattle.std.proofs.Math.ListN.{length}
use Rattle.tree.specs.Lists.{any, has}
use Rattle.tree.specs.Laws.Tests.{or_left, or_right}
use Rattle.protocol.specs.State.{has_number}
use Rattle.table.specs.Lists.{modify}
use Rattle.table.specs.Layout.{Entry}
use Rattle.rows.specs.Places.{items, number_of, unique}
use Rattle.rows.proofs.Laws.Find.{unique_head, has_items, lacks_at}
use Rattle.rows.specs.Rows.{row_numbers, number_at, Lacks}

-- the numbers say which numbers there are
pub same_numbers : (k l : List Entry) → row_numbers k ≡ row_numbers l → (n : ℕ)
    → any (has_number n) (items k) ≡ any (has_number n) (items l)
same_numbers k l e n = sym (has_items n k) ∙ ap (has n) e ∙ has_items n l

module _ (g : Entry → Entry) where
  -- a change of the rows with a number
  abbrev pub by_number : ℕ → Entry → Entry
  by_number n x = cond (has_number n x.1) (g x) x

  pub by_number_none : (n : ℕ) (l : List Entry) → Lacks n l → map (by_number n) l ≡ l
  by_number_none n [] h = refl
  by_number_none n (x ∷ l) h = rw (or_left (has_number n x.1) _ h, by_number_none n l (or_right (has_number n x.1) _ h))

  pub by_number_one : (n : ℕ) (l : List Entry) (i : ℕ) → unique l ≡ true → i < length l → number_at l i ≡ n
      → map (by_number n) l ≡ modify i g l
  unfolding modify
  by_number_one n [] i u h e = absurd (omega arith)
  by_number_one n (x ∷ l) zero u h e = rw (eq-eqb (number_of x.1) n e, by_number_none n l (rw e at (unique_head x l u).0))
  by_number_one n (x ∷ l) (suc i) u h e =
      let a = unique_head x l u in
      let k : i < length l = omega arith in
      rw (ne_eqb (number_of x.1) n (λ q. lacks_at (number_of x.1) l i a.0 k (e ∙ sym q)), by_number_one n l i a.1 k e)
