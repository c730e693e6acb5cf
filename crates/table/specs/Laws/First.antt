-- A search through a list, as a loop does it.
use Rattle.std.specs.Prelude.{◌≡◌, refl, ℕ, suc, ◌+◌, ◌≤◌, ◌<◌, Bool, true, false, cond, List, [], ◌∷◌, length, get_or, drop, ltb}
use Rattle.std.specs.Prelude.{Option, Some, None, MatchOption}
use Rattle.std.proofs.Math.Path.{sym}
use Rattle.std.specs.Option.{is_some}
use borrow.Author.Tests.{le-ltb, lt-ltb}
use Rattle.std.proofs.Common.{◌∙◌, arith, add-zero, drop-cons}
use Rattle.std.proofs.Math.Numerals.{add-one}
use Rattle.table.specs.Lists.{first}

module _ {A : Type 0} (t : A → Bool) (l : List A) (i : ℕ) (d : A) (v : first t l ≡ i + first t (drop i l)) where
  pub first_found : i < length l → t (get_or l i d) ≡ true → i ≡ first t l
  unfolding first
  first_found h e = sym (v ∙ rw (drop-cons l i d h, e, add-zero))

  pub first_passed : i < length l → t (get_or l i d) ≡ false → first t l ≡ i + 1 + first t (drop (i + 1) l)
  unfolding first
  first_passed h e = v ∙ rw (drop-cons l i d h, e, add-one i) (omega arith)

-- the one found passes
pub first_passes : {A : Type 0} (t : A → Bool) (l : List A) (d : A) → first t l < length l → t (get_or l (first t l) d) ≡ true
unfolding first
first_passes t [] d h = absurd (omega arith)
first_passes t (x ∷ l) d h = go (t x) refl h (first_passes t l d)
  where
    go : (b : Bool) → t x ≡ b → cond b 0 (suc (first t l)) < suc (length l) → (first t l < length l → t (get_or l (first t l) d) ≡ true)
        → t (get_or (x ∷ l) (cond b 0 (suc (first t l))) d) ≡ true
    go true e h r = e
    go false e h r = r (omega arith)

-- `table::find` found one exactly if the first that passes is inside
pub found_held : (o : Option ℕ) (p n : ℕ) → MatchOption o (n ≤ p) (λ i. (i ≡ p) × (i < n)) → is_some o ≡ ltb p n
found_held None p n h = sym (le-ltb p n h)
found_held (Some i) p n h = sym (lt-ltb p n (omega arith))
