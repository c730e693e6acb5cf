-- Equal strings of bytes, and two compared by a loop.
use Rattle.std.specs.Prelude.{◌≡◌, refl, ℕ, suc, ◌+◌, ◌≤◌, ◌<◌, true, false, ◌&&◌, List, [], ◌∷◌, length, get_or, drop, eqb}
use Rattle.std.proofs.Common.{sym, ap, ◌∙◌, arith, add-one, drop_of_length-le, drop-cons, eq-eqb, ne_eqb, eqb-true}
use Rattle.std.proofs.Math.Bool.{and-false}
use Rattle.std.proofs.lemmas.Bool.{false≢true}
use Rattle.tree.specs.Lists.{same}
use Rattle.tree.specs.Laws.Tests.{and_left, and_right}

pub same_equal : (a c : List ℕ) → same a c ≡ true → a ≡ c
same_equal [] [] h = refl
same_equal [] (y ∷ c) h = absurd (false≢true h)
same_equal (x ∷ a) [] h = absurd (false≢true h)
same_equal (x ∷ a) (y ∷ c) h = rw (eqb-true x y (and_left (eqb x y) _ h), same_equal a c (and_right (eqb x y) _ h))

pub same_self : (a : List ℕ) → same a a ≡ true
same_self [] = refl
same_self (x ∷ a) = rw (eq-eqb x x refl) (same_self a)

-- other lengths
pub same_long : (a c : List ℕ) → (length c ≡ length a → ⊥) → same a c ≡ false
same_long [] [] h = absurd (h refl)
same_long [] (y ∷ c) h = refl
same_long (x ∷ a) [] h = refl
same_long (x ∷ a) (y ∷ c) h = rw (same_long a c (λ e. h (ap suc e))) (and-false (eqb x y))

-- the first j bytes are the same
module _ (a c : List ℕ) (j : ℕ) (v : same a c ≡ same (drop j a) (drop j c)) (e : length c ≡ length a) where
  turn : j < length a → same (drop j a) (drop j c) ≡ (eqb (get_or a j 0) (get_or c j 0) && same (drop (j + 1) a) (drop (j + 1) c))
  turn h = let k : j < length c = omega arith in rw (drop-cons a j 0 h, drop-cons c j 0 k, add-one j)

  pub same_differs : j < length a → (get_or c j 0 ≡ get_or a j 0 → ⊥) → same a c ≡ false
  same_differs h n = v ∙ turn h ∙ rw (ne_eqb (get_or a j 0) (get_or c j 0) (λ z. n (sym z)))

  pub same_turn : j < length a → get_or c j 0 ≡ get_or a j 0 → same a c ≡ same (drop (j + 1) a) (drop (j + 1) c)
  same_turn h n = v ∙ turn h ∙ rw (eq-eqb (get_or a j 0) (get_or c j 0) (sym n))

  pub same_end : length a ≤ j → same a c ≡ true
  same_end h = v ∙ rw (drop_of_length-le a h, drop_of_length-le c {i = j} (omega arith))
