-- Lists by place: one element changed, one put in, and the first that passes.
use Rattle.std.specs.Prelude.{ℕ, zero, suc, Bool, cond, List, [], ◌∷◌, ◌++◌, take, drop}

module _ {A : Type 0} where
  -- the element at place i by f; the others stay
  unfoldable pub modify : ℕ → (A → A) → List A → List A
  modify i f [] = []
  modify zero f (x ∷ xs) = f x ∷ xs
  modify (suc i) f (x ∷ xs) = x ∷ modify i f xs

  -- x at place i; those from i on stand one place later
  unfoldable pub insert : ℕ → A → List A → List A
  insert i x l = take i l ++ (x ∷ drop i l)

  -- the place of the first that passes, or the length
  unfoldable pub first : (A → Bool) → List A → ℕ
  first t [] = 0
  first t (x ∷ xs) = cond (t x) 0 (suc (first t xs))
