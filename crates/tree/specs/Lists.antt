-- Tests over lists.
use Rattle.std.specs.Prelude.{ℕ, Bool, true, false, cond, ◌&&◌, ◌||◌, List, [], ◌∷◌, ◌++◌, eqb}

-- all pass
abbrev pub every : {A : Type 0} → (A → Bool) → List A → Bool
every t [] = true
every t (x ∷ xs) = t x && every t xs

-- some passes
abbrev pub any : {A : Type 0} → (A → Bool) → List A → Bool
any t [] = false
any t (x ∷ xs) = t x || any t xs

-- those that pass
unfoldable pub keep : {A : Type 0} → (A → Bool) → List A → List A
keep t [] = []
keep t (x ∷ xs) = cond (t x) (x ∷ keep t xs) (keep t xs)

-- a number is in the list
abbrev pub has : ℕ → List ℕ → Bool
has n l = any (λ q. eqb q n) l

-- a number stands first in the list
abbrev pub leads : ℕ → List ℕ → Bool
leads n [] = false
leads n (q ∷ qs) = eqb q n

-- no number is there twice
abbrev pub distinct : List ℕ → Bool
distinct [] = true
distinct (q ∷ qs) = cond (has q qs) false (distinct qs)

-- equal strings of bytes
abbrev pub same : List ℕ → List ℕ → Bool
same [] [] = true
same [] (y ∷ ys) = false
same (x ∷ xs) [] = false
same (x ∷ xs) (y ∷ ys) = eqb x y && same xs ys

-- the lists of a list, one behind the other
abbrev pub joined : {A : Type 0} → List (List A) → List A
joined [] = []
joined (l ∷ ls) = l ++ joined ls
