-- Rows changed or left out in one pass.
use Rattle.std.specs.Prelude.{ℕ, suc, Bool, cond, ◌&&◌, List, [], ◌∷◌, leb, ltb}

-- the node changed by g, the depth kept
abbrev pub second : {A B : Type 0} → (A → B) → ℕ × A → ℕ × B
second g x = (x.0, g x.1)

-- a row of this depth is left out: it lies below one that was; `below` is the least depth left out now, 0 for none
abbrev pub left_out : ℕ → ℕ → Bool
left_out below depth = ltb 0 below && leb below depth

-- a list without the nodes that are not shown and all below them
unfoldable pub prune : {A : Type 0} → (A → Bool) → ℕ → List (ℕ × A) → List (ℕ × A)
prune shown below [] = []
prune shown below (x ∷ xs) =
    cond (left_out below x.0) (prune shown below xs)
    (cond (shown x.1) (x ∷ prune shown 0 xs) (prune shown (suc x.0) xs))
