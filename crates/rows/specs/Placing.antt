-- The place of a new child, as one pass over the kinds of the children decides it.
use Rattle.std.specs.Prelude.{ℕ, suc, Bool, true, cond, ◌&&◌, List, [], ◌∷◌, length, eqb, leb, ltb}
use Rattle.tree.specs.Lists.{keep}
use Rattle.tree.specs.Content.{element_kind, attribute_kind, takes}

-- how many are attributes
unfoldable pub attributes : List ℕ → ℕ
attributes kinds = length (keep (λ x. eqb x attribute_kind) kinds)

-- attributes first, of kinds behind n others of which the first a, and no more, are attributes
unfoldable pub ordered_behind : ℕ → ℕ → List ℕ → Bool
ordered_behind a n [] = true
ordered_behind a n (x ∷ xs) = cond (eqb x attribute_kind) (eqb a n && ordered_behind (suc a) (suc n) xs) (ordered_behind a (suc n) xs)

-- a child of this kind as the k-th: by the children's number, how many are attributes, whether attributes are first, and whether all may be
-- there
unfoldable pub placed_by : ℕ → ℕ → ℕ → (count attributes : ℕ) (ordered allowed : Bool) → Bool
placed_by parent kind k n a ordered allowed =
    leb 1 k && leb k (suc n) && (takes parent kind && allowed && cond (eqb parent element_kind)
    (ordered && cond (eqb kind attribute_kind) (leb k (suc a)) (ltb a k)) (eqb n 0))
