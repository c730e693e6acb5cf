-- The order of byte strings.
use Rattle.std.specs.Prelude.{ℕ, ◌<◌, ◌≡◌, List, [], ◌∷◌}
use Rattle.std.specs.declared.cmp.Ordering.{Ordering}
use Rattle.std.specs.declared.cmp.Ordering.TheVariants.{Less, Equal, Greater}

-- by the first byte that differs; one that begins the other comes first
pub data Precedes : List ℕ → List ℕ → Type 0 where
  shorter : {y : ℕ} {ys : List ℕ} → Precedes [] (y ∷ ys)
  smaller : {x y : ℕ} {xs ys : List ℕ} → x < y → Precedes (x ∷ xs) (y ∷ ys)
  later : {x : ℕ} {xs ys : List ℕ} → Precedes xs ys → Precedes (x ∷ xs) (x ∷ ys)

-- how a lies to b
pub data Ordered (a b : List ℕ) : Ordering → Type 0 where
  is_before : Precedes a b → Ordered a b Less
  is_same : a ≡ b → Ordered a b Equal
  is_behind : Precedes b a → Ordered a b Greater
