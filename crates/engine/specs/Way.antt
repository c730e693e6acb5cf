-- The way up from a node: the places of the node and of its proper ancestors.
use Rattle.std.specs.Prelude.{ℕ, ◌≤◌, ◌<◌, ◌≡◌, true, List, ◌∷◌, map, length, get_or, take, All}
use Rattle.protocol.specs.State.{Marked}
use Rattle.table.specs.Layout.{Entry}
use Rattle.rows.specs.Places.{item, above_places, seen_at}

-- the places of the node at p and of its proper ancestors, the parent first
unfoldable pub way_up : List Entry → ℕ → List ℕ
way_up l p = p ∷ above_places l p

-- the nodes at some places
unfoldable pub nodes_at : List Entry → List ℕ → List Marked
nodes_at l is = map (item l) is

-- each is a place of the rows
abbrev pub AllInside : List Entry → List ℕ → Type 0
AllInside l is = All (λ i. i < length l) is

-- the way up from p
pub record Climbed (l : List Entry) (p : ℕ) (way : List ℕ) : Type 0 where
  pub inside : AllInside l way
  pub places : way ≡ way_up l p

-- t sees the node at p, and this is the way up from there
pub record Seen (l : List Entry) (t p : ℕ) (way : List ℕ) : Type 0 where
  pub seen : seen_at t l p ≡ true
  pub climbed : Climbed l p way

-- nodes by their places: the first `count` of a list that is lent, in any order
pub record Places : Type 0 where
  pub places : List ℕ
  pub count : ℕ

-- the places that it stands for, and the nodes there
unfoldable pub places_of : Places → List ℕ
places_of w = take w.count w.places

unfoldable pub nodes_of : List Entry → Places → List Marked
nodes_of l w = map (item l) (places_of w)

-- each is a place of the rows
pub record Inside (l : List Entry) (w : Places) : Type 0 where
  pub long : length w.places ≡ 1024
  pub room : w.count ≤ 1024
  pub inside : (j : ℕ) → j < w.count → get_or w.places j 0 < length l
