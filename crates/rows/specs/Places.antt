-- Places in the rows of a tree: what loops over them compute. Rows are the nodes held in document order, each with its depth.
use Rattle.std.specs.Prelude.{ℕ, zero, suc, Bool, cond, ◌&&◌, List, [], ◌∷◌, map, get_or, drop, eqb, ltb}
use Rattle.tree.specs.Lists.{every, keep}
use Rattle.protocol.specs.State.{nobody, Marked, has_number, seen_by}
use Rattle.table.specs.Lists.{first}
use Rattle.table.specs.Flat.{prune}
use Rattle.table.specs.Layout.{Entry, no_entry}
pub use Rattle.table.specs.Encoding.{unique}

-- the depth and the node at a place
abbrev pub depth : List Entry → ℕ → ℕ
depth l i = (get_or l i no_entry).0

abbrev pub item : List Entry → ℕ → Marked
item l i = (get_or l i no_entry).1

abbrev pub items : List Entry → List Marked
items l = map (λ x. x.1) l

abbrev pub number_of : Marked → ℕ
number_of a = a.now.number

-- the first place with this number, or the length
abbrev pub place_of : ℕ → List Entry → ℕ
place_of n l = first (λ x. has_number n x.1) l

-- the way up -----------------------------------------------------------------------

-- of the places before i, the nearest first: those of the proper ancestors of a node at depth e
unfoldable pub climb : List Entry → ℕ → ℕ → List ℕ
climb l e zero = []
climb l e (suc i) = cond (ltb (depth l i) e) (i ∷ climb l (depth l i) i) (climb l e i)

-- the places of the proper ancestors of the node at p, the parent first ("above")
unfoldable pub above_places : List Entry → ℕ → List ℕ
above_places l p = climb l (depth l p) p

-- those nodes, and their numbers
unfoldable pub ups : List Entry → ℕ → List Marked
ups l p = map (item l) (above_places l p)

abbrev pub numbers_above : List Entry → ℕ → List ℕ
numbers_above l p = map number_of (ups l p)

-- the node at p and all above it pass
abbrev pub all_at : (Marked → Bool) → List Entry → ℕ → Bool
all_at q l p = every q (item l p ∷ ups l p)

-- t deleted neither the node at p nor one above it
abbrev pub seen_at : ℕ → List Entry → ℕ → Bool
seen_at t l p = all_at (seen_by t) l p

-- no open transaction inserted it, whatever is above it
abbrev pub is_committed : Marked → Bool
is_committed a = eqb a.inserter nobody

-- the way forward ------------------------------------------------------------------

-- of the rows behind a node at depth e: those below it
unfoldable pub below : {A : Type 0} → ℕ → List (ℕ × A) → List (ℕ × A)
below e [] = []
below e (x ∷ xs) = cond (ltb e x.0) (x ∷ below e xs) []

-- a child of a node at depth e, if it is below that node; t did not delete it
abbrev pub child_seen : ℕ → ℕ → Entry → Bool
child_seen t e x = eqb x.0 (suc e) && seen_by t x.1

-- of the rows behind a node at depth e: its children that t sees, in order
unfoldable pub children_from : ℕ → ℕ → List Entry → List Marked
children_from t e l = items (keep (child_seen t e) (below e l))

abbrev pub children : ℕ → List Entry → ℕ → List Marked
children t l p = children_from t (depth l p) (drop (suc p) l)

-- of the rows behind a node at depth e: those below it that t sees, in order; hidden is the least depth that is left out now, 0 for none
unfoldable pub seen_from : ℕ → ℕ → ℕ → List Entry → List Marked
seen_from t hidden e l = items (prune (seen_by t) hidden (below e l))

-- the node at p and all below it that t sees, in document order
abbrev pub subtree : ℕ → List Entry → ℕ → List Marked
subtree t l p = item l p ∷ seen_from t 0 (depth l p) (drop (suc p) l)
