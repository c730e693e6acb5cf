-- What the loops over the rows leave: the rows are the nodes held in document order, each with its depth.
use Rattle.std.specs.Prelude.{◌≡◌, ℕ, suc, ◌+◌, ◌-◌, ◌<◌, Bool, false, cond, not, ◌&&◌, length, get_or, take, drop, eqb, ltb}
use mathlib.Core.List.{List, [], ◌∷◌, ◌++◌, map, Memᴰ}
use Rattle.tree.specs.Lists.{any}
use Rattle.tree.specs.Steps.{Step, T, C, R, U, D, I, TT, RR, UU, is_named}
use Rattle.locks.specs.Modes.{Mode, union, among}
use Rattle.locks.specs.Needs.{Need, need, Lock}
use Rattle.protocol.specs.State.{Marked, has_number, seen_by, written_by, deleted_by, inserted_by, granted_to, with_held}
use Rattle.table.specs.Lists.{modify, insert}
use Rattle.table.specs.Flat as Flat
use Rattle.table.specs.Flat.{second}
use Rattle.table.specs.Layout.{Entry, no_entry}
use Rattle.rows.specs.Places.{depth, item, items, number_of, above_places}

-- the numbers ------------------------------------------------------------------------------

abbrev pub row_number : Entry → ℕ
row_number x = number_of x.1

abbrev pub row_numbers : List Entry → List ℕ
row_numbers l = map row_number l

abbrev pub number_at : List Entry → ℕ → ℕ
number_at l i = number_of (item l i)

-- no row has this number
abbrev pub Lacks : ℕ → List Entry → Type 0
Lacks n l = any (has_number n) (items l) ≡ false

-- every place is one of the rows
abbrev pub Inside : List ℕ → List Entry → Type 0
Inside is l = (i : ℕ) → Memᴰ i is → i < length l

-- ends of transactions -----------------------------------------------------------------------

-- a row of this depth lies below one that was left out
abbrev pub left_out : ℕ → ℕ → Bool
left_out below depth = Flat.left_out below depth

-- what an abort of t keeps
abbrev pub not_inserted_by : ℕ → Marked → Bool
not_inserted_by t a = not (eqb a.inserter t)

-- locks ----------------------------------------------------------------------------------------

-- t is granted these modes on a node
abbrev pub granted_modes : ℕ → List Mode → Marked → Marked
granted_modes t ms a = with_held (λ u. cond (eqb u t) (union (a.held u) (among ms)) (a.held u)) a

-- t is granted these locks, wherever a row has their numbers
abbrev pub all_granted : ℕ → List Lock → List Entry → List Entry
all_granted t ls l = map (second (granted_to t ls)) l

-- along places: t is granted ms at the first, ms' at the next, and ms'' at all others
unfoldable pub granted_along : ℕ → List Mode → List Mode → List Mode → List ℕ → List Entry → List Entry
granted_along t ms ms' ms'' [] l = l
granted_along t ms ms' ms'' (i ∷ is) l = granted_along t ms' ms'' ms'' is (modify i (second (granted_modes t ms)) l)

-- along the way up from p
abbrev pub granted_up : ℕ → Need → ℕ → List Entry → List Entry
granted_up t w p l = granted_along t w.node w.parent w.above (p ∷ above_places l p) l

-- a change below a node ------------------------------------------------------------------------

-- of the rows behind a node at depth top: those below it that are shown are changed by g, not those below one that is not shown, until one
-- that is not below the node; hidden is the least depth passed over now, 0 for none
unfoldable pub changed_below : {A : Type 0} → (A → Bool) → (A → A) → ℕ → ℕ → List (ℕ × A) → List (ℕ × A)
changed_below shown g top hidden [] = []
changed_below shown g top hidden (x ∷ xs) =
    cond (ltb top x.0)
    (cond (left_out hidden x.0) (x ∷ changed_below shown g top hidden xs)
    (cond (shown x.1) (second g x ∷ changed_below shown g top 0 xs) (x ∷ changed_below shown g top (suc x.0) xs)))
    (x ∷ xs)

-- an element named a is named b by t at level d
abbrev pub renamed_by : ℕ → ℕ → List ℕ → List ℕ → Marked → Marked
renamed_by t d a b x = cond (is_named a x.now) (written_by t d b x) x

-- UU of t at level d on the node at p
unfoldable pub renamed_rows : ℕ → ℕ → List ℕ → List ℕ → ℕ → List Entry → List Entry
renamed_rows t d a b p l =
    take p l ++ (second (renamed_by t d a b) (get_or l p no_entry) ∷ changed_below (seen_by t) (renamed_by t d a b) (depth l p) 0
    (drop (suc p) l))

-- a new child -------------------------------------------------------------------------------------

-- of the rows behind a node at depth top: how many stand before a new child that is put right behind the j-th of its children that count,
-- or
-- before all for j = 0, or behind all where there are fewer
unfoldable pub before_new : {A : Type 0} → (A → Bool) → ℕ → ℕ → List (ℕ × A) → ℕ
before_new counts top j [] = 0
before_new counts top j (x ∷ xs) =
    cond (ltb (suc top) x.0) (suc (before_new counts top j xs))
    (cond (eqb x.0 (suc top) && ltb 0 j) (suc (before_new counts top (cond (counts x.1) (j - 1) j) xs)) 0)

-- the place of a new k-th child of the node at p, of the children that t sees
unfoldable pub new_place : ℕ → ℕ → ℕ → List Entry → ℕ
new_place t k p l = suc p + before_new (seen_by t) (depth l p) (k - 1) (drop (suc p) l)

-- a granted step ------------------------------------------------------------------------------------

-- what a step of t at level d on the node at p leaves: l are the rows before, g those with the step's locks granted
abbrev pub acted : ℕ → ℕ → Step → ℕ → List Entry → List Entry → List Entry
acted t d (T n) p l g = g
acted t d (C n k) p l g = g
acted t d (R n) p l g = g
acted t d (U n b) p l g = modify p (second (written_by t d b)) g
acted t d (D n) p l g = modify p (second (deleted_by t d)) g
acted t d (I m kind b n k) p l g =
    insert (new_place t k p l)
    (suc (depth l p), granted_modes t (need (I m kind b n k)).new (inserted_by t d (record { number = m; kind = kind; content = b }))) g
acted t d (TT n) p l g = g
acted t d (RR n) p l g = g
acted t d (UU n a b) p l g = renamed_rows t d a b p g

-- the locks along the way up first, then the step
unfoldable pub stepped : ℕ → ℕ → Step → ℕ → List Entry → List Entry
stepped t d s p l = acted t d s p l (granted_up t (need s) p l)
