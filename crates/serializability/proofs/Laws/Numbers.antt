-- The places of a marked tree: where they are after an edit, and that no two have one number.
use Rattle.std.specs.Prelude.{ℕ, ◌≡◌, Bool, true, false}
use Rattle.std.proofs.Math.Path.{refl}
use Rattle.std.proofs.Common.{sym, ◌∙◌, true≢false, eq-eqb}
use mathlib.Core.List.{List, [], ◌∷◌, map, Memᴰ}
use Rattle.tree.specs.Lists.{every, keep, distinct}
use Rattle.tree.specs.Forest.{row, rows, view, put}
use Rattle.tree.specs.Laws.Lists.{map_map, at_any, map_in, in_map}
use Rattle.tree.specs.Laws.Distinct.{distinct_one, distinct_keep}
use Rattle.tree.specs.Laws.Rows.{to_rows, of_rows}
use Rattle.tree.specs.Laws.Amend.{rows_amend, in_amend, amend_in}
use Rattle.tree.specs.Laws.View.{rows_view, in_view, view_in}
use Rattle.serializability.proofs.Laws.Uniqueness.{put_distinct}
use Rattle.protocol.specs.State.{Marked, Tree, nodes, has_number, number_held, mark}
use Rattle.serializability.proofs.Laws.Shown.{Place, Inside, path, numbers_of}

abbrev pub number_of : Place → ℕ
number_of r = r.it.now.number

-- no two nodes held have one number
unfoldable pub Distinct : Tree → Type 0
Distinct f = distinct (map number_of (rows (λ a. a) [] f)) ≡ true

pub distinct_numbers : (f : Tree) → Distinct f → distinct (map (λ a. a.now.number) (nodes f)) ≡ true
unfolding Distinct nodes
distinct_numbers f h = rw (map_map (λ (a : Marked). a.now.number) (λ (r : Place). r.it) number_of (rows (λ a. a) [] f) (λ r m. refl)) h

-- a number has one place
pub one_place : (f : Tree) → Distinct f → {r s : Place} → Inside r f → Inside s f → number_of r ≡ number_of s → r ≡ s
unfolding Distinct
one_place f h i j e = distinct_one number_of (rows (λ a. a) [] f) h (to_rows (λ a. a) i) (to_rows (λ a. a) j) e

-- a number that has a place is held
pub place_held : (n : ℕ) (f : Tree) {r : Place} → Inside r f → number_of r ≡ n → number_held n f ≡ true
unfolding nodes
place_held n f {r} i e = at_any (has_number n) (map (λ (x : Place). x.it) (rows (λ a. a) [] f))
    (map_in (λ (x : Place). x.it) (to_rows (λ a. a) i)) (eq-eqb _ n e)

-- a node of the tree, whose place is among the nodes
pub place_node : (f : Tree) {r : Place} → Inside r f → Memᴰ r.it (nodes f)
unfolding nodes
place_node f i = map_in (λ (x : Place). x.it) (to_rows (λ a. a) i)

pub node_place : (f : Tree) {a : Marked} → Memᴰ a (nodes f) → (r : Place) × Inside r f × (r.it ≡ a)
unfolding nodes
node_place f m =
    let b = in_map (λ (r : Place). r.it) (rows (λ a. a) [] f) m in
    (b.0, of_rows (λ a. a) b.0 [] f b.1, sym b.2)

-- other marks ------------------------------------------------------------------------------

module _ (c : Place → Marked) where
  -- the nodes above, marked anew
  abbrev pub marked_above : List Marked → List Marked
  marked_above [] = []
  marked_above (a ∷ p) = c (row a p) ∷ marked_above p

  abbrev pub marked : Place → Place
  marked r = row (c r) (marked_above r.above)

  -- a place afterwards was one before; a place before is one afterwards
  pub in_mark : (f : Tree) {r : Place} → Inside r (mark c f) → (s : Place) × Inside s f × (r ≡ marked s)
  in_mark f i = in_amend (λ a. a) (λ a. a) c marked_above (λ a p. refl) [] f i

  pub mark_in : (f : Tree) {s : Place} → Inside s f → Inside (marked s) (mark c f)
  mark_in f i = amend_in (λ a. a) (λ a. a) c marked_above (λ a p. refl) [] f i

  module _ (same_number : (r : Place) → (c r).now.number ≡ number_of r) where
    pub marked_numbers : (p : List Marked) → numbers_of (marked_above p) ≡ numbers_of p
    marked_numbers [] = refl
    marked_numbers (a ∷ p) = rw (same_number (row a p), marked_numbers p)

    pub mark_distinct : (f : Tree) → Distinct f → Distinct (mark c f)
    unfolding Distinct
    mark_distinct f h = rw (
      rows_amend (λ a. a) (λ a. a) c marked_above (λ a p. refl) [] f,
      map_map number_of marked number_of (rows (λ a. a) [] f) (λ r m. same_number r),
    ) h

-- a part of the tree, with other marks -----------------------------------------------------

module _ (stays : Marked → Bool) (g : Marked → Marked) where
  abbrev pub seen_as : Place → Place
  seen_as r = row (g r.it) (map g r.above)

  pub in_part : (f : Tree) {r : Place} → Inside r (view stays g f)
      → (s : Place) × Inside s f × (every stays (path s) ≡ true) × (r ≡ seen_as s)
  in_part f i = in_view (λ a. a) stays stays (λ a. refl) g (λ a. a) g (λ a. refl) [] f refl i

  pub part_in : (f : Tree) {s : Place} → Inside s f → every stays (path s) ≡ true → Inside (seen_as s) (view stays g f)
  part_in f i e = view_in (λ a. a) stays stays (λ a. refl) g (λ a. a) g (λ a. refl) [] f refl i e

  pub part_distinct : ((a : Marked) → (g a).now.number ≡ a.now.number) → (f : Tree) → Distinct f → Distinct (view stays g f)
  unfolding Distinct
  part_distinct h f d = rw (
    rows_view (λ a. a) stays stays (λ a. refl) g (λ a. a) g (λ a. refl) [] f refl,
    map_map number_of seen_as number_of (keep (λ r. every stays (path r)) (rows (λ a. a) [] f)) (λ r m. h r.it),
  )
      (distinct_keep number_of (λ r. every stays (path r)) (rows (λ a. a) [] f) d)

-- a new node -------------------------------------------------------------------------------

pub inserted_distinct : (n : ℕ) (counts : Marked → Bool) (k : ℕ) (new : Marked) (f : Tree) → Distinct f
    → number_held new.now.number f ≡ false → Distinct (put (has_number n) counts k new f)
unfolding Distinct
inserted_distinct n counts k new f d h = put_distinct (λ (a : Marked). a.now.number) (λ a. a) n counts k new [] f d
    (λ r m e. true≢false (sym (place_held new.now.number f (of_rows (λ a. a) r [] f m) e) ∙ h))
