-- A number and its place: where no number is held twice, the node numbered n is the one at its place.
use Rattle.std.specs.Prelude.{◌≡◌, ℕ, zero, suc, ◌<◌, Bool, ◌||◌, length, eqb, ltb}
use Rattle.std.proofs.Math.Path.{refl, ap}
use Rattle.std.proofs.Common.{sym, ◌∙◌, arith, eqb-true, eq-eqb, lt-ltb}
use Rattle.std.proofs.Math.Bool.{true, false, cond}
use mathlib.Core.List.{List, [], ◌∷◌, ◌++◌, map, append-nil}
use Rattle.std.proofs.lemmas.List.{length-map}
use Rattle.std.proofs.Math.Dec.{leb-suc-suc}
use Rattle.std.proofs.lemmas.Bool.{eqb-false}
use Rattle.tree.specs.Lists.{any, every, has, keep}
use Rattle.tree.specs.Forest.{Forest, nil, node, Row, row, rows, view}
use Rattle.tree.specs.Document as document
use Rattle.tree.specs.Document.{Node, here, at, is, select, some?}
use Rattle.tree.specs.Laws.Tests.{or_left, or_right}
use Rattle.tree.specs.Laws.Lists.{any_map, map_append, keep_map, eqb_flip}
use Rattle.tree.specs.Laws.Distinct.{head_new}
use Rattle.protocol.specs.State.{Marked, Tree, nodes, has_number, number_held, seen_by, callers_document}
use Rattle.table.specs.Lists.{first}
use Rattle.table.specs.Flat.{flat}
use Rattle.table.specs.Laws.First.{first_passes}
use Rattle.table.specs.Layout.{Entry, no_entry}
use Rattle.rows.specs.Places.{item, items, number_of, unique, place_of, numbers_above, all_at, seen_at}
use Rattle.rows.proofs.Laws.NodeAt.{nodes_of, lines_of, NodeAt, node_at, none_first, none_second}
use Rattle.rows.proofs.Laws.Up.{item_at, ups_at}
use Rattle.rows.proofs.Laws.Seen.{as_line, shown_line, select_number}

-- all nodes held are those of the rows ---------------------------------------------------

pub rows_nodes : {A K : Type 0} (key : A → K) (d : ℕ) (up : List K) (f : Forest A) → map (λ r. r.it) (rows key up f) ≡ nodes_of (flat d f)
unfolding rows flat
rows_nodes key d up nil = refl
rows_nodes {A} {K} key d up (node a ks fs) =
    rw (
      map_append (λ (r : Row A K). r.it) (rows key (key a ∷ up) ks) (rows key up fs),
      map_append (λ (x : ℕ × A). x.1) (flat (suc d) ks) (flat d fs),
      rows_nodes key (suc d) (key a ∷ up) ks,
      rows_nodes key d up fs,
    )

pub keep_none_any : {A : Type 0} (t : A → Bool) (l : List A) → any t l ≡ false → keep t l ≡ []
unfolding keep
keep_none_any t [] h = refl
keep_none_any t (x ∷ l) h = rw (or_left (t x) _ h) (keep_none_any t l (or_right (t x) _ h))

pub nodes_held : (f : Tree) → nodes f ≡ items (flat 0 f)
unfolding nodes
nodes_held f = rows_nodes (λ a. a) 0 [] f

pub count_held : (f : Tree) → length (nodes f) ≡ length (flat 0 f)
count_held f = ap length (nodes_held f) ∙ length-map (flat 0 f) (λ x. x.1)

-- some passes exactly if the first place is inside
pub any_first : {A : Type 0} (t : A → Bool) (l : List A) → any t l ≡ ltb (first t l) (length l)
unfolding first
any_first t [] = refl
any_first t (x ∷ l) = go (t x) (any_first t l)
  where
    go : (b : Bool) → any t l ≡ ltb (first t l) (length l) → (b || any t l) ≡ ltb (cond b 0 (suc (first t l))) (suc (length l))
    go true e = sym (lt-ltb 0 (suc (length l)) (omega arith))
    go false e = e ∙ sym (leb-suc-suc (suc (first t l)) (length l))

pub held_place : (m : ℕ) (f : Tree) → number_held m f ≡ ltb (place_of m (flat 0 f)) (length (flat 0 f))
held_place m f = ap (any (has_number m)) (nodes_held f) ∙ any_map (has_number m) (λ x. x.1) (flat 0 f)
    ∙ any_first (λ (x : Entry). has_number m x.1) (flat 0 f)

-- what a search by number finds
pub found_number : (n : ℕ) (l : List Entry) → place_of n l < length l → number_of (item l (place_of n l)) ≡ n
found_number n l h = eqb-true (number_of (item l (place_of n l))) n (first_passes (λ (x : Entry). has_number n x.1) l no_entry h)

-- apart ------------------------------------------------------------------------------------

pub has_items : (n : ℕ) (l : List Entry) → has n (map (λ x. number_of x.1) l) ≡ any (has_number n) (items l)
has_items n l = any_map (λ q. eqb q n) (λ (x : Entry). number_of x.1) l ∙ sym (any_map (has_number n) (λ (x : Entry). x.1) l)

pub unique_head : (x : Entry) (l : List Entry) → unique (x ∷ l) ≡ true
    → (any (has_number (number_of x.1)) (items l) ≡ false) × (unique l ≡ true)
unique_head x l h =
    let g = head_new (λ (y : Entry). number_of y.1) x l h in
    (sym (has_items (number_of x.1) l) ∙ g.0, g.1)

-- a number that no row has is at no place
pub lacks_at : (n : ℕ) (l : List Entry) (i : ℕ) → any (has_number n) (items l) ≡ false → i < length l → number_of (item l i) ≡ n → ⊥
lacks_at n [] i h k e = omega arith
lacks_at n (x ∷ l) zero h k e = eqb-false (number_of x.1) n (or_left (has_number n x.1) _ h) e
lacks_at n (x ∷ l) (suc i) h k e = lacks_at n l i (or_right (has_number n x.1) _ h) (omega arith) e

-- a row's number is no other row's
pub alone : (l : List Entry) (x : Entry) (k : List Entry) → unique (l ++ (x ∷ k)) ≡ true
    → (any (has_number (number_of x.1)) (items l) ≡ false) × (any (has_number (number_of x.1)) (items k) ≡ false)
alone [] x k h = (refl, (unique_head x k h).0)
alone (y ∷ l) x k h =
    let g = unique_head y (l ++ (x ∷ k)) h in
    let r = alone l x k g.1 in
    let i : any (has_number (number_of y.1)) (items (x ∷ k)) ≡ false = none_second (has_number (number_of y.1)) l (x ∷ k) g.0 in
    let j : eqb (number_of x.1) (number_of y.1) ≡ false = or_left _ _ i in
    (rw (eqb_flip (number_of x.1) (number_of y.1) j) r.0, r.1)

-- the node numbered n -----------------------------------------------------------------------

-- at place p stands a node numbered n; no other has that number
pub record Holder (f : Tree) (n p : ℕ) : Type 0 where
  pub place : NodeAt 0 f p
  pub number : has_number n place.it ≡ true
  pub before : any (has_number n) (nodes_of place.before) ≡ false
  pub children : any (has_number n) (nodes_of (flat (suc place.depth) place.children)) ≡ false
  pub behind : any (has_number n) (nodes_of place.behind) ≡ false

pub holder : (f : Tree) (n p : ℕ) → unique (flat 0 f) ≡ true → p < length (flat 0 f) → number_of (item (flat 0 f) p) ≡ n → Holder f n p
holder f n p u h e =
    let c = node_at 0 f p h in
    let x : number_of c.it ≡ n = sym (ap number_of (item_at c)) ∙ e in
    let a = alone c.before (c.depth, c.it) (flat (suc c.depth) c.children ++ c.behind) (sym (ap unique c.split) ∙ u) in
    let k : any (has_number n) (nodes_of (flat (suc c.depth) c.children ++ c.behind)) ≡ false = rw x at a.1 in
    record {
      place = c;
      number = eq-eqb (number_of c.it) n x;
      before = rw x at a.0;
      children = none_first (has_number n) (flat (suc c.depth) c.children) c.behind k;
      behind = none_second (has_number n) (flat (suc c.depth) c.children) c.behind k;
    }

-- no node in the forest has the number
none_numbered : (n d : ℕ) (up : List Marked) (f : Tree) → any (has_number n) (nodes_of (flat d f)) ≡ false
    → keep (λ r. has_number n r.it) (lines_of up f) ≡ []
none_numbered n d up f h =
    keep_none_any (λ r. has_number n r.it) (lines_of up f)
    (sym (any_map (has_number n) (λ (r : Row Marked Marked). r.it) (lines_of up f)) ∙ ap (any (has_number n)) (rows_nodes (λ a. a) d up f)
    ∙ h)

module _ {f : Tree} {n p : ℕ} (o : Holder f n p) where
  rows_numbered : keep (λ r. has_number n r.it) (lines_of [] f) ≡ row o.place.it o.place.above ∷ []
  unfolding keep
  rows_numbered =
      let c = o.place in
      c.keeps (has_number n) (λ r. has_number n r.it) (λ r e. rw e) [] refl o.before o.behind
      ∙ rw (o.number, none_numbered n (suc c.depth) (c.it ∷ (c.above ++ [])) c.children o.children, append-nil c.above)

  -- it is the only one held with that number
  pub nodes_numbered : keep (has_number n) (nodes f) ≡ item (flat 0 f) p ∷ []
  unfolding nodes
  nodes_numbered =
      keep_map (has_number n) (λ r. has_number n r.it) (λ (r : Row Marked Marked). r.it) (lines_of [] f) (λ r m. refl)
      ∙ ap (map (λ r. r.it)) rows_numbered ∙ rw (item_at o.place)

-- the node numbered n in a view that leaves the nodes their numbers
module _ (shown : Marked → Bool) (g : Marked → Node) (same : (a : Marked) → (g a).number ≡ number_of a) where
  pub view_nowhere : (n : ℕ) (f : Tree) → number_held n f ≡ false → here n (view shown g f) ≡ false
  unfolding keep
  view_nowhere n f h =
      ap some? (select_number shown g same f n ∙ ap (λ l. map (as_line g) (keep (shown_line shown) l))
      (none_numbered n 0 [] f (ap (any (has_number n)) (sym (nodes_held f)) ∙ h)))

  module _ {f : Tree} {n p : ℕ} (o : Holder f n p) where
    lines_numbered : select (is n) (view shown g f) ≡ cond (all_at shown (flat 0 f) p)
        (row (g (item (flat 0 f) p)) (numbers_above (flat 0 f) p) ∷ []) []
    unfolding keep
    lines_numbered =
        rw (item_at o.place, ups_at o.place)
        (select_number shown g same f n ∙ ap (λ l. map (as_line g) (keep (shown_line shown) l)) (rows_numbered o) ∙ go
        (every shown (o.place.it ∷ o.place.above)))
      where
        go : (b : Bool) → map (as_line g) (cond b (row o.place.it o.place.above ∷ []) [])
            ≡ cond b (as_line g (row o.place.it o.place.above) ∷ []) []
        go true = refl
        go false = refl

    -- there exactly if it and all above it are shown
    pub view_here : here n (view shown g f) ≡ all_at shown (flat 0 f) p
    view_here = ap some? lines_numbered ∙ go (all_at shown (flat 0 f) p)
      where
        go : (b : Bool) → some? (cond b (row (g (item (flat 0 f) p)) (numbers_above (flat 0 f) p) ∷ []) []) ≡ b
        go true = refl
        go false = refl

    pub view_line : all_at shown (flat 0 f) p ≡ true
        → at n (view shown g f) ≡ row (g (item (flat 0 f) p)) (numbers_above (flat 0 f) p)
    view_line s = ap document.first_line lines_numbered ∙ rw s

-- the same in the caller's document
pub here_nowhere : (t n : ℕ) (f : Tree) → number_held n f ≡ false → here n (callers_document t f) ≡ false
unfolding callers_document
here_nowhere t n f h = view_nowhere (seen_by t) (λ a. a.now) (λ a. refl) n f h

module _ {f : Tree} {n p : ℕ} (o : Holder f n p) (t : ℕ) where
  -- seen exactly if the caller deleted neither it nor one above it
  pub here_at : here n (callers_document t f) ≡ seen_at t (flat 0 f) p
  unfolding callers_document
  here_at = view_here (seen_by t) (λ a. a.now) (λ a. refl) o

  pub line_at : seen_at t (flat 0 f) p ≡ true → at n (callers_document t f) ≡ row (item (flat 0 f) p).now (numbers_above (flat 0 f) p)
  unfolding callers_document
  line_at s = view_line (seen_by t) (λ a. a.now) (λ a. refl) o s
