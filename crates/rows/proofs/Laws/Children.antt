-- The children of a place: their turns as a loop makes them, and that they give the lines of the children that the caller sees.
use Rattle.std.specs.Prelude.{◌≡◌, ℕ, suc, ◌+◌, ◌-◌, ◌≤◌, ◌<◌, Bool, false, cond, ◌&&◌, length, drop, eqb}
use Rattle.std.proofs.Math.Path.{refl}
use Rattle.std.proofs.Common.{ap, ◌∙◌, arith}
use Rattle.std.proofs.Math.Bool.{true, and-false, or-true}
use mathlib.Core.List.{List, [], ◌∷◌, ◌++◌, map, append-nil}
use borrow.Author.Tests.{eq-eqb, ne_eqb}
use Rattle.tree.specs.Lists.{any, every, leads, keep}
use Rattle.tree.specs.Forest.{nil, node, Row, row, rows}
use Rattle.tree.specs.Document.{child, select}
use Rattle.tree.specs.Steps.{child_is, none}
use Rattle.tree.specs.Laws.Tests.{or_left, or_right}
use Rattle.tree.specs.Laws.Lists.{keep_append}
use Rattle.protocol.specs.State.{Marked, Tree, has_number, seen_by, callers_document}
use Rattle.table.specs.Flat.{flat}
use Rattle.table.specs.Layout.{Entry}
use Rattle.rows.specs.Places.{depth, item, items, number_of, child_seen, children_from, children, seen_at}
use Rattle.rows.specs.Found.{kth_child}
use Rattle.rows.proofs.Laws.NodeAt.{nodes_of, lines_of, none_first, none_second}
use Rattle.rows.proofs.Laws.Up.{depth_at, item_at, ups_at}
use Rattle.rows.proofs.Laws.Seen.{plain, seen_line, select_seen, plain_nodes}
use Rattle.rows.proofs.Laws.Find.{Holder}
use Rattle.rows.proofs.Laws.Subtree.{below_turn, below_left, below_end, rows_below}

-- the turns --------------------------------------------------------------------------

-- a loop goes up through the places behind a node at depth e: those before i were looked at
module _ (t : ℕ) (l : List Entry) (e i : ℕ) where
  pub child_found : i < length l → depth l i ≡ suc e → seen_by t (item l i) ≡ true
      → children_from t e (drop i l) ≡ item l i ∷ children_from t e (drop (i + 1) l)
  unfolding children_from keep
  child_found h k s = rw (below_turn l e i h (omega arith), eq-eqb (depth l i) (suc e) k, s)

  pub child_deleted : i < length l → depth l i ≡ suc e → seen_by t (item l i) ≡ false
      → children_from t e (drop i l) ≡ children_from t e (drop (i + 1) l)
  unfolding children_from keep
  child_deleted h k s = rw (below_turn l e i h (omega arith), s, and-false (eqb (depth l i) (suc e)))

  -- further below
  pub child_passed : i < length l → suc e < depth l i → children_from t e (drop i l) ≡ children_from t e (drop (i + 1) l)
  unfolding children_from keep
  child_passed h k = rw (below_turn l e i h (omega arith), ne_eqb (depth l i) (suc e) (λ z. omega arith))

  pub child_left : i < length l → depth l i ≤ e → children_from t e (drop i l) ≡ []
  unfolding children_from keep
  child_left h k = rw (below_left l e i h k)

  pub child_end : length l ≤ i → children_from t e (drop i l) ≡ []
  unfolding children_from keep
  child_end h = rw (below_end l e i h)

-- the k-th child, counted down
pub kth_zero : (cs : List Marked) → kth_child 0 cs ≡ none
unfolding kth_child
kth_zero [] = refl
kth_zero (c ∷ cs) = refl

pub kth_none : (k : ℕ) → kth_child k [] ≡ none
unfolding kth_child
kth_none k = refl

pub kth_first : (c : Marked) (cs : List Marked) → kth_child 1 (c ∷ cs) ≡ child_is c.now.number c.now.kind
unfolding kth_child
kth_first c cs = refl

pub kth_later : (k : ℕ) (c : Marked) (cs : List Marked) → 1 < k → kth_child k (c ∷ cs) ≡ kth_child (k - 1) cs
unfolding kth_child
kth_later k c cs h =
    let e : k ≡ suc (suc (k - 2)) = omega arith in let z : k - 1 ≡ suc (k - 2) = omega arith in ap (λ n. kth_child n (c ∷ cs)) e ∙ rw z

-- the lines of the children -----------------------------------------------------------------

-- a row that has n as its parent's number
abbrev is_child : ℕ → Row Marked Marked → Bool
is_child n r = child n (plain r)

-- what n stands not right above, and where n is not
none_child : (n d : ℕ) (up : List Marked) (f : Tree) → leads n (map number_of up) ≡ false → any (has_number n) (nodes_of (flat d f)) ≡ false
    → keep (is_child n) (lines_of up f) ≡ []
unfolding rows keep flat
none_child n d up nil u h = refl
none_child n d up (node a ks fs) u h =
    let j : any (has_number n) (nodes_of (flat (suc d) ks ++ flat d fs)) ≡ false = or_right (has_number n a) _ h in
    rw (
      u,
      keep_append (is_child n) (lines_of (a ∷ up) ks) (lines_of up fs),
      none_child n (suc d) (a ∷ up) ks (or_left (has_number n a) _ h) (none_first (has_number n) (flat (suc d) ks) (flat d fs) j),
      none_child n d up fs u (none_second (has_number n) (flat (suc d) ks) (flat d fs) j),
    )

-- rows deeper than a forest's topmost
none_top : (t e d : ℕ) (f : Tree) → suc e < d → keep (child_seen t e) (flat d f) ≡ []
unfolding keep flat
none_top t e d nil h = refl
none_top t e d (node a ks fs) h =
    rw (
      ne_eqb d (suc e) (λ z. omega arith),
      keep_append (child_seen t e) (flat (suc d) ks) (flat d fs),
      none_top t e (suc d) ks (omega arith),
      none_top t e d fs h,
    )

-- the topmost nodes of a forest right below n
top_children : (t n e : ℕ) (up : List Marked) (f : Tree) → leads n (map number_of up) ≡ true → every (seen_by t) up ≡ true
    → any (has_number n) (nodes_of (flat (suc e) f)) ≡ false
    → map (λ r. r.it) (keep (seen_line t) (keep (is_child n) (lines_of up f))) ≡ items (keep (child_seen t e) (flat (suc e) f))
unfolding rows keep flat
top_children t n e up nil u v h = refl
top_children t n e up (node a ks fs) u v h =
    let j : any (has_number n) (nodes_of (flat (suc (suc e)) ks ++ flat (suc e) fs)) ≡ false = or_right (has_number n a) _ h in
    rw (
      u,
      keep_append (is_child n) (lines_of (a ∷ up) ks) (lines_of up fs),
      none_child n (suc (suc e)) (a ∷ up) ks (or_left (has_number n a) _ h)
          (none_first (has_number n) (flat (suc (suc e)) ks) (flat (suc e) fs) j),
      eq-eqb (suc e) (suc e) refl,
      keep_append (child_seen t e) (flat (suc (suc e)) ks) (flat (suc e) fs),
      none_top t e (suc (suc e)) ks (omega arith),
    ) (go (seen_by t a) (top_children t n e up fs u v (none_second (has_number n) (flat (suc (suc e)) ks) (flat (suc e) fs) j)))
  where
    X : List (Row Marked Marked)
    X = keep (seen_line t) (keep (is_child n) (lines_of up fs))

    Y : List Entry
    Y = keep (child_seen t e) (flat (suc e) fs)

    go : (b : Bool) → map (λ r. r.it) X ≡ items Y → map (λ r. r.it) (cond (b && every (seen_by t) up) (row a up ∷ X) X)
        ≡ items (cond b ((suc e, a) ∷ Y) Y)
    go true r = rw (v, r)
    go false r = r

module _ {f : Tree} {n p : ℕ} (o : Holder f n p) where
  not_leading : (up : List Marked) → any (has_number n) up ≡ false → leads n (map number_of up) ≡ false
  not_leading [] h = refl
  not_leading (a ∷ up) h = or_left (has_number n a) _ h

  leading : (up : List Marked) → leads n (map number_of up) ≡ true → any (has_number n) up ≡ true
  leading [] h = h
  leading (a ∷ up) h = rw h

  -- the rows of the children
  rows_child : keep (is_child n) (lines_of [] f) ≡ keep (is_child n) (lines_of (o.place.it ∷ o.place.above) o.place.children)
  unfolding keep
  rows_child =
      let c = o.place in
      c.keeps (has_number n) (is_child n) (λ r e. rw (leading r.above e) (or-true (has_number n r.it))) [] refl o.before
      o.behind
      ∙ rw (append-nil c.above, not_leading c.above (c.earlier (has_number n) o.before))

  -- the children that t sees, in order
  pub child_lines : (t : ℕ) → seen_at t (flat 0 f) p ≡ true
      → map (λ r. r.it) (select (child n) (callers_document t f)) ≡ map (λ a. a.now) (children t (flat 0 f) p)
  unfolding children_from
  child_lines t s =
      let c = o.place in
      let v : every (seen_by t) (c.it ∷ c.above) ≡ true = rw (item_at c, ups_at c) at s in
      let e : map (λ x. x.it) (keep (seen_line t) (keep (is_child n) (lines_of (c.it ∷ c.above) c.children))) ≡ items
      (keep (child_seen t c.depth) (flat (suc c.depth) c.children)) =
      top_children t n c.depth (c.it ∷ c.above) c.children o.number v o.children in
      rw (select_seen (child n) t f, rows_child, rows_below c, depth_at c, ← e)
      (plain_nodes (keep (seen_line t) (keep (is_child n) (lines_of (c.it ∷ c.above) c.children))))
