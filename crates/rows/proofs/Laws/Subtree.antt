-- The subtree of a place: its turns as a loop makes them, and that it gives the lines below a node that the caller sees.
use Rattle.std.specs.Prelude.{◌≡◌, ℕ, zero, suc, ◌+◌, ◌≤◌, ◌<◌, Bool, false, ◌&&◌, ◌||◌, length, get_or, drop, eqb, leb, ltb}
use Rattle.std.proofs.Math.Path.{refl, sym}
use Rattle.std.proofs.Common.{ap, ◌∙◌, arith, drop_of_length-le, drop-cons}
use Rattle.std.proofs.Math.Bool.{true, and-false, or-true}
use mathlib.Core.List.{List, [], ◌∷◌, map, append-nil, Memᴰ}
use Rattle.std.proofs.Math.Numerals.{add-one}
use borrow.Author.Tests.{lt-ltb, le-ltb, le-leb, lt-leb}
use Rattle.tree.specs.Lists.{any, every, keep}
use Rattle.tree.specs.Forest.{Forest, Row, row, view}
use Rattle.tree.specs.Document.{in_subtree, select}
use Rattle.tree.specs.Laws.Lists.{any_map, map_self, keep_all}
use Rattle.tree.specs.Laws.View.{rows_rest}
use Rattle.tree.specs.Laws.Rows.{of_rows, any_below}
use Rattle.protocol.specs.State.{Marked, Tree, has_number, seen_by, callers_document}
use Rattle.table.specs.Flat.{flat, second, prune}
use Rattle.table.specs.Layout.{Entry, no_entry}
use Rattle.rows.specs.Places.{depth, item, items, number_of, below, seen_from, subtree, seen_at}
use Rattle.rows.proofs.Laws.NodeAt.{nodes_of, lines_of, NodeAt, below_flat}
use Rattle.rows.proofs.Laws.Up.{depth_at, item_at, ups_at, rows_behind}
use Rattle.rows.proofs.Laws.Seen.{plain, seen_line, select_seen, plain_nodes}
use Rattle.rows.proofs.Laws.Find.{Holder, rows_nodes}
use Rattle.rows.proofs.Laws.Passes.{flat_view}

-- the turns --------------------------------------------------------------------------

-- a loop goes up through the places behind a node at depth e: those before i were looked at
module _ (l : List Entry) (e i : ℕ) where
  pub below_turn : i < length l → e < depth l i → below e (drop i l) ≡ get_or l i no_entry ∷ below e (drop (i + 1) l)
  unfolding below
  below_turn h k = rw (drop-cons l i no_entry h, lt-ltb e (depth l i) k, add-one i)

  pub below_left : i < length l → depth l i ≤ e → below e (drop i l) ≡ []
  unfolding below
  below_left h k = rw (drop-cons l i no_entry h, le-ltb e (depth l i) k)

  pub below_end : length l ≤ i → below e (drop i l) ≡ []
  unfolding below
  below_end h = rw (drop_of_length-le l h)

  module _ (t hidden : ℕ) where
    -- below a node that t deleted
    pub seen_hidden : i < length l → e < depth l i → 0 < hidden → hidden ≤ depth l i
        → seen_from t hidden e (drop i l) ≡ seen_from t hidden e (drop (i + 1) l)
    unfolding seen_from prune
    seen_hidden h k z m = rw (below_turn h k, lt-ltb 0 hidden z, le-leb hidden (depth l i) m)

    -- a node that t deleted, and one that t sees; it is not below one that t deleted
    module _ (h : i < length l) (k : e < depth l i) (m : 0 < hidden → depth l i < hidden) where
      not_hidden : (ltb 0 hidden && leb hidden (depth l i)) ≡ false
      not_hidden = go hidden m
        where
          go : (x : ℕ) → (0 < x → depth l i < x) → (ltb 0 x && leb x (depth l i)) ≡ false
          go zero z = refl
          go (suc x) z = rw (lt-leb (suc x) (depth l i) (z (omega arith))) (and-false (ltb 0 (suc x)))

      pub seen_deleted : seen_by t (item l i) ≡ false → seen_from t hidden e (drop i l) ≡ seen_from t (suc (depth l i)) e (drop (i + 1) l)
      unfolding seen_from prune
      seen_deleted s = rw (below_turn h k, not_hidden, s)

      pub seen_found : seen_by t (item l i) ≡ true → seen_from t hidden e (drop i l) ≡ item l i ∷ seen_from t 0 e (drop (i + 1) l)
      unfolding seen_from prune
      seen_found s = rw (below_turn h k, not_hidden, s)

    pub seen_left : i < length l → depth l i ≤ e → seen_from t hidden e (drop i l) ≡ []
    unfolding seen_from prune
    seen_left h k = rw (below_left h k)

    pub seen_end : length l ≤ i → seen_from t hidden e (drop i l) ≡ []
    unfolding seen_from prune
    seen_end h = rw (below_end h)

-- the nodes of a forest that are shown, with all above it shown
pub shown_forest : {A : Type 0} (shown : A → Bool) (up : List A) (d : ℕ) (f : Forest A) → every shown up ≡ true
    → map (λ x. x.it) (keep (λ r. every shown (r.it ∷ r.above)) (lines_of up f)) ≡ nodes_of (prune shown 0 (flat d f))
shown_forest shown up d f u =
    ap (map (λ x. x.it)) (sym (rows_rest (λ a. a) shown shown (λ a. refl) up f u)) ∙ rows_nodes (λ a. a) d up (view shown (λ a. a) f)
    ∙ ap nodes_of (flat_view shown (λ a. a) d f ∙ map_self (second (λ a. a)) (prune shown 0 (flat d f)) (λ x m. refl))

-- the lines of the subtree -----------------------------------------------------------------

under_line : (n : ℕ) (r : Row Marked Marked) → in_subtree n (plain r) ≡ any (has_number n) (r.it ∷ r.above)
under_line n r = ap (λ b. has_number n r.it || b) (any_map (λ q. eqb q n) number_of r.above)

module _ {f : Tree} {p : ℕ} (c : NodeAt 0 f p) where
  -- the rows below the place
  pub rows_below : below (depth (flat 0 f) p) (drop (suc p) (flat 0 f)) ≡ flat (suc c.depth) c.children
  rows_below =
      rw (depth_at c, rows_behind c, below_flat c.depth (suc c.depth) c.children c.behind (omega arith), c.stops)
      (append-nil (flat (suc c.depth) c.children))

module _ {f : Tree} {n p : ℕ} (o : Holder f n p) where
  rows_under : keep (λ r. in_subtree n (plain r)) (lines_of [] f)
      ≡ row o.place.it o.place.above ∷ lines_of (o.place.it ∷ o.place.above) o.place.children
  unfolding keep
  rows_under =
      let c = o.place in
      c.keeps (has_number n) (λ r. in_subtree n (plain r)) (λ r e. sym (under_line n r) ∙ e) [] refl o.before o.behind
      ∙ rw (append-nil c.above, o.number, keep_all (λ r. in_subtree n (plain r)) (lines_of (c.it ∷ c.above) c.children) inner_rows)
    where
      inner_rows : (r : Row Marked Marked) → Memᴰ r (lines_of (o.place.it ∷ o.place.above) o.place.children)
          → in_subtree n (plain r) ≡ true
      inner_rows r m =
          under_line n r
          ∙ rw (any_below (λ a. a) (has_number n) (rw o.number) (of_rows (λ a. a) r (o.place.it ∷ o.place.above)
          o.place.children m))
          (or-true (has_number n r.it))

  -- n and all below it that t sees, in document order
  pub subtree_lines : (t : ℕ) → seen_at t (flat 0 f) p ≡ true
      → map (λ r. r.it) (select (in_subtree n) (callers_document t f)) ≡ map (λ a. a.now) (subtree t (flat 0 f) p)
  unfolding keep seen_from
  subtree_lines t s =
      let c = o.place in
      let v : every (seen_by t) (c.it ∷ c.above) ≡ true = rw (item_at c, ups_at c) at s in
      let e : map (λ x. x.it) (keep (seen_line t) (lines_of (c.it ∷ c.above) c.children)) ≡ items
      (prune (seen_by t) 0 (flat (suc c.depth) c.children)) =
      shown_forest (seen_by t) (c.it ∷ c.above) (suc c.depth) c.children v in
      rw (select_seen (in_subtree n) t f, rows_under, v, item_at c, rows_below c, ← e)
      (ap (λ l. c.it.now ∷ l) (plain_nodes (keep (seen_line t) (lines_of (c.it ∷ c.above) c.children))))
