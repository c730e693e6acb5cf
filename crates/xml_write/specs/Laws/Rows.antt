-- The loops over open nodes and over rows.
use Rattle.std.specs.Prelude.{◌≡◌, refl, get_or, take, set}
use Rattle.std.proofs.Common.{sym, ◌∙◌, get_or-set_same, length-set, length-take, length-drop, get_or-take, get_or-drop}
use Rattle.std.proofs.Math.Path.{ap}
use Prim.Native.Nat.{ℕ, zero, suc, ◌+◌, ◌-◌, ◌≤◌, ◌<◌}
use mathlib.Core.List.{List, [], ◌∷◌, ◌++◌, append-nil}
use native.Mathlib.Omega.{arith}
use Rattle.std.proofs.Math.Numerals.{add-one}
use Rattle.std.proofs.Math.ListN.{length, drop, drop_of_length-le}
use borrow.Rule.Slice.PartMut.{put_mid}
use Rattle.table.specs.Layout.{Entry}
use Rattle.rows.specs.Places.{depth}
use Rattle.xml.specs.Shape.{Label}
use Rattle.xml_text.specs.Rows.{begin, end, ends, previous_of, emit, body}
use Rattle.xml_measure.specs.Lines.{label_at, line_at, lines, Listed}
use Rattle.xml_measure.specs.Laws.Lines.{length_lines, lines_from}
use Rattle.xml_measure.specs.Walk.{open_labels, OnPath, OfKinds, previous_kind, Walk}
use Rattle.xml_measure.specs.Laws.Walk.{previous_is, length_open, parent_is, opened_is, walk_below, walk_steps, walk_deep, walk_on, row_low, row_deep}
use Rattle.xml_text.specs.Lending.{Wrote, wrote_as, front, room, behind, Partly, partly_as, partly_end}
use Rattle.xml_write.specs.Texts.{of_kind, row_text}
use Rattle.xml_text.specs.Laws.Next.{Next, next}
use Rattle.xml_write.specs.Laws.Pieces.{begin_kind}

-- one node is open, at the place p and of kind k
module _ {l : List Entry} (path kinds : List ℕ) (p k : ℕ) (m : length path ≡ 1024) (n : length kinds ≡ 1024) where
  pub path_start : p < length l → OnPath l (set path 0 p) 0
  path_start h = record {
    long = length-set path 0 p ∙ m;
    deep = omega arith;
    inside = λ j i. let z : j ≡ 0 = omega arith in rw (z, get_or-set_same path 0 p 0 (omega arith)) h;
  }

  pub kinds_start : k ≡ (label_at l p).kind → OfKinds l (set path 0 p) (set kinds 0 k) 0
  kinds_start e = record {
    long = length-set kinds 0 k ∙ n;
    same = λ j i. let z : j ≡ 0 = omega arith in rw (z, get_or-set_same kinds 0 k 0 (omega arith), get_or-set_same path 0 p 0 (omega arith)) e;
  }

-- one open node more ends
pub ends_more : (l : List Entry) (path : List ℕ) (e d last : ℕ) → d < e
    → ends (e - d) (open_labels l path e) last
    ≡ end (label_at l (get_or path (e - 1) 0)) last ++ ends (e - 1 - d) (open_labels l path (e - 1)) (label_at l (get_or path (e - 1) 0)).kind
unfolding ends open_labels
ends_more l path zero d last h = absurd (omega arith)
ends_more l path (suc e) d last h =
    let z : suc e - d ≡ suc (e - d) = omega arith in
    let y : suc e - 1 ≡ e = omega arith in
    rw (z, y)

pub ends_none : (es : List Label) (e d last : ℕ) → e ≤ d → ends (e - d) es last ≡ []
unfolding ends
ends_none es e d last h = let z : e - d ≡ 0 = omega arith in rw z

-- the loop over the ends of the open nodes, from depth top up to depth d, with e nodes still open
pub record EndsTo (l : List Entry) (path : List ℕ) (top d : ℕ) (o₀ o : List ℕ) (at last e : ℕ) : Type 0 where
  pub most : e ≤ suc top
  pub partly : Partly (ends (suc top - d) (open_labels l path (suc top)) 0) (ends (e - d) (open_labels l path e) last) o₀ o at

pub ends_over : {l : List Entry} {path o₀ o : List ℕ} {top d at last e : ℕ} → EndsTo l path top d o₀ o at last e → e ≤ d
    → Wrote (ends (suc top - d) (open_labels l path (suc top)) 0) o₀ o at
ends_over {l} {path} {d = d} {last = last} {e = e} x h = partly_end (partly_as (ends_none (open_labels l path e) e d last h) x.partly)

-- the next end is that of the node at depth e - 1, at the place p
module _ {l : List Entry} {path kinds o₀ o : List ℕ} {top d at last e p : ℕ} (k : OfKinds l path kinds top) (x : EndsTo l path top d o₀ o at last e)
    (h : d < e) (room : length (ends (suc top - d) (open_labels l path (suc top)) 0) ≤ length o₀) (q : p ≡ get_or path (e - 1) 0)
  where
    pub next_end : Next (end (label_at l p) last) (ends (suc top - d) (open_labels l path (suc top)) 0)
        (ends (e - 1 - d) (open_labels l path (e - 1)) (get_or kinds (e - 1) 0)) o₀ o at
    next_end =
        let y = k.same (e - 1) (omega (arith, x.most)) in
        rw (y, q) (next (end (label_at l (get_or path (e - 1) 0)) last) _ (ends_more l path e d last h) x.partly room)

    -- once it is written
    pub ends_turn : (new : List ℕ) (r : ℕ) → Wrote (end (label_at l p) last) (take (length o - at) (drop at o)) new r
        → EndsTo l path top d o₀ (put_mid at (length o - at) o new) (at + r) (get_or kinds (e - 1) 0) (e - 1)
    ends_turn new r w = record { most = omega (arith, x.most); partly = next_end.on new r w }

-- the ends before a row, and then the row; q is the kind of its previous sibling
module _ {l : List Entry} {path kinds : List ℕ} {top : ℕ} (k : OfKinds l path kinds top) (d p q : ℕ) (f : q ≡ previous_kind kinds top d)
    (low : 1 ≤ d) (high : d ≤ suc top) where
  as_two : row_text l path top d p
      ≡ ends (suc top - d) (open_labels l path (suc top)) 0 ++ begin (of_kind (get_or kinds (d - 1) 0)) q (label_at l p)
  unfolding row_text
  as_two = rw (k.same (d - 1) (omega arith), f ∙ previous_is l path d k)
      (ap (λ (x : List ℕ). ends (suc top - d) (open_labels l path (suc top)) 0 ++ x)
      (begin_kind (label_at l (get_or path (d - 1) 0)) (previous_of (open_labels l path (suc top)) 0 d) (label_at l p)))

  module _ (o₀ : List ℕ) (h : length (row_text l path top d p) ≤ length o₀) where
    pub ends_room : length (ends (suc top - d) (open_labels l path (suc top)) 0) ≤ length o₀
    ends_room = front (ends (suc top - d) (open_labels l path (suc top)) 0) _ o₀ (rw as_two at h)

    module _ {o : List ℕ} {r : ℕ} (w : Wrote (ends (suc top - d) (open_labels l path (suc top)) 0) o₀ o r) where
      pub row_room : length (begin (of_kind (get_or kinds (d - 1) 0)) q (label_at l p)) ≤ length (take (length o - r) (drop r o))
      row_room = room _ (begin (of_kind (get_or kinds (d - 1) 0)) q (label_at l p)) o₀ o r w (rw as_two at h)

      pub row_behind : (y : List ℕ) (m : ℕ)
          → Wrote (begin (of_kind (get_or kinds (d - 1) 0)) q (label_at l p)) (take (length o - r) (drop r o)) y m
          → Wrote (row_text l path top d p) o₀ (put_mid r (length o - r) o y) (r + m)
      row_behind y m v = wrote_as (sym as_two) (behind _ _ o₀ o r w (rw as_two at h) y m v)

-- what stands for the rows from i on
abbrev pub from : List Entry → List ℕ → ℕ → List ℕ → ℕ → ℕ → List ℕ
from l places count path top i = emit (open_labels l path (suc top)) 0 (drop i (lines l places count))

pub from_start : {l : List Entry} {places : List ℕ} {count : ℕ} (path : List ℕ) → Listed l places count → get_or path 0 0 ≡ get_or places 0 0
    → body (lines l places count) ≡ from l places count path 0 1
unfolding body open_labels
from_start {l} {places} {count} path c q =
    let e : lines l places count ≡ line_at l (get_or places 0 0) ∷ drop 1 (lines l places count) = lines_from l places count
    (omega (arith, c.long, c.room)) 0 c.some in
    ap body e ∙ rw q refl

module _ {l : List Entry} {places path kinds : List ℕ} {count top i : ℕ} (c : Listed l places count) (w : Walk l places path kinds top i)
  where
    pub from_end : count ≤ i → from l places count path top i ≡ ends (suc top - 0) (open_labels l path (suc top)) 0 ++ []
    unfolding emit
    from_end h =
        let n : count ≤ length places = omega (arith, c.long, c.room) in
        let z : suc top - 0 ≡ suc top = omega arith in
        rw (
          drop_of_length-le (lines l places count) {i = i} (omega (arith, length_lines l places count n)),
          length_open l path (suc top),
          z,
        )
        (sym (append-nil _))

    -- p is the place of the i-th row, d its depth
    pub from_on : i < count → {d p : ℕ} → p ≡ get_or places i 0 → d ≡ depth l p
        → from l places count path top i ≡ row_text l path top d p ++ from l places count (set path d p) d (i + 1)
    unfolding emit row_text
    from_on h {d} {p} ep ed =
        let n : count ≤ length places = omega (arith, c.long, c.room) in
        let ei : d ≡ depth l (get_or places i 0) = ed ∙ ap (depth l) ep in
        let row : drop i (lines l places count) ≡ (d, label_at l p) ∷ drop (suc i) (lines l places count) = lines_from l places count n i h
        ∙ rw (ei, ep) in
        let b : d ≤ suc top = omega (arith, walk_steps c w h) in
        rw (
          row,
          parent_is l path (suc top) d (omega (arith, walk_below c w h)) b,
          opened_is l path (suc top) d p b (omega (arith, walk_deep c w h, w.on_path.long)),
          add-one i,
          length_open l path (suc top),
        )

    pub next_row : i < count → {d p : ℕ} → p ≡ get_or places i 0 → d ≡ depth l p → {text o₀ o : List ℕ} {at : ℕ}
        → Partly text (from l places count path top i) o₀ o at → length text ≤ length o₀
        → Next (row_text l path top d p) text (from l places count (set path d p) d (i + 1)) o₀ o at
    next_row h {d} {p} ep ed q k = next (row_text l path top d p) (from l places count (set path d p) d (i + 1)) (from_on h ep ed) q k

    pub last_ends : count ≤ i → {text o₀ o : List ℕ} {at : ℕ} → Partly text (from l places count path top i) o₀ o at
        → length text ≤ length o₀
        → Next (ends (suc top - 0) (open_labels l path (suc top)) 0) text [] o₀ o at
    last_ends h q k = next (ends (suc top - 0) (open_labels l path (suc top)) 0) [] (from_end h) q k

-- the rows behind the first, one by one
module _ {l : List Entry} {places path kinds : List ℕ} {count top j : ℕ} (c : Listed l places count) (w : Walk l places path kinds top (j + 1))
    (h : j < length (take (count - 1) (drop 1 places)))
  where
    item_in : j + 1 < count
    item_in = omega (arith, simp (length-take, length-drop) at h)

    module _ {p : ℕ} (ep : p ≡ get_or (take (count - 1) (drop 1 places)) j 0) where
      item_at : p ≡ get_or places (j + 1) 0
      item_at =
          let one : 1 + j ≡ j + 1 = omega arith in
          ep ∙ get_or-take (count - 1) (drop 1 places) j 0 (omega (arith, item_in)) ∙ get_or-drop 1 places j 0
          ∙ ap (λ i. get_or places i 0) one

      pub item_inside : p < length l
      item_inside = rw item_at (c.inside (j + 1) item_in)

      module _ {d : ℕ} (ed : d ≡ depth l p) where
        depth_at : d ≡ depth l (get_or places (j + 1) 0)
        depth_at = ed ∙ ap (depth l) item_at

        pub item_low : 1 ≤ d
        item_low = row_low c w item_in depth_at

        pub item_deep : d < 1024
        item_deep = row_deep c w item_in depth_at

        pub item_on : {k : ℕ} → k ≡ (label_at l p).kind → Walk l places (set path d p) (set kinds d k) d (j + 1 + 1)
        item_on e = walk_on c w item_in depth_at item_at e

        pub item_next : {text o₀ o : List ℕ} {at : ℕ} → Partly text (from l places count path top (j + 1)) o₀ o at → length text ≤ length o₀
            → Next (row_text l path top d p) text (from l places count (set path d p) d (j + 1 + 1)) o₀ o at
        item_next q k = next_row c w item_in item_at ed q k

-- no row is left
module _ {l : List Entry} {places path kinds : List ℕ} {count top j : ℕ} (c : Listed l places count) (w : Walk l places path kinds top (j + 1))
    (h : length (take (count - 1) (drop 1 places)) ≤ j)
  where
    pub rows_over : {text o₀ o : List ℕ} {at : ℕ} → Partly text (from l places count path top (j + 1)) o₀ o at → length text ≤ length o₀
        → Next (ends (suc top - 0) (open_labels l path (suc top)) 0) text [] o₀ o at
    rows_over q k = last_ends c w (omega (arith, c.long, c.room, c.some, simp (length-take, length-drop) at h)) q k
