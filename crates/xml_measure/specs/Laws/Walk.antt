-- The open nodes of a pass.
use Rattle.std.specs.Prelude.{◌≡◌, Bool, List, length, set, eqb}
use Rattle.std.proofs.Math.Path.{refl, ap}
use Rattle.std.proofs.Common.{sym, ◌∙◌, length-set, get_or-set_other}
use Prim.Native.Nat.{ℕ, zero, suc, ◌+◌, ◌-◌, ◌≤◌, ◌<◌}
use Rattle.std.proofs.Math.Bool.{true, false}
use native.Mathlib.Omega.{arith}
use Rattle.std.proofs.Math.ListN.{get_or, drop, get_or-map}
use Rattle.std.proofs.Math.Seq.{get_or-set_same}
use Rattle.std.proofs.Math.Dec.{leb}
use borrow.Author.Tests.{lt-ltb, le-ltb, eqb-true, eqb-false, leb-true, leb-false}
use Rattle.table.specs.Layout.{Entry}
use Rattle.rows.specs.Places.{depth}
use Rattle.xml.specs.Shape.{Label}
use Rattle.xml_text.specs.Rows.{no_label, parent_of, previous_of, opened}
use Rattle.xml_measure.specs.Lines.{label_at, Listed}
use Rattle.xml_measure.specs.Walk.{open_labels, OfKinds, previous_kind, Walk}

module _ (l : List Entry) (path : List ℕ) where
  pub length_open : (n : ℕ) → length (open_labels l path n) ≡ n
  unfolding open_labels
  length_open zero = refl
  length_open (suc n) = ap suc (length_open n)

  drop_open : (n d : ℕ) → d ≤ n → drop (n - d) (open_labels l path n) ≡ open_labels l path d
  unfolding open_labels
  drop_open zero d h = let z : d ≡ 0 = omega arith in rw z
  drop_open (suc n) d h = go (leb d n) refl (λ k. drop_open n d k)
    where
      go : (b : Bool) → leb d n ≡ b → (d ≤ n → drop (n - d) (open_labels l path n) ≡ open_labels l path d)
          → drop (suc n - d) (open_labels l path (suc n)) ≡ open_labels l path d
      go true e r =
          let k : d ≤ n = leb-true d n e in
          let z : suc n - d ≡ suc (n - d) = omega arith in
          rw z (r k)
      go false e r =
          let k : d ≡ suc n = omega (arith, leb-false d n e) in
          let z : suc n - suc n ≡ 0 = omega arith in
          rw (k, z)

  at_open : (n d : ℕ) → d < n → get_or (open_labels l path n) (n - suc d) no_label ≡ label_at l (get_or path d 0)
  unfolding open_labels
  at_open zero d h = absurd (omega arith)
  at_open (suc n) d h = go (leb (suc d) n) refl (λ k. at_open n d k)
    where
      go : (b : Bool) → leb (suc d) n ≡ b → (d < n → get_or (open_labels l path n) (n - suc d) no_label ≡ label_at l (get_or path d 0))
          → get_or (open_labels l path (suc n)) (suc n - suc d) no_label ≡ label_at l (get_or path d 0)
      go true e r =
          let k : suc d ≤ n = leb-true (suc d) n e in
          let z : suc n - suc d ≡ suc (n - suc d) = omega arith in
          rw z (r (omega arith))
      go false e r =
          let k : d ≡ n = omega (arith, leb-false (suc d) n e) in
          let z : suc n - suc n ≡ 0 = omega arith in
          rw (k, z)

  -- the parent of a node at depth d, from the place at depth d - 1
  pub parent_is : (n d : ℕ) → 1 ≤ d → d ≤ n → parent_of (open_labels l path n) d ≡ label_at l (get_or path (d - 1) 0)
  parent_is n d a b =
      let z : n - d ≡ n - suc (d - 1) = omega arith in
      rw (length_open n, z) (at_open n (d - 1) (omega arith))

  -- its previous sibling
  pub previous_none : (n d : ℕ) → n ≤ d → 0 ≡ previous_of (open_labels l path n) 0 d
  previous_none n d h = let z : n - d ≡ 0 = omega arith in rw (length_open n, z)

  pub previous_some : (n d : ℕ) → d < n → (label_at l (get_or path d 0)).kind ≡ previous_of (open_labels l path n) 0 d
  previous_some n d h =
      let z : n - d ≡ suc (n - suc d) = omega arith in
      rw (length_open n, z) (sym (get_or-map (λ (a : Label). a.kind) (open_labels l path n) (n - suc d) no_label ∙ ap
      (λ (a : Label). a.kind) (at_open n d h)))

  -- a place stored at a depth leaves those above it
  set_open : (n d p : ℕ) → n ≤ d → open_labels l (set path d p) n ≡ open_labels l path n
  unfolding open_labels
  set_open zero d p h = refl
  set_open (suc n) d p h = rw (get_or-set_other path d n p 0 (λ e. omega arith), set_open n d p (omega arith))

  -- the open nodes behind the node at p, of depth d
  pub opened_is : (n d p : ℕ) → d ≤ n → d < length path
      → opened (open_labels l path n) (d, label_at l p) ≡ open_labels l (set path d p) (suc d)
  unfolding open_labels
  opened_is n d p h k = rw (length_open n, drop_open n d h, get_or-set_same path d p 0 k, set_open d d p (omega arith))

-- the kinds by depth --------------------------------------------------------------------------------

module _ (kinds : List ℕ) (top d : ℕ) where
  pub first_child : top < d → 0 ≡ previous_kind kinds top d
  unfolding previous_kind
  first_child h = rw (lt-ltb top d h)

  pub later_child : d ≤ top → get_or kinds d 0 ≡ previous_kind kinds top d
  unfolding previous_kind
  later_child h = rw (le-ltb top d h)

-- that kind is the one that the rows are measured and written with
pub previous_is : (l : List Entry) (path : List ℕ) {kinds : List ℕ} {top : ℕ} (d : ℕ) → OfKinds l path kinds top
    → previous_kind kinds top d ≡ previous_of (open_labels l path (suc top)) 0 d
previous_is l path {kinds} {top} d o = go (leb d top) refl
  where
    go : (b : Bool) → leb d top ≡ b → previous_kind kinds top d ≡ previous_of (open_labels l path (suc top)) 0 d
    go true e =
        let h : d ≤ top = leb-true d top e in
        sym (later_child kinds top d h) ∙ o.same d h ∙ previous_some l path (suc top) d (omega arith)
    go false e =
        let h : top < d = omega (arith, leb-false d top e) in
        sym (first_child kinds top d h) ∙ previous_none l path (suc top) d (omega arith)

-- a place and its kind stored at depth d
set_kinds : {l : List Entry} (path kinds : List ℕ) (d p : ℕ) {k : ℕ} → length path ≡ 1024 → length kinds ≡ 1024 → d < 1024
    → ((j : ℕ) → j < d → get_or kinds j 0 ≡ (label_at l (get_or path j 0)).kind) → k ≡ (label_at l p).kind
    → OfKinds l (set path d p) (set kinds d k) d
set_kinds {l} path kinds d p {k} m n h above e = record { long = length-set kinds d k ∙ n; same = λ j i. go j i (eqb j d) refl }
  where
    go : (j : ℕ) → j ≤ d → (b : Bool) → eqb j d ≡ b → get_or (set kinds d k) j 0 ≡ (label_at l (get_or (set path d p) j 0)).kind
    go j i true z = rw (eqb-true j d z, get_or-set_same kinds d k 0 (omega arith), get_or-set_same path d p 0 (omega arith)) e
    go j i false z =
        let y = eqb-false j d z in
        rw (get_or-set_other kinds d j k 0 y, get_or-set_other path d j p 0 y) (above j (omega (arith, y)))

-- the pass -------------------------------------------------------------------------------------------

pub walk_start : {l : List Entry} {places : List ℕ} {count : ℕ} (path kinds : List ℕ) → Listed l places count → length path ≡ 1024
    → length kinds ≡ 1024
    → {k : ℕ} → k ≡ (label_at l (get_or places 0 0)).kind → Walk l places (set path 0 (get_or places 0 0)) (set kinds 0 k) 0 1
walk_start {l} {places} path kinds c n m e = record {
  on_path = record {
    long = length-set path 0 (get_or places 0 0) ∙ n;
    deep = omega arith;
    inside = λ j h. let z : j ≡ 0 = omega arith in rw (z, get_or-set_same path 0 (get_or places 0 0) 0 (omega arith)) (c.inside 0 c.some);
  };
  of_kinds = set_kinds path kinds 0 (get_or places 0 0) n m (omega arith) (λ j h. absurd (omega arith)) e;
  some = omega arith;
  high = omega arith;
  row = sym c.first;
}

module _ {l : List Entry} {places path kinds : List ℕ} {count top i : ℕ} (c : Listed l places count) (w : Walk l places path kinds top i)
    (h : i < count) where
  same_place : suc (i - 1) ≡ i
  same_place = omega (arith, w.some)

  pub walk_below : 1 ≤ depth l (get_or places i 0)
  walk_below = rw same_place at (c.below (i - 1) (omega (arith, w.some)))

  pub walk_steps : depth l (get_or places i 0) ≤ suc top
  walk_steps = rw (same_place, ← w.row) at (c.steps (i - 1) (omega (arith, w.some)))

  pub walk_deep : depth l (get_or places i 0) < 1024
  walk_deep = omega (arith, walk_steps, w.high, c.room)

  -- the parent of the i-th row
  module _ {d : ℕ} (e : d ≡ depth l (get_or places i 0)) where
    pub walk_parent : get_or path (d - 1) 0 < length l
    walk_parent = w.on_path.inside (d - 1) (omega (arith, walk_steps))

    pub walk_kind : get_or kinds (d - 1) 0 ≡ (label_at l (get_or path (d - 1) 0)).kind
    walk_kind = w.of_kinds.same (d - 1) (omega (arith, walk_steps))

  pub walk_on : {d p k : ℕ} → d ≡ depth l (get_or places i 0) → p ≡ get_or places i 0 → k ≡ (label_at l p).kind
      → Walk l places (set path d p) (set kinds d k) d (i + 1)
  walk_on {d} {p} {k} e q f = record {
    on_path = record {
      long = length-set path d p ∙ w.on_path.long;
      deep = omega (arith, walk_deep);
      inside = λ j k. go j k (eqb j d) refl;
    };
    of_kinds = set_kinds path kinds d p w.on_path.long w.of_kinds.long (omega (arith, walk_deep))
        (λ j i. w.of_kinds.same j (omega (arith, walk_steps))) f;
    some = omega arith;
    high = omega (arith, walk_steps, w.high);
    row = let z : i + 1 - 1 ≡ i = omega arith in rw z e;
  }
    where
      go : (j : ℕ) → j ≤ d → (b : Bool) → eqb j d ≡ b → get_or (set path d p) j 0 < length l
      go j k true z = rw (eqb-true j d z, get_or-set_same path d p 0 (omega (arith, w.on_path.long, walk_deep)), q) (c.inside i h)
      go j k false z = let y = eqb-false j d z in rw (get_or-set_other path d j p 0 y) (w.on_path.inside j (omega (arith, y, walk_steps)))

-- the row at place i, of depth d
module _ {l : List Entry} {places path kinds : List ℕ} {count top i d : ℕ} (c : Listed l places count) (w : Walk l places path kinds top i)
    (h : i < count) (e : d ≡ depth l (get_or places i 0)) where
  pub row_low : 1 ≤ d
  row_low = omega (arith, e, walk_below c w h)

  pub row_deep : d < 1024
  row_deep = omega (arith, e, walk_deep c w h)
