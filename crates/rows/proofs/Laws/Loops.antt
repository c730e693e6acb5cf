-- The loops of UU and of the place of a new child, turn by turn.
use Rattle.std.specs.Prelude.{◌≡◌, Bool, get_or, drop, eqb}
use Rattle.std.proofs.Math.Path.{sym, ap}
use Rattle.std.proofs.Common.{◌∙◌, drop_of_length-le, take-append-drop, take-suc, take_all}
use Prim.Native.Nat.{ℕ, suc, ◌+◌, ◌-◌, ◌≤◌, ◌<◌}
use Rattle.std.proofs.Math.Bool.{true, false, cond, and-false}
use mathlib.Core.List.{List, ◌∷◌, ◌++◌, append-nil}
use native.Mathlib.Omega.{arith}
use Rattle.std.proofs.Math.Numerals.{add-one}
use Rattle.std.proofs.Math.Nat.{add-zero}
use Rattle.std.proofs.Math.ListN.{length, take}
use Rattle.std.proofs.Math.Seq.{drop-cons, append_snoc}
use borrow.Author.Tests.{lt-ltb, le-ltb, eq-eqb, ne_eqb}
use Rattle.tree.specs.Lists.{keep}
use Rattle.tree.specs.Steps.{is_named}
use Rattle.protocol.specs.State.{Marked, seen_by}
use Rattle.table.specs.Lists.{modify}
use Rattle.table.specs.Flat.{second}
use Rattle.table.specs.Layout.{Entry, no_entry}
use Rattle.rows.specs.Places.{depth, item, seen_from, subtree}
use Rattle.rows.proofs.Laws.Subtree.{seen_hidden, seen_deleted, seen_found, seen_left, seen_end}
use Rattle.rows.proofs.Laws.Passes.{left_out_parts, open_left_out}
use Rattle.rows.proofs.Laws.Lists.{take_modify, drop_modify}
use Rattle.rows.specs.Rows.{left_out, changed_below, renamed_by, renamed_rows, before_new, new_place}

-- rows changed below a node at depth top: of l the first i are done, those from i on are yet to do; w is what is wanted ----------

module _ {A : Type 0} (shown : A → Bool) (g : A → A) (top : ℕ) (w : List (ℕ × A)) where
  abbrev pub Changing : List (ℕ × A) → ℕ → ℕ → Type 0
  Changing l i hidden = take i l ++ changed_below shown g top hidden (drop i l) ≡ w

  module _ (l : List (ℕ × A)) (i hidden : ℕ) (x : ℕ × A) (v : Changing l i hidden) where
    -- at the end of the rows, or of the subtree
    pub changed_end : length l ≤ i → l ≡ w
    unfolding changed_below
    changed_end h = sym (take_all i l h) ∙ sym (append-nil (take i l)) ∙ (rw (drop_of_length-le l h) at v)

    module _ (h : i < length l) where
      row_at : drop i l ≡ get_or l i x ∷ drop (i + 1) l
      row_at = drop-cons l i x h ∙ rw (add-one i)

      pub changed_out : (get_or l i x).0 ≤ top → l ≡ w
      unfolding changed_below
      changed_out k = sym (take-append-drop i l) ∙ ap (λ (r : List (ℕ × A)). take i l ++ r)
          (row_at ∙ sym (rw (row_at, le-ltb top (get_or l i x).0 k))) ∙ v

      module _ (k : top < (get_or l i x).0) where
        stays : (m : ℕ) → changed_below shown g top hidden (get_or l i x ∷ drop (i + 1) l)
            ≡ get_or l i x ∷ changed_below shown g top m (drop (i + 1) l)
            → Changing l (i + 1) m
        stays m e =
            rw (add-one i, take-suc l i x h, append_snoc, ← add-one i)
            (ap (λ (r : List (ℕ × A)). take i l ++ r) (sym e ∙ ap (changed_below shown g top hidden) (sym row_at)) ∙ v)

        -- a row below one that is not shown
        pub changed_hidden : left_out hidden (get_or l i x).0 ≡ true → Changing l (i + 1) hidden
        unfolding changed_below
        changed_hidden e = stays hidden (rw (lt-ltb top (get_or l i x).0 k, e))

        module _ (e : left_out hidden (get_or l i x).0 ≡ false) where
          pub changed_unseen : shown (get_or l i x).1 ≡ false → Changing l (i + 1) ((get_or l i x).0 + 1)
          unfolding changed_below
          changed_unseen s = stays ((get_or l i x).0 + 1) (rw (lt-ltb top (get_or l i x).0 k, e, s, add-one (get_or l i x).0))

          pub changed_row : shown (get_or l i x).1 ≡ true → Changing (modify i (second g) l) (i + 1) 0
          unfolding changed_below
          changed_row s =
              rw (add-one i, take_modify i (second g) l x h, drop_modify i (second g) l, append_snoc, ← add-one i)
              (ap (λ (r : List (ℕ × A)). take i l ++ r) (sym (rw (row_at, lt-ltb top (get_or l i x).0 k, e, s))) ∙ v)

-- the place of a new child: q is wanted, the rows before i were passed by, and j children are yet to be counted -----------------

module _ {A : Type 0} (counts : A → Bool) (top : ℕ) (q : ℕ) where
  abbrev pub Placing : List (ℕ × A) → ℕ → ℕ → Type 0
  Placing l i j = q ≡ i + before_new counts top j (drop i l)

  module _ (l : List (ℕ × A)) (i j : ℕ) (x : ℕ × A) (v : Placing l i j) where
    -- at the end of the rows, or of the subtree, or at a child once all were counted
    pub placed_end : length l ≤ i → q ≡ i
    unfolding before_new
    placed_end h = v ∙ rw (drop_of_length-le l h, add-zero)

    module _ (h : i < length l) where
      pub placed_out : (get_or l i x).0 ≤ top → q ≡ i
      unfolding before_new
      placed_out k =
          v ∙ rw (
            drop-cons l i x h,
            le-ltb (suc top) (get_or l i x).0 (omega arith),
            ne_eqb (get_or l i x).0 (suc top) (λ e. omega arith),
            add-zero,
          )

      pub placed_here : (get_or l i x).0 ≡ top + 1 → j ≡ 0 → q ≡ i
      unfolding before_new
      placed_here k z =
          let e : (get_or l i x).0 ≡ suc top = omega arith in
          v
          ∙ rw (
            drop-cons l i x h,
            le-ltb (suc top) (get_or l i x).0 (omega arith),
            z,
            le-ltb 0 0 (omega arith),
            and-false (eqb (get_or l i x).0 (suc top)),
            add-zero,
          )

      -- a row that is no child is passed by, and so is a child, counted or not
      pub placed_deeper : top + 1 < (get_or l i x).0 → Placing l (i + 1) j
      unfolding before_new
      placed_deeper k = v ∙ rw (drop-cons l i x h, lt-ltb (suc top) (get_or l i x).0 (omega arith), add-one i) (omega arith)

      module _ (k : (get_or l i x).0 ≡ top + 1) (z : 0 < j) where
        child : before_new counts top j (drop i l) ≡ suc (before_new counts top (cond (counts (get_or l i x).1) (j - 1) j) (drop (i + 1) l))
        unfolding before_new
        child = rw (
          drop-cons l i x h,
          le-ltb (suc top) (get_or l i x).0 (omega arith),
          eq-eqb (get_or l i x).0 (suc top) (omega arith),
          lt-ltb 0 j z,
          add-one i,
        )

        pub placed_counted : counts (get_or l i x).1 ≡ true → Placing l (i + 1) (j - 1)
        placed_counted c = v ∙ rw (child, c) (omega arith)

        pub placed_other : counts (get_or l i x).1 ≡ false → Placing l (i + 1) j
        placed_other c = v ∙ rw (child, c) (omega arith)

-- the answer of UU: total elements are wanted, hits were met before i ----------------------------------------------------------------

module _ (t : ℕ) (a : List ℕ) (e total : ℕ) where
  abbrev pub Counting : List Entry → ℕ → ℕ → ℕ → Type 0
  Counting l i hidden hits = total ≡ hits + length (keep (λ x. is_named a x.now) (seen_from t hidden e (drop i l)))

  module _ (l : List Entry) (i hidden hits : ℕ) (v : Counting l i hidden hits) where
    pub counted_end : length l ≤ i → total ≡ hits
    unfolding keep
    counted_end h = v ∙ rw (seen_end l e i t hidden h) (omega arith)

    module _ (h : i < length l) where
      pub counted_out : depth l i ≤ e → total ≡ hits
      unfolding keep
      counted_out k = v ∙ rw (seen_left l e i t hidden h k) (omega arith)

      module _ (k : e < depth l i) where
        pub counted_hidden : left_out hidden (depth l i) ≡ true → Counting l (i + 1) hidden hits
        counted_hidden o = let m = left_out_parts hidden (depth l i) o in v ∙ rw (seen_hidden l e i t hidden h k m.0 m.1)

        module _ (o : left_out hidden (depth l i) ≡ false) where
          pub counted_unseen : seen_by t (item l i) ≡ false → Counting l (i + 1) (depth l i + 1) hits
          counted_unseen s = v ∙ rw (seen_deleted l e i t hidden h k (open_left_out hidden (depth l i) o) s, add-one (depth l i))

          pub counted_other : seen_by t (item l i) ≡ true → is_named a (item l i).now ≡ false → Counting l (i + 1) 0 hits
          unfolding keep
          counted_other s n = v ∙ rw (seen_found l e i t hidden h k (open_left_out hidden (depth l i) o) s, n)

          -- an element so named is counted, and may be changed
          pub counted_hit : (g : Entry → Entry) → seen_by t (item l i) ≡ true → is_named a (item l i).now ≡ true
              → Counting (modify i g l) (i + 1) 0 (hits + 1)
          unfolding keep
          counted_hit g s n =
              v ∙ rw (seen_found l e i t hidden h k (open_left_out hidden (depth l i) o) s, n, add-one i, drop_modify i g l) (omega arith)

-- the starts: the node at p is looked at first -------------------------------------------------------------------------------------

module _ (t p : ℕ) (l : List Entry) where
  pub placed_start : (k : ℕ) → Placing (seen_by t) (depth l p) (new_place t k p l) l (p + 1) (k - 1)
  unfolding new_place
  placed_start k = rw (add-one p)

  module _ (a : List ℕ) where
    pub changed_start : (level : ℕ) (b : List ℕ) → p < length l
        → Changing (seen_by t) (renamed_by t level a b) (depth l p) (renamed_rows t level a b p l)
        (modify p (second (renamed_by t level a b)) l) (p + 1) 0
    unfolding renamed_rows
    changed_start level b h =
        let g = second (renamed_by t level a b) in rw (add-one p, take_modify p g l no_entry h, drop_modify p g l, append_snoc)

    pub counted_start : (g : Entry → Entry)
        → Counting t a (depth l p) (length (keep (λ x. is_named a x.now) (subtree t l p))) (modify p g l) (p + 1) 0
        (cond (is_named a (item l p).now) 1 0)
    unfolding keep
    counted_start g =
        rw (add-one p, drop_modify p g l)
        (go (is_named a (item l p).now) (keep (λ x. is_named a x.now) (seen_from t 0 (depth l p) (drop (suc p) l))))
      where
        go : (c : Bool) (ks : List Marked) → length (cond c (item l p ∷ ks) ks) ≡ cond c 1 0 + length ks
        go true ks = omega arith
        go false ks = omega arith
