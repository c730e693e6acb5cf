-- UU: each element of the subtree that the caller sees, changed in one pass over the rows of the subtree.
use Rattle.std.specs.Prelude.{◌≡◌, Bool, cond, ◌&&◌, length, drop}
use Rattle.std.proofs.Math.Path.{refl, sym, ap}
use Rattle.std.proofs.Common.{◌∙◌, arith}
use Prim.Native.Nat.{ℕ, suc, ◌≤◌, ◌<◌}
use Rattle.std.proofs.Math.Bool.{true, false, or-true, and-false}
use mathlib.Core.List.{List, [], ◌∷◌, ◌++◌, append_assoc, append-nil}
use borrow.Author.Tests.{lt-ltb, le-ltb}
use Rattle.tree.specs.Lists.{any, every}
use Rattle.tree.specs.Forest.{Forest, nil, node, Row, row, amend}
use Rattle.tree.specs.Steps.{UU, is_named}
use Rattle.tree.specs.Laws.Amend.{amend_agree}
use Rattle.tree.specs.Laws.Rows.{any_below}
use Rattle.protocol.specs.State.{Marked, Tree, has_number, seen_by, written_by, renamed, act}
use Rattle.table.specs.Flat.{flat}
use Rattle.rows.specs.Places.{depth, item, unique, seen_at, below}
use Rattle.rows.proofs.Laws.NodeAt.{not_below}
use Rattle.rows.proofs.Laws.Up.{depth_at, item_at, ups_at, rows_before, rows_behind}
use Rattle.rows.proofs.Laws.Find.{holder}
use Rattle.rows.specs.Rows.{number_at, left_out, changed_below, renamed_by, renamed_rows}
use Rattle.rows.proofs.Laws.Passes.{left_out_high, left_out_low, left_out_up}

module _ {A : Type 0} (shown : A → Bool) (g : A → A) where
  -- a change of the rows that are shown with all their ancestors
  abbrev pub if_shown : Row A A → A
  if_shown r = cond (every shown (r.it ∷ r.above)) (g r.it) r.it

  amend_hidden : (up : List A) (f : Forest A) → every shown up ≡ false → amend (λ a. a) if_shown up f ≡ f
  unfolding amend
  amend_hidden up nil h = refl
  amend_hidden up (node a ks fs) h =
      let e : every shown (a ∷ up) ≡ false = rw h (and-false (shown a)) in
      rw (e, amend_hidden (a ∷ up) ks e, amend_hidden up fs h)

  module _ (top : ℕ) where
    changed_skip : (hidden d : ℕ) (f : Forest A) (t : List (ℕ × A)) → top < d → 0 < hidden → hidden ≤ d
        → changed_below shown g top hidden (flat d f ++ t) ≡ flat d f ++ changed_below shown g top hidden t
    unfolding flat changed_below
    changed_skip hidden d nil t o h k = refl
    changed_skip hidden d (node a ks fs) t o h k =
        rw (
          lt-ltb top d o,
          left_out_low hidden d h k,
          append_assoc (flat (suc d) ks) (flat d fs) t,
          changed_skip hidden (suc d) ks (flat d fs ++ t) (omega arith) h (omega arith),
          changed_skip hidden d fs t o h k,
          append_assoc (flat (suc d) ks) (flat d fs) (changed_below shown g top hidden t),
        )

    changed_then : (hidden d : ℕ) (up : List A) (f : Forest A) (t : List (ℕ × A)) → top < d → every shown up ≡ true
        → left_out hidden d ≡ false
        → (m : ℕ) × (left_out m d ≡ false)
        × (changed_below shown g top hidden (flat d f ++ t) ≡ flat d (amend (λ a. a) if_shown up f) ++ changed_below shown g top m t)
    unfolding flat changed_below amend
    changed_then hidden d up nil t o s h = (hidden, h, refl)
    changed_then hidden d up (node a ks fs) t o s h =
        rw (lt-ltb top d o, h, append_assoc (flat (suc d) ks) (flat d fs) t) (go (shown a) refl
        (λ e. changed_then 0 (suc d) (a ∷ up) ks (flat d fs ++ t) (omega arith) (rw (e, s)) refl)
        (λ m q. changed_then m d up fs t o s q))
      where
        Then : ℕ → ℕ → List A → Forest A → List (ℕ × A) → List (ℕ × A) → Type 0
        Then hidden d up f u t =
            (m : ℕ) × (left_out m d ≡ false) ×
            (changed_below shown g top hidden u ≡ flat d (amend (λ a. a) if_shown up f) ++ changed_below shown g top m t)

        go : (b : Bool) → shown a ≡ b → (shown a ≡ true → Then 0 (suc d) (a ∷ up) ks (flat (suc d) ks ++ (flat d fs ++ t)) (flat d fs ++ t))
            → ((m : ℕ) → left_out m d ≡ false → Then m d up fs (flat d fs ++ t) t)
            → (m : ℕ) × (left_out m d ≡ false)
            × (cond b ((d, g a) ∷ changed_below shown g top 0 (flat (suc d) ks ++ (flat d fs ++ t)))
            ((d, a) ∷ changed_below shown g top (suc d) (flat (suc d) ks ++ (flat d fs ++ t)))
            ≡ (d, cond (b && every shown up) (g a) a) ∷ (flat (suc d) (amend (λ a. a) if_shown (a ∷ up) ks) ++ flat d
            (amend (λ a. a) if_shown up fs))
            ++ changed_below shown g top m t)
        go true e u v =
            let x = u e in
            let w = v x.0 (left_out_up x.0 d x.1) in (
              w.0,
              w.1,
              rw (
                s,
                x.2,
                w.2,
                append_assoc (flat (suc d) (amend (λ a. a) if_shown (a ∷ up) ks)) (flat d (amend (λ a. a) if_shown up fs))
                    (changed_below shown g top w.0 t),
              ),
            )
        go false e u v =
            let w = v (suc d) (left_out_high (suc d) d (omega arith)) in (
              w.0,
              w.1,
              rw (
                changed_skip (suc d) (suc d) ks (flat d fs ++ t) (omega arith) (omega arith) (omega arith),
                amend_hidden (a ∷ up) ks (rw e),
                w.2,
                append_assoc (flat (suc d) ks) (flat d (amend (λ a. a) if_shown up fs)) (changed_below shown g top w.0 t),
              ),
            )

    -- it ends with the subtree
    changed_stop : (hidden : ℕ) (t : List (ℕ × A)) → below top t ≡ [] → changed_below shown g top hidden t ≡ t
    unfolding changed_below
    changed_stop hidden [] h = refl
    changed_stop hidden (x ∷ t) h = rw (le-ltb top x.0 (not_below top x t h))

    pub changed_subtree : (up : List A) (ks : Forest A) (t : List (ℕ × A)) → every shown up ≡ true → below top t ≡ []
        → flat (suc top) (amend (λ a. a) if_shown up ks) ++ t ≡ changed_below shown g top 0 (flat (suc top) ks ++ t)
    changed_subtree up ks t s h =
        let w = changed_then 0 (suc top) up ks t (omega arith) s refl in
        sym (w.2 ∙ ap (λ l. flat (suc top) (amend (λ a. a) if_shown up ks) ++ l) (changed_stop w.0 t h))

-- the law --------------------------------------------------------------------------------------

module _ (t level n : ℕ) (a b : List ℕ) where
  -- what UU makes of a row
  abbrev by_line : Row Marked Marked → Marked
  by_line r = cond (renamed t n a r) (written_by t level b r.it) r.it

  -- a row without n on its line stays
  outside : (s : Row Marked Marked) → any (has_number n) (s.it ∷ s.above) ≡ false → by_line s ≡ s.it
  outside s h = rw h (go (every (seen_by t) (s.it ∷ s.above)))
    where
      go : (x : Bool) → cond (x && false && is_named a s.it.now) (written_by t level b s.it) s.it ≡ s.it
      go true = refl
      go false = refl

  -- a row with n on its line goes by its name, if it is seen
  inside : (s : Row Marked Marked) → any (has_number n) (s.it ∷ s.above) ≡ true
      → by_line s ≡ if_shown (seen_by t) (renamed_by t level a b) s
  inside s h = rw h (go (every (seen_by t) (s.it ∷ s.above)))
    where
      go : (x : Bool) → cond (x && true && is_named a s.it.now) (written_by t level b s.it) s.it
          ≡ cond x (renamed_by t level a b s.it) s.it
      go true = refl
      go false = refl

  pub rename_rows : (f : Tree) (p : ℕ) → unique (flat 0 f) ≡ true → p < length (flat 0 f) → number_at (flat 0 f) p ≡ n
      → seen_at t (flat 0 f) p ≡ true
      → flat 0 (act t level (UU n a b) f) ≡ renamed_rows t level a b p (flat 0 f)
  unfolding renamed_rows
  rename_rows f p u h e s =
      let o = holder f n p u h e in
      let c = o.place in
      let up : List Marked = c.it ∷ (c.above ++ []) in
      let g : Marked → Marked = renamed_by t level a b in
      let i : any (has_number n) up ≡ true = rw o.number in
      let v : every (seen_by t) up ≡ true = rw (append-nil c.above) (rw (item_at c, ups_at c) at s) in
      let low : amend (λ a. a) by_line up c.children ≡ amend (λ a. a) (if_shown (seen_by t) g) up c.children =
      amend_agree (λ a. a) by_line (if_shown (seen_by t) g) up c.children
      (λ v o. inside v (rw (any_below (λ a. a) (has_number n) i o) (or-true (has_number n v.it)))) in
      let head : by_line (row c.it (c.above ++ [])) ≡ g (item (flat 0 f) p) =
      inside (row c.it (c.above ++ [])) i ∙ rw v (ap g (sym (item_at c))) in
      let tail : flat (suc c.depth) (amend (λ a. a) by_line up c.children) ++ c.behind
      ≡ changed_below (seen_by t) g (depth (flat 0 f) p) 0 (drop (suc p) (flat 0 f)) =
      ap (λ k. flat (suc c.depth) k ++ c.behind) low
      ∙ changed_subtree (seen_by t) g c.depth up c.children c.behind v c.stops
      ∙ (λ j. changed_below (seen_by t) g (sym (depth_at c) j) 0 (sym (rows_behind c) j)) in
      c.amends (has_number n) by_line outside [] refl o.before o.behind
      ∙ (λ j. sym (rows_before c) j ++ ((sym (depth_at c) j, head j) ∷ tail j))
