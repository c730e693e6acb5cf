-- I on the node at p: its depth, causes 11 and 12, and the rows that it leaves.
use Rattle.std.specs.Prelude.{◌≡◌, ℕ, zero, suc, ◌+◌, ◌≤◌, ◌<◌, Bool, true, false, cond, not, ◌&&◌, ◌||◌, List, [], ◌∷◌, map, length, eqb, leb}
use Rattle.std.proofs.Common.{refl, sym, ◌∙◌, arith}
use Rattle.std.proofs.Math.Numerals.{add-one}
use borrow.Author.Tests.{le-leb, lt-leb, leb-false, leb-true, eqb-true}
use Rattle.tree.specs.Content.{between}
use Rattle.tree.specs.Steps.{I, placed}
use Rattle.tree.specs.Laws.Tests.{and_left, and_right}
use Rattle.locks.specs.declared.NeedWords.{NeedWords}
use Rattle.protocol.specs.Lent.{first_lent, second_lent}
use Rattle.table.specs.Lists.{insert}
use Rattle.table.specs.Layout.{Entry, nodes, Left, header}
use Rattle.protocol.specs.State.{set_header}
use Rattle.table.specs.Laws.Kept.{left_as, then_left}
use Rattle.rows.specs.Places.{depth, item, children}
use Rattle.rows.specs.Rows.{new_place, stepped}
use Rattle.node_writing.specs.Writing.{new_node}
use Rattle.form.specs.Form.{valid, valid_document, valid_below, valid_rows}
use Rattle.form.specs.Laws.Rows.{between_high}
use Rattle.form.specs.Laws.Holds.{form_parts}
use Rattle.engine.specs.Contract.{no_room}
use Rattle.engine.specs.Admission.{Site, Standing}
use Rattle.engine.specs.Judgement.{first_cause, late_causes, Free}
use Rattle.engine.specs.Laws.Judgement.{free_locked}
use Rattle.engine.specs.Grants.{GrantedStep}

-- depths are small -------------------------------------------------------------------------

depth_below : (before : ℕ) (l : List Entry) (i : ℕ) → valid_below before l ≡ true → i < length l → depth l i ≤ before + suc i
unfolding valid_below
depth_below before [] i h k = absurd (omega arith)
depth_below before (x ∷ l) zero h k =
    omega (arith, between_high 1 (suc before) x.0 (and_left _ _ (and_left (between 1 (suc before) x.0 && valid x.1) _ h)))
depth_below before (x ∷ l) (suc i) h k =
    let d = between_high 1 (suc before) x.0 (and_left _ _ (and_left (between 1 (suc before) x.0 && valid x.1) _ h)) in
    omega (arith, d, depth_below x.0 l i (and_right (between 1 (suc before) x.0 && valid x.1) _ h) (omega arith))

depth_small : (l : List Entry) (i : ℕ) → valid_rows l ≡ true → i < length l → depth l i ≤ i
unfolding valid_rows
depth_small [] i h k = absurd (omega arith)
depth_small (x ∷ l) zero h k = omega (
  arith,
  eqb-true x.0 0
      (and_left (eqb x.0 0) _ (and_left (eqb x.0 0 && valid_document x.1) _ h)),
)
depth_small (x ∷ l) (suc i) h k = omega (arith, depth_below 0 l i (and_right (eqb x.0 0 && valid_document x.1) _ h) (omega arith))

pub standing_depth : {s : List ℕ} {t n : ℕ} {a : Site} → Standing s t n a → depth (nodes s) a.place < 1024
standing_depth {s} {a = a} f =
    omega (arith, depth_small (nodes s) a.place (form_parts f.formed).rows f.inside, f.inside, f.layout.room, f.layout.many)

-- causes 11 and 12, neither of them, and the rows ------------------------------------------------

module _ {s : List ℕ} {t : ℕ} {a : Site} {w : NeedWords} {m kind n k : ℕ} {b : List ℕ} (f : Free s t a w (I m kind b n k)) where
  module _ {r : Bool}
      (e : r ≡ placed (item (nodes s) a.place).now.kind kind k (map (λ c. c.now.kind) (children a.t (nodes s) a.place))) where
    pub insert_misplaced : r ≡ false → 11 ≡ first_cause (late_causes a.t (I m kind b n k) no_room (nodes s) a.place)
    insert_misplaced z = rw (← e, z)

    module _ (z : r ≡ true) where
      pub insert_full : 1024 ≤ length (nodes s) → 12 ≡ first_cause (late_causes a.t (I m kind b n k) no_room (nodes s) a.place)
      insert_full h = rw (← e, z, le-leb 1024 (length (nodes s)) h)

      pub insert_spare : length (nodes s) < 1024 → first_cause (late_causes a.t (I m kind b n k) no_room (nodes s) a.place) ≡ 0
      unfolding first_lent second_lent
      insert_spare h = rw (← e, z, lt-leb 1024 (length (nodes s)) h)

      pub insert_counted : 1 ≤ k
      unfolding placed
      insert_counted = leb-true 1 k (and_left _ _ (and_left _ _ (sym e ∙ z)))

  module _ (e : 0 ≡ first_cause (late_causes a.t (I m kind b n k) no_room (nodes s) a.place)) where
    insert_placed : (placed (item (nodes s) a.place).now.kind kind k (map (λ c. c.now.kind) (children a.t (nodes s) a.place)) ≡ true)
        × (leb 1024 (length (nodes s)) ≡ false)
    unfolding first_lent second_lent
    insert_placed = go (placed (item (nodes s) a.place).now.kind kind k (map (λ c. c.now.kind) (children a.t (nodes s) a.place)))
        (leb 1024 (length (nodes s))) e
      where
        go : (x y : Bool) → ◌≡◌ {A = ℕ} 0 (cond (not x) 11 (cond (y || false) 12 0)) → (x ≡ true) × (y ≡ false)
        go true true e = absurd (omega arith)
        go true false e = (refl, refl)
        go false y e = absurd (omega arith)

    pub room_left : length (nodes s) < 1024
    room_left = leb-false 1024 (length (nodes s)) insert_placed.1

    pub place_counted : 1 ≤ k
    place_counted = insert_counted refl insert_placed.0

  pub insert_left : {s₁ s₂ : List ℕ} (q d : ℕ) → q ≡ new_place a.t k a.place (nodes s) → d ≡ depth (nodes s) a.place
      → GrantedStep s s₁ a.t w a.way
      → Left s₁ s₂ (header s₁) (insert q (d + 1, new_node a.t m kind b) (nodes s₁))
      → Left s s₂ (set_header a.t (λ u. false) (header s))
      (stepped a.t ((header s).depth a.t) (I m kind b n k) a.place (nodes s))
  unfolding stepped
  insert_left q d x y g l =
      left_as _ _ (rw (x, y, add-one (depth (nodes s) a.place)))
      (then_left _ (insert q (d + 1, new_node a.t m kind b)) (free_locked f g).left l)
