use native.Mathlib.Omega.{arith}
use mathlib.Core.Path.{ap, ◌≡◌, ◌∙◌, sym}
use Prim.Native.Nat.{ℕ, ◌+◌, ◌-◌, ◌<◌}
use lib.ListN.{length, drop}
use borrow.Author.Tests.{eq-eqb, ne_eqb}
use Rattle.std.specs.Prelude.{not, List, ◌∷◌}
use Rattle.std.proofs.Math.Numerals.{add-one}
use Rattle.table.specs.Layout.{Entry, nodes}
use Rattle.rows.specs.Places.{depth, item, children_from}
use Rattle.rows.specs.Found.{kth_child}
use Rattle.rows.proofs.Laws.Children.{child_found, child_deleted, child_passed, child_left, child_end}
use Rattle.rows.proofs.Laws.Children.{kth_zero, kth_none, kth_first, kth_later}
use Rattle.node_reading.proofs.child_place.Goals as goal
use Rattle.node_reading.proofs.child_place.Goals.{then-d-e-2-via-then-d-e-2, then-d-e-2-via-else-d-e-2+then-deleter-t}

-- a child that t did not delete; x is who did
seen_child : (t : ℕ) (l : List Entry) (e i : ℕ) {d x : ℕ} → i < length l → d ≡ depth l i → d ≡ e + 1 → x ≡ (item l i).deleter
    → (x ≡ t → ⊥)
    → children_from t e (drop i l) ≡ item l i ∷ children_from t e (drop (i + 1) l)
seen_child t l e i h v a w q =
    child_found t l e i h (omega (arith, v)) (ap not (ne_eqb (item l i).deleter t (λ z. q (w ∙ z))))

pub returns-in_err-before : goal.returns-in_err-before
returns-in_err-before c =
    let z : c.args.k ≡ 0 = omega (arith, c.in_err-before.ensures) in
    rw (c.from_residual.ensures, z) (kth_zero _)

pub loop-i-init : goal.loop-i-init
loop-i-init c =
    let e = c.in_ok-before.ensures in
    let z : c.in_ok-before.before + 1 ≡ c.args.k = omega (arith, e) in
    rw (z, c.depth-e.ensures, add-one)

pub returns-then-d-e : goal.returns-then-d-e
returns-then-d-e c =
    let l = nodes c.args.s.now in
    let h : c.loop-i.i < length l = omega arith in
    let none = child_left c.args.t l c.depth-e.result c.loop-i.i h (omega (arith, c.depth-d.ensures)) in
    c.loop-i.invariant ∙ rw none (kth_none _)

pub loop-i-preserved-then-d-e-2 : goal.loop-i-preserved-then-d-e-2
loop-i-preserved-then-d-e-2 c =
    let l = nodes c.args.s.now in
    let h : c.loop-i.i < length l = omega arith in
    c.loop-i.invariant ∙ ap (kth_child (c.loop-i.before + 1)) (elim c.then-d-e-2.branch [
      | then-d-e-2-via-then-d-e-2 w ↦ child_passed c.args.t l c.depth-e.result c.loop-i.i h (omega (arith, c.depth-d.ensures))
      | then-d-e-2-via-else-d-e-2+then-deleter-t w ↦
          child_deleted c.args.t l c.depth-e.result c.loop-i.i h (omega (arith, c.depth-d.ensures))
          (ap not (eq-eqb (item l c.loop-i.i).deleter c.args.t (sym w.deleter.ensures ∙ w.if-deleter-t.true)))
    ])

pub returns-then-before-eq0 : goal.returns-then-before-eq0
returns-then-before-eq0 c =
    let l = nodes c.args.s.now in
    let h : c.loop-i.i < length l = omega arith in
    let e = c.depth-d.ensures in
    let child = seen_child c.args.t l c.depth-e.result c.loop-i.i h e (omega arith) c.deleter.ensures c.if-deleter-t.false in
    (h, c.loop-i.invariant ∙ rw (c.if-before-eq0.true, child) (kth_first _ _))

pub loop-i-preserved : goal.loop-i-preserved
loop-i-preserved c =
    let l = nodes c.args.s.now in
    let h : c.loop-i.i < length l = omega arith in
    let e = c.depth-d.ensures in
    let child = seen_child c.args.t l c.depth-e.result c.loop-i.i h e (omega arith) c.deleter.ensures c.if-deleter-t.false in
    let z : c.loop-i.before + 1 - 1 ≡ c.loop-i.before - 1 + 1 = omega arith in
    c.loop-i.invariant ∙ rw child (kth_later (c.loop-i.before + 1) _ _ (omega arith) ∙ rw z)

pub returns : goal.returns
returns c =
    c.loop-i.invariant ∙ rw (child_end c.args.t (nodes c.args.s.now) c.depth-e.result c.loop-i.i (omega arith)) (kth_none _)
