use native.Mathlib.Omega.{arith}
use borrow.Author.Rules.{rules}
use mathlib.Core.Path.{◌≡◌, sym, ◌∙◌}
use borrow.Author.Tests.{eq-eqb, ne_eqb}
use Rattle.protocol.specs.State.{seen_by}
use Rattle.table.specs.Layout.{no_entry}
use Rattle.rows.proofs.Laws.Loops.{placed_start, placed_end, placed_out, placed_here, placed_deeper, placed_counted, placed_other}
use Rattle.node_writing.proofs.new_place.Goals as goal
use Rattle.node_writing.proofs.new_place.Goals.{then-deleter-t, else-deleter-t}

pub loop-i-init : goal.loop-i-init
loop-i-init c = placed_start _ _ _ _

pub returns-then-d-top : goal.returns-then-d-top
returns-then-d-top c =
    let l = c.loop-i in
    let out = placed_out (seen_by _) _ _ _ l.i l.before no_entry l.invariant (search rules)
    (omega (arith, c.depth-d.ensures, c.depth-top.ensures)) in
    (sym out, search rules)

pub loop-i-preserved-then-d-top-2 : goal.loop-i-preserved-then-d-top-2
loop-i-preserved-then-d-top-2 c =
    let l = c.loop-i in
    placed_deeper (seen_by _) _ _ _ l.i l.before no_entry l.invariant (search rules)
    (omega (arith, c.depth-d.ensures, c.depth-top.ensures, c.if-d-top.false, c.if-d-top-2.true))

pub returns-then-before-eq0 : goal.returns-then-before-eq0
returns-then-before-eq0 c =
    let l = c.loop-i in
    let here = placed_here (seen_by _) _ _ _ l.i l.before no_entry l.invariant (search rules)
    (omega (arith, c.depth-d.ensures, c.depth-top.ensures)) c.if-before-eq0.true in
    (sym here, search rules)

pub loop-i-preserved : goal.loop-i-preserved
loop-i-preserved c =
    let l = c.loop-i in
    elim c.if-deleter-t.branch [
      | then-deleter-t w ↦
          rw w.before-is (placed_counted (seen_by _) _ _ _ l.i l.before no_entry l.invariant (search rules)
          (omega (arith, c.depth-d.ensures, c.depth-top.ensures)) (omega (arith, c.if-before-eq0.false))
          (rw (ne_eqb _ _ (λ e. w.if-deleter-t.true (c.deleter.ensures ∙ e)))))
      | else-deleter-t w ↦
          rw w.before-is (placed_other (seen_by _) _ _ _ l.i l.before no_entry l.invariant (search rules)
          (omega (arith, c.depth-d.ensures, c.depth-top.ensures)) (omega (arith, c.if-before-eq0.false))
          (rw (eq-eqb _ _ (sym c.deleter.ensures ∙ w.if-deleter-t.false))))
    ]

pub returns : goal.returns
returns c =
    let l = c.loop-i in
    let e : l.i ≡ c.count-m.result = omega arith in
    (rw (← e) (sym (placed_end (seen_by _) _ _ _ l.i l.before no_entry l.invariant (search rules))), search rules)
