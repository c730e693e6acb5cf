use borrow.Author.Rules.{rules}
use native.Mathlib.Omega.{arith}
use Rattle.node_reading.specs.Laws.Subtree.{selecting_start, selecting_end, selecting_left, selecting_passed, selecting_found}
use Rattle.node_reading.proofs.select.Goals as goal
use Rattle.node_reading.proofs.select.Goals.{then-hidden-eq0, else-hidden-eq0}

pub loop-i-init : goal.loop-i-init
loop-i-init c = selecting_start _ c.args.places.now (search rules) c.depth-e.ensures c.requires.2

pub returns-then-depth-e : goal.returns-then-depth-e
returns-then-depth-e c = selecting_left c.loop-i.invariant (search rules) c.depth.ensures (search rules) c.if-depth-e.true

pub loop-i-preserved : goal.loop-i-preserved
loop-i-preserved c =
    let v = c.loop-i.invariant in
    elim c.if-hidden-eq0.branch [
      | then-hidden-eq0 w ↦
          rw (w.places-is, w.count-is, w.if-hidden-eq0.true) (selecting_found v (search rules) c.depth.ensures c.if-depth-e.false
          c.next_below-hidden.ensures (omega (arith, c.requires.0.room, c.requires.0.many)) w.if-hidden-eq0.true)
      | else-hidden-eq0 w ↦
          rw (w.places-is, w.count-is) (selecting_passed v (search rules) c.depth.ensures c.if-depth-e.false c.next_below-hidden.ensures
          w.if-hidden-eq0.false)
    ]

pub returns : goal.returns
returns c = selecting_end c.loop-i.invariant (search rules) (search rules)
