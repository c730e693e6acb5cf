use borrow.Author.Rules.{rules}
use Rattle.table.specs.Layout.{nodes}
use Rattle.engine.specs.Laws.Way.{climbing_hidden, climbing_start, climbing_passed, climbing_deleted}
use Rattle.engine.specs.Laws.Way.{climbing_found, climbing_done}
use Rattle.engine.proofs.locking.way_up.Goals as goal

pub returns-then-deleter-t : goal.returns-then-deleter-t
returns-then-deleter-t c = climbing_hidden (nodes c.args.s.now) c.args.t c.args.p _ c.deleter.ensures c.if-deleter-t.true

pub loop-k-init : goal.loop-k-init
loop-k-init c =
    climbing_start (search rules) _ c.deleter.ensures _ c.args.places.now c.if-deleter-t.false c.depth-e.ensures
    c.requires.2

pub loop-k-preserved-then-e-d : goal.loop-k-preserved-then-e-d
loop-k-preserved-then-e-d c =
    climbing_passed (search rules) c.loop-k.invariant (search rules) c.depth-d.ensures c.if-e-d.true

pub returns-then-deleter-t-2 : goal.returns-then-deleter-t-2
returns-then-deleter-t-2 c =
    climbing_deleted (search rules) c.loop-k.invariant (search rules) c.depth-d.ensures (search rules) _
    c.deleter-in-loop-k.ensures c.if-deleter-t-2.true

pub loop-k-preserved : goal.loop-k-preserved
loop-k-preserved c =
    climbing_found (search rules) c.loop-k.invariant (search rules) c.depth-d.ensures (search rules) _
    c.deleter-in-loop-k.ensures
    (search rules) c.if-deleter-t-2.false

pub returns : goal.returns
returns c = climbing_done (search rules) c.loop-k.invariant (search rules) (search rules)
