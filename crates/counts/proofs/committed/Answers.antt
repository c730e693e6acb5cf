use borrow.Author.Rules.{rules}
use Rattle.counts.specs.Laws.Committed.{climbing_none, climbing_start, climbing_passed, climbing_inserted}
use Rattle.counts.specs.Laws.Committed.{climbing_found, climbing_done}
use Rattle.counts.proofs.committed.Goals as goal

pub returns-then-inserter-ne0 : goal.returns-then-inserter-ne0
returns-then-inserter-ne0 c = climbing_none _ _ _ c.inserter.ensures c.if-inserter-ne0.true

pub loop-k-init : goal.loop-k-init
loop-k-init c =
    climbing_start _ _ _ c.inserter.ensures _ (search rules) c.depth-e.ensures

pub loop-k-preserved-then-e-d : goal.loop-k-preserved-then-e-d
loop-k-preserved-then-e-d c =
    climbing_passed _ _ _ _ c.loop-k.invariant (search rules) c.depth-d.ensures c.if-e-d.true

pub returns-then-inserter-ne0-2 : goal.returns-then-inserter-ne0-2
returns-then-inserter-ne0-2 c =
    climbing_inserted _ _ _ _ c.loop-k.invariant (search rules) c.depth-d.ensures (search rules) _ c.inserter-in-loop-k.ensures
    c.if-inserter-ne0-2.true

pub loop-k-preserved : goal.loop-k-preserved
loop-k-preserved c =
    climbing_found _ _ _ _ c.loop-k.invariant (search rules) c.depth-d.ensures (search rules) _ c.inserter-in-loop-k.ensures
    (search rules)

pub returns : goal.returns
returns c = climbing_done _ _ _ _ c.loop-k.invariant (search rules)
