use Rattle.table.specs.Layout.{nodes}
use Rattle.node_reading.specs.Laws.Subtree.{Selecting}
use Rattle.node_reading.proofs.select.Given as goal

abbrev pub invariant-loop-i : goal.invariant-loop-i
invariant-loop-i l = Selecting (nodes l.s) l.t l.p l.e l.hidden l.i l.count l.places
