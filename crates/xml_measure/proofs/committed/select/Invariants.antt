use Rattle.table.specs.Layout.{nodes}
use Rattle.xml_measure.specs.Laws.Selection.{Selecting}
use Rattle.xml_measure.proofs.committed.select.Given as goal

abbrev pub invariant-loop-i : goal.invariant-loop-i
invariant-loop-i l = Selecting (nodes l.s) l.hidden l.i l.count l.places
