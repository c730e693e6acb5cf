use Rattle.xml_measure.specs.Laws.Measure.{Measuring}
use Rattle.table.specs.Layout.{nodes}
use Rattle.xml_measure.proofs.measuring.measure.Given as goal

abbrev pub invariant-loop-i : goal.invariant-loop-i
invariant-loop-i l =
    Measuring (nodes l.s) l.rows.places l.rows.count l.path l.kinds l.top l.names l.kept l.i l.sum
