use Rattle.table.specs.Layout.{nodes}
use Rattle.protocol.specs.Lent.{cell}
use Rattle.rows.specs.Places.{item}
use Rattle.node_reading.specs.Laws.Buffers.{Written}
use Rattle.node_reading.proofs.cells.Given as goal

abbrev pub invariant-loop-j : goal.invariant-loop-j
invariant-loop-j l = Written (λ i. cell (item (nodes l.s) i).now.content) 33 l.places l.j l.initial.out l.out
