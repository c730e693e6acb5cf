use Rattle.table.specs.Layout.{nodes}
use Rattle.protocol.specs.Lent.{number_bytes}
use Rattle.rows.specs.Places.{item, number_of}
use Rattle.node_reading.specs.Laws.Buffers.{Written}
use Rattle.node_reading.proofs.numbers.Given as goal

abbrev pub invariant-loop-j : goal.invariant-loop-j
invariant-loop-j l = Written (λ i. number_bytes (number_of (item (nodes l.s) i))) 4 l.places l.j l.initial.out l.out
