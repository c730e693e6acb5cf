use Rattle.table.specs.Laws.Bytes.{Filled}
use lib.ListN.{get_or}
use Rattle.table.proofs.layout.store.Given as goal

abbrev pub invariant-loop-j : goal.invariant-loop-j
invariant-loop-j l = Filled l.k l.j (λ i. get_or l.b i 0) l.initial.s l.s
