use Rattle.table.specs.Layout.{nodes}
use Rattle.counts.specs.Laws.Committed.{Climbing}
use Rattle.counts.proofs.committed.Given as goal

abbrev pub invariant-loop-k : goal.invariant-loop-k
invariant-loop-k l = Climbing (nodes l.s) l.p l.e l.k
