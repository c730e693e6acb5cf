use Rattle.table.specs.Layout.{nodes}
use Rattle.engine.specs.Laws.Way.{Climbing}
use Rattle.engine.proofs.locking.way_up.Given as goal

abbrev pub invariant-loop-k : goal.invariant-loop-k
invariant-loop-k l = Climbing (nodes l.s) l.t l.p l.e l.k l.count l.places
