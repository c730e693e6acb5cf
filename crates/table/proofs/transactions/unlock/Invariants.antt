use lib.ListN.{length}
use Prim.Native.Nat.{◌<◌}
use Rattle.table.specs.Lists.{modify}
use Rattle.table.specs.Flat.{second}
use Rattle.table.specs.Layout.{nodes, Kept}
use Rattle.table.specs.Laws.Locks.{cleared}
use Rattle.table.proofs.transactions.unlock.Given as goal

abbrev pub invariant-loop-t : goal.invariant-loop-t
invariant-loop-t l = (l.i < length (nodes l.s)) × Kept l.initial.s l.s (modify l.i (second (cleared l.t)) (nodes l.initial.s))
