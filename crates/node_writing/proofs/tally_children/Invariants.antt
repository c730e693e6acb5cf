use Prim.Native.Nat.{◌≤◌}
use Rattle.table.specs.Layout.{nodes}
use Rattle.node_writing.specs.Laws.Tallies.{Passing}
use Rattle.node_writing.proofs.tally_children.Given as goal

abbrev pub invariant-loop-i : goal.invariant-loop-i
invariant-loop-i l = (l.c.count ≤ l.i) × Passing l.t (nodes l.s) l.p l.parent l.i l.c
