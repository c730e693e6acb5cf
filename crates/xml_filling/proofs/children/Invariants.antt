use Prim.Native.Nat.{◌-◌}
use lib.ListN.{length}
use Rattle.xml_filling.specs.Fill.{Behind, Filling, Same}
use Rattle.xml_filling.proofs.children.Given as goal

abbrev pub invariant-loop-level : goal.invariant-loop-level
invariant-loop-level l = record {
  same : Same l.fn.s l.s;
  filling : Filling Behind l.x l.s l.level.cursor.at l.level.depth;
}

abbrev pub decreases-loop-level : goal.decreases-loop-level
decreases-loop-level l = length l.x - l.level.cursor.at
