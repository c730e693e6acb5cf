use Prim.Native.Nat.{◌-◌, ◌≤◌}
use lib.ListN.{length}
use Rattle.xml_filling.specs.Fill.{InTag, Filling, Same}
use Rattle.xml_filling.proofs.attributes.Given as goal

abbrev pub invariant-loop-cursor : goal.invariant-loop-cursor
invariant-loop-cursor l = record {
  further : l.fn.from.cursor.at ≤ l.here.at;
  same : Same l.fn.s l.s;
  filling : Filling InTag l.x l.s l.here.at l.depth;
}

abbrev pub decreases-loop-cursor : goal.decreases-loop-cursor
decreases-loop-cursor l = length l.x - l.here.at
