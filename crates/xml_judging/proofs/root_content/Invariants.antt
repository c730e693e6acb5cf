use Prim.Native.Nat.{◌-◌, ◌≤◌}
use lib.ListN.{length}
use Rattle.xml_judging.specs.Laws.Element.{ContentTo}
use Rattle.xml_judging.proofs.root_content.Given as goal

abbrev pub invariant-loop-inside : goal.invariant-loop-inside
invariant-loop-inside l = record {
  within : l.inside.cursor.at ≤ length l.s;
  comes : ContentTo l.s l.initial.names l.names l.fn.c.at l.spare l.inside.cursor.at l.inside.depth l.inside.spare;
}

abbrev pub decreases-loop-inside : goal.decreases-loop-inside
decreases-loop-inside l = length l.s - l.inside.cursor.at
