use Prim.Native.Nat.{◌+◌, ◌-◌, ◌≤◌}
use mathlib.Core.Path.{◌≡◌}
use lib.ListN.{length}
use Rattle.byte_strings.specs.Sorted.{Increasing}
use Rattle.xml_reader.specs.Elements.{Placed, Kept, attribute_names}
use Rattle.xml_reader.specs.Laws.StartTags.{AttributesTo}
use Rattle.xml_reader.proofs.start_tags.attributes.Given as goal

abbrev pub invariant-loop-behind : goal.invariant-loop-behind
invariant-loop-behind l = record {
  further : l.fn.from.behind.at ≤ l.read.behind.at;
  inside : l.read.behind.at ≤ length l.s;
  fewer : l.read.spare ≤ l.fn.from.spare;
  room : l.lo + l.count + 1 + l.read.spare ≤ 1024;
  placed : Placed l.s l.names (l.lo + l.count);
  kept : Kept l.lo l.initial.names l.names;
  reads : AttributesTo l.s l.names l.lo l.count l.fn.from.behind.at l.fn.from.spare l.read.behind.at l.read.spare;
  long : length l.names ≡ 1024;
  sorted : Increasing (attribute_names l.s l.names l.lo) l.count;
}

abbrev pub decreases-loop-behind : goal.decreases-loop-behind
decreases-loop-behind l = length l.s - l.read.behind.at
