use Prim.Native.Nat.{◌-◌, ◌≤◌}
use mathlib.Core.Path.{◌≡◌}
use lib.ListN.{take, drop}
use Rattle.tree.specs.Spelling.{start_of, fault_in}
use Rattle.tree.specs.Values.{part_of, Small}
use Rattle.tree.proofs.Reading.{state, after}
use Rattle.tree.proofs.characters.misspelled.Given as goal

abbrev pub invariant-loop-i : goal.invariant-loop-i
invariant-loop-i l =
    (l.from ≤ l.i) × (l.i ≤ l.to) × Small (part_of l.x.part)
    × (fault_in (start_of l.text) (take (l.to - l.from) (drop l.from l.s))
    ≡ after (l.i - l.from) (fault_in (state l.text l.x.first (part_of l.x.part)) (take (l.to - l.i) (drop l.i l.s))))
