use Prim.Native.Nat.{◌-◌, ◌≤◌}
use mathlib.Core.Path.{◌≡◌}
use lib.ListN.{length, take}
use Rattle.xml_filling.specs.Laws.Decoding.{Decoding}
use Rattle.xml_filling.proofs.decode.Given as goal

abbrev pub invariant-loop-i : goal.invariant-loop-i
invariant-loop-i l =
    (l.initial.i ≤ l.i) × (l.i ≤ length l.x) × (l.n ≤ 32) × (length l.buffer ≡ 32) × Decoding l.x l.stop l.initial.i l.i (take l.n l.buffer)

abbrev pub decreases-loop-i : goal.decreases-loop-i
decreases-loop-i l = length l.x - l.i
