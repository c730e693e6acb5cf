use Prim.Native.Nat.{◌-◌, ◌≤◌}
use lib.ListN.{length}
use Rattle.xml_tokens.specs.Laws.Characters.{CharactersTo}
use Rattle.xml_tokens.proofs.Cursor.characters.Given as goal

abbrev pub invariant-loop-i : goal.invariant-loop-i
invariant-loop-i l = (l.initial.i ≤ l.i) × (l.i ≤ length l.s) × (l.count ≤ 32) × CharactersTo l.s l.stop l.spare l.initial.i l.k l.count l.i

abbrev pub decreases-loop-i : goal.decreases-loop-i
decreases-loop-i l = length l.s - l.i
