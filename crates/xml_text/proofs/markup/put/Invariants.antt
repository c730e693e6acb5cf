use Rattle.std.proofs.Common.{◌≡◌, ◌++◌, take, drop}
use Rattle.xml_text.proofs.markup.put.Given as goal

abbrev pub invariant-loop-i : goal.invariant-loop-i
invariant-loop-i l = l.out ≡ take (l.i) l.p ++ drop (l.i) l.initial.out
