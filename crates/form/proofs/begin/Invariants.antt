use Rattle.form.specs.Laws.Begun.{Begun}
use Rattle.form.proofs.begin.Given as goal

abbrev pub invariant-loop-i : goal.invariant-loop-i
invariant-loop-i l = Begun l.i l.fn.s l.s
