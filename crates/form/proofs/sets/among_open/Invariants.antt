use Rattle.form.specs.Laws.Sets.{PassedBelow}
use Rattle.form.proofs.sets.among_open.Given as goal

abbrev pub invariant-loop-t : goal.invariant-loop-t
invariant-loop-t l = PassedBelow l.s l.t
