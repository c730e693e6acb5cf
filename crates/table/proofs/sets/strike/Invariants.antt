use Rattle.table.specs.Laws.Sets.{StruckBelow}
use Rattle.table.proofs.sets.strike.Given as goal

abbrev pub invariant-loop-v : goal.invariant-loop-v
invariant-loop-v l = StruckBelow l.initial.s l.s l.t l.v
