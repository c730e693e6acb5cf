use Rattle.byte_strings.specs.Laws.Agreeing.{Agreeing}
use Rattle.byte_strings.proofs.agreement.Given as goal

abbrev pub invariant-loop-n : goal.invariant-loop-n
invariant-loop-n l = Agreeing l.word l.s l.at l.n
