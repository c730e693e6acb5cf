use Rattle.deadlock.specs.Laws.Rounds.{Joined}
use Rattle.deadlock.proofs.round.Given as goal

abbrev pub invariant-loop-v : goal.invariant-loop-v
invariant-loop-v l = Joined l.sets l.t l.reach l.next l.v
