use Rattle.deadlock.specs.Laws.Rounds.{Reached}
use Rattle.deadlock.proofs.ring.Given as goal

abbrev pub invariant-loop : goal.invariant-loop
invariant-loop l = Reached l.sets l.t l.counter l.reach
