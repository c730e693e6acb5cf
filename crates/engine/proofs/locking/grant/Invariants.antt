use Rattle.engine.specs.Laws.Grants.{Granting}
use Rattle.engine.proofs.locking.grant.Given as goal

abbrev pub invariant-loop-j : goal.invariant-loop-j
invariant-loop-j l = Granting l.initial.s l.s l.t l.w l.way l.j
