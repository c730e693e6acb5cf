use Rattle.node_writing.specs.Laws.Renaming.{Renaming}
use Rattle.node_writing.proofs.rename_rest.Given as goal

abbrev pub invariant-loop-i : goal.invariant-loop-i
invariant-loop-i l = Renaming l.initial.s l.s l.p l.t l.a l.b l.i l.hidden l.hits
