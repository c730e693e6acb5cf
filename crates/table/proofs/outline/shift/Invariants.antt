use Rattle.std.proofs.Common.{◌≤◌}
use Rattle.table.specs.Outline.{Shifted}
use Rattle.table.proofs.outline.shift.Given as goal

abbrev pub invariant-loop-k : goal.invariant-loop-k
invariant-loop-k l = (l.p ≤ l.k) × Shifted l.initial.s l.s l.k l.n
