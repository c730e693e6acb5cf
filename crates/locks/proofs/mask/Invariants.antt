use mathlib.Core.Path.{◌≡◌}
use Rattle.locks.proofs.Laws.Words.{mask_from}
use Rattle.locks.proofs.mask.Given as goal

abbrev pub invariant-loop-b : goal.invariant-loop-b
invariant-loop-b l = l.m ≡ mask_from l.w l.b
