use Prim.Native.Nat.{◌-◌}
use mathlib.Core.Path.{◌≡◌}
use Rattle.locks.specs.Words.{clash_at, word}
use Rattle.locks.proofs.clashing.Given as goal

abbrev pub invariant-loop-a : goal.invariant-loop-a
invariant-loop-a l = l.m ≡ word (λ x. clash_at x l.b) (12 - l.a) l.a
