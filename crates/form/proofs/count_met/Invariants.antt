use mathlib.Core.Path.{◌≡◌}
use Prim.Native.Nat.{◌+◌}
use lib.ListN.{drop}
use Rattle.form.specs.Check.{sum}
use Rattle.form.proofs.count_met.Given as goal

abbrev pub invariant-loop-m : goal.invariant-loop-m
invariant-loop-m l = l.n + sum (drop l.m-index l.met) ≡ sum l.met
