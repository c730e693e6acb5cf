use mathlib.Core.Path.{◌≡◌}
use Prim.Native.Nat.{◌+◌}
use lib.ListN.{drop}
use Rattle.table.specs.Lists.{first}
use Rattle.table.specs.Layout.{nodes}
use lib.Dec.{eqb}
use Rattle.table.proofs.find.Given as goal

abbrev pub invariant-loop-i : goal.invariant-loop-i
invariant-loop-i l = first (λ x. eqb x.1.now.number l.n) (nodes l.s) ≡ l.i + first (λ x. eqb x.1.now.number l.n) (drop l.i (nodes l.s))
