use Prim.Native.Nat.{◌+◌}
use mathlib.Core.Path.{◌≡◌}
use lib.ListN.{drop}
use Rattle.table.specs.Layout.{nodes}
use Rattle.rows.specs.Places.{children_from, children}
use Rattle.rows.specs.Found.{kth_child}
use Rattle.node_reading.proofs.child_place.Given as goal

-- of the children among the rows from i on, it is the one behind `before` others
abbrev pub invariant-loop-i : goal.invariant-loop-i
invariant-loop-i l =
    kth_child l.k (children l.t (nodes l.s) l.p) ≡ kth_child (l.before + 1) (children_from l.t l.e (drop l.i (nodes l.s)))
