use mathlib.Core.Path.{◌≡◌}
use Prim.Native.Nat.{◌≤◌}
use lib.ListN.{drop}
use Rattle.table.specs.Layout as layout
use Rattle.form.specs.Form.{cells}
use Rattle.form.specs.Check.{valid_nodes}
use Rattle.form.specs.Laws.Check.{valid_from}
use Rattle.form.proofs.nodes.Given as goal

abbrev pub invariant-loop-i : goal.invariant-loop-i
invariant-loop-i l = (l.before ≤ 65535) × (valid_nodes l.s ≡ valid_from l.before (drop l.i (cells l.s)) (drop l.i (layout.nodes l.s)))
