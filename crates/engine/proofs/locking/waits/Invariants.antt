use Prim.Native.Nat.{◌-◌, ◌≤◌}
use mathlib.Core.Path.{◌≡◌}
use Rattle.table.specs.Layout.{nodes, is_open}
use Rattle.engine.specs.Way.{nodes_at}
use Rattle.engine.specs.Laws.Waits.{set_of}
use Rattle.engine.proofs.locking.waits.Given as goal

abbrev pub invariant-loop-u : goal.invariant-loop-u
invariant-loop-u l = (1 ≤ l.u) × (l.set ≡ set_of l.t l.masks (is_open l.s) (nodes_at (nodes l.s) l.way) (l.u - 1))
