use mathlib.Core.Path.{◌≡◌}
use lib.ListN.{drop}
use Rattle.table.specs.Layout.{nodes}
use Rattle.engine.specs.Way.{nodes_at}
use Rattle.engine.specs.Waits.{touches_from}
use Rattle.engine.proofs.locking.touches.Given as goal

abbrev pub invariant-loop-j : goal.invariant-loop-j
invariant-loop-j l =
    let way = nodes_at (nodes l.s) l.way in
    touches_from l.masks 0 l.u way ≡ touches_from l.masks l.j l.u (drop l.j way)
