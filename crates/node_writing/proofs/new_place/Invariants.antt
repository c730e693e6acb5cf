use Rattle.protocol.specs.State.{seen_by}
use Rattle.table.specs.Layout.{nodes}
use Rattle.rows.specs.Places.{depth}
use Rattle.rows.specs.Rows.{new_place}
use Rattle.rows.proofs.Laws.Loops.{Placing}
use Rattle.node_writing.proofs.new_place.Given as goal

abbrev pub invariant-loop-i : goal.invariant-loop-i
invariant-loop-i l =
    Placing (seen_by l.t) (depth (nodes l.s) l.p) (new_place l.t l.k l.p (nodes l.s)) (nodes l.s) l.i l.before
