use Rattle.std.specs.Prelude.{◌≡◌, ℕ, get_or, eqb}
use borrow.Author.Tests.{eq-eqb}
use Rattle.protocol.specs.State.{Marked, touched_by}
use Rattle.table.specs.Layout.{nodes, no_entry}
use Rattle.ends.proofs.pass.touched.Goals as goal

-- t inserted the node
inserter_touched : (t i : ℕ) (a : Marked) → i ≡ a.inserter → i ≡ t → eqb i t ≡ touched_by t a
inserter_touched t i a e h = rw (← e, eq-eqb i t h)

pub returns-then-inserter-t : goal.returns-then-inserter-t
returns-then-inserter-t c =
    let marked = (get_or (nodes c.args.s.now) c.args.i no_entry).1 in
    inserter_touched _ _ marked c.inserter.ensures c.if-inserter-t.true
