use Rattle.protocol.specs.State.{Marked, count_touched}
use Rattle.ends.specs.Marks.{without_mark, rewritten}
use Rattle.ends.specs.Laws.Marks.{both_marks}
use Rattle.ends.proofs.pass.end_node.Goals as goal

pub returns-in-Lasting : goal.returns-in-Lasting
returns-in-Lasting c =
    let t = c.args.t in
    let n = c.in-Lasting.n in
    let two = both_marks _ (count_touched n t) (without_mark 1 t) c.count_touched.ensures c.clear_mark.ensures in
    rw c.in-Lasting.is (both_marks _ (λ (a : Marked). without_mark 1 t (count_touched n t a)) (without_mark 2 t) two
    c.clear_mark-in-Lasting.ensures)

pub returns-in-Undone : goal.returns-in-Undone
returns-in-Undone c =
    let t = c.args.t in
    rw c.in-Undone.is (both_marks _ (λ (a : Marked). without_mark 1 t (rewritten t a)) (without_mark 3 t) c.rewrite.ensures
    c.clear_mark-in-Undone.ensures)
