use native.Mathlib.Omega.{arith}
use Rattle.ends.specs.Laws.Calls.{document_stays}
use Rattle.ends.specs.Laws.Marks.{left_open, end_left}
use Rattle.ends.proofs.end.Goals as goal

pub overflow_cast-t : goal.overflow_cast-t
overflow_cast-t c = omega (arith, c.requires.high)

pub one_pass-requires : goal.one_pass-requires
one_pass-requires c =
    let opened = c.requires in
    (opened.layout, opened.low, opened.high, document_stays c.args.end opened)

pub close-requires : goal.close-requires
close-requires c =
    let opened = c.requires in
    let pass = c.one_pass.ensures in
    (pass.left.layout, opened.low, opened.high, left_open _ pass.left opened.is_open)

pub returns : goal.returns
returns c = end_left c.args.end _ c.one_pass.ensures c.close.ensures
