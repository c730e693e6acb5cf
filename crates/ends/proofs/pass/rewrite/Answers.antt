use borrow.Author.Rules.{rules}
use native.Mathlib.Omega.{arith}
use Rattle.ends.specs.Laws.Marks.{nobody_storable, own_saved, written_cleared, unwritten_cleared}
use Rattle.ends.proofs.pass.rewrite.Goals as goal

pub restore_content-requires : goal.restore_content-requires
restore_content-requires c =
    let saved = own_saved c.args.s.now c.args.i _ _ c.writer.ensures c.if-writer-t.true c.requires.2 in
    (search rules, search rules, saved)

pub set_mark-requires : goal.set_mark-requires
set_mark-requires c =
    let restored = c.restore_content.ensures in
    (restored.layout, omega (arith, restored.many, c.requires.1), nobody_storable 1)

pub returns-then-writer-t : goal.returns-then-writer-t
returns-then-writer-t c = written_cleared _ _ _ c.writer.ensures c.if-writer-t.true c.restore_content.ensures c.set_mark.ensures

pub returns-else-writer-t : goal.returns-else-writer-t
returns-else-writer-t c = unwritten_cleared _ _ _ _ c.writer.ensures c.if-writer-t.false (search rules)
