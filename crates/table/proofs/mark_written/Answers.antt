use native.Mathlib.Omega.{arith}
use Rattle.table.specs.Laws.Texts.{over_size, written_over, written_first}
use Rattle.table.specs.Fields.{saved_size}
use borrow.Author.Rules.{rules}
use Rattle.table.proofs.mark_written.Goals as goal
use Rattle.table.proofs.mark_written.Goals.{then-unwritten, else-unwritten}

pub set_writer-requires : goal.set_writer-requires
unfolding saved_size
set_writer-requires c = elim c.if-unwritten.branch [
  | then-unwritten w ↦ let stored = w.copy_content.ensures in
      rw w.s-is (stored.kept.layout, omega (arith, stored.kept.many, c.requires.1), c.requires.2, stored.size)
  | else-unwritten w ↦ rw w.s-is
      (c.requires.0, c.requires.1, c.requires.2, over_size _ c.args.i c.args.t _ (search rules) c.requires.1 c.requires.0 w.if-unwritten.false)
]

pub returns : goal.returns
returns c = elim c.if-unwritten.branch [
  | then-unwritten w ↦ written_first _ c.args.i c.args.t _ (search rules) c.requires.1 w.if-unwritten.true w.copy_content.ensures
      (rw w.s-is at c.set_writer.ensures)
  | else-unwritten w ↦ written_over _ c.args.i c.args.t _ (search rules) c.requires.1 c.requires.0 w.if-unwritten.false
      (rw w.s-is at c.set_writer.ensures)
]
