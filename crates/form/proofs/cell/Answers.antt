use Rattle.std.proofs.Common.{◌∙◌}
use Rattle.form.specs.Laws.Cells.{cell_unmarked, cell_marks, cell_sizes}
use borrow.Author.Rules.{rules}
use Rattle.form.proofs.cell.Goals as goal

pub returns-then-from-w : goal.returns-then-from-w
returns-then-from-w c = cell_unmarked _ _ _ _ _ _ c.double_word-w.ensures (rw (c.from.ensures, c.from-2.ensures) at c.if-from-w.true) (search rules)

pub returns-then-kind-marks : goal.returns-then-kind-marks
returns-then-kind-marks c = cell_sizes _ _ _ _ _ c.if-kind-marks.true _ c.sizes.ensures

pub returns-else-kind-marks : goal.returns-else-kind-marks
returns-else-kind-marks c = c.if-kind-marks.false ∙ cell_marks _ _ _ _ _ c.if-kind-marks.false
