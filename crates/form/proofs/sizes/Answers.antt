use Rattle.std.proofs.Common.{◌∙◌}
use borrow.Author.Tests.{eq-eqb, lt-leb}
use borrow.Author.Rules.{rules}
use Rattle.form.specs.Laws.Cells.{sizes_now, sizes_unwritten, sizes_saved}
use Rattle.form.proofs.sizes.Goals as goal

pub returns-then-unwritten : goal.returns-then-unwritten
returns-then-unwritten c = eq-eqb _ _ c.if-unwritten.true ∙ sizes_unwritten _ _ (search rules) c.if-unwritten.true

pub returns-else-unwritten : goal.returns-else-unwritten
returns-else-unwritten c = sizes_saved _ _ (search rules) c.if-unwritten.false

pub returns-else-s-c-le32 : goal.returns-else-s-c-le32
returns-else-s-c-le32 c = lt-leb _ _ c.if-s-c-le32.false ∙ sizes_now _ _ c.if-s-c-le32.false
