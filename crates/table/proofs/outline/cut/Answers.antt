use Rattle.table.specs.Laws.Removal.{cut_left}
use borrow.Author.Rules.{rules}
use Rattle.table.proofs.outline.cut.Goals as goal

pub returns : goal.returns
returns c = cut_left _ _ _ c.set_word.ensures (search rules) (search rules) (search rules)
