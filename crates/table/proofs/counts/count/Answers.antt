use mathlib.Core.Path.{◌∙◌}
use Rattle.table.specs.Laws.Counts.{count_read}
use borrow.Author.Rules.{rules}
use Rattle.table.proofs.counts.count.Goals as goal

pub returns : goal.returns
returns c = c.double_word.ensures ∙ count_read _ _ _ c.slot.ensures.0 (search rules)
