use mathlib.Core.Path.{◌∙◌}
use Rattle.table.specs.Laws.Fields.{number_at}
use borrow.Author.Rules.{rules}
use Rattle.table.specs.Layout.{number}
use Rattle.table.proofs.number.Goals as goal

pub returns : goal.returns
unfolding number
returns c = c.at.ensures.2 ∙ number_at _ _ (search rules)
