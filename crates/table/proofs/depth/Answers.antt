use mathlib.Core.Path.{◌∙◌}
use Rattle.table.specs.Laws.Fields.{depth_at}
use borrow.Author.Rules.{rules}
use Rattle.table.specs.Layout.{depth}
use Rattle.table.proofs.depth.Goals as goal

pub returns : goal.returns
unfolding depth
returns c = c.at.ensures.1 ∙ depth_at _ _ (search rules)
