use mathlib.Core.Path.{◌∙◌}
use Rattle.table.specs.Layout.{count}
use Rattle.table.specs.Laws.Nodes.{length_nodes}
use Rattle.table.proofs.count.Goals as goal

pub returns : goal.returns
unfolding count
returns c = rw length_nodes (c.from.ensures ∙ c.word.ensures)
