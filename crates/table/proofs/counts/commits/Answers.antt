use mathlib.Core.Path.{◌∙◌}
use Rattle.table.specs.Laws.Counts.{commits_read}
use Rattle.table.proofs.counts.commits.Goals as goal

pub returns : goal.returns
returns c = c.double_word.ensures ∙ commits_read _
