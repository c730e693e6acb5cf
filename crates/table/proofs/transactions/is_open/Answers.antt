use mathlib.Core.Path.{◌∙◌}
use Rattle.table.specs.Layout.{is_open}
use Rattle.table.proofs.transactions.is_open.Goals as goal

pub returns : goal.returns
unfolding is_open
returns c = c.has.ensures ∙ rw c.word.ensures
