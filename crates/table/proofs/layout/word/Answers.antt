use Rattle.std.proofs.Common.{arith, ◌∙◌}
use Rattle.table.specs.Layout.{word}
use Rattle.table.proofs.layout.word.Goals as goal

pub returns : goal.returns
unfolding word
returns c = c.from_le_bytes.ensures ∙ omega arith
