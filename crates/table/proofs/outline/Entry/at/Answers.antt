use Rattle.table.specs.Layout.{slot, depth, number}
use Rattle.table.proofs.outline.Entry.at.Goals as goal

pub returns : goal.returns
unfolding slot depth number
returns c = (c.word.ensures, c.word-2.ensures, c.double_word.ensures)
