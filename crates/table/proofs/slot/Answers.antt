use Rattle.std.proofs.Common.{◌∙◌}
use borrow.Author.Rules.{rules}
use Rattle.table.proofs.slot.Goals as goal

pub returns : goal.returns
returns c = (c.from.ensures ∙ c.at.ensures.0, rw (c.from.ensures, c.at.ensures.0) (c.requires.0.slots _ (search rules)))
