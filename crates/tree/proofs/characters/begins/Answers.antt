use mathlib.Core.Path.{◌∙◌}
use Rattle.tree.proofs.Reading.{small_begins, start_possible, text_begins, name_begins}
use Rattle.tree.proofs.characters.begins.Goals as goal

pub possible-requires : goal.possible-requires
possible-requires c = rw c.first_part.ensures (small_begins _)

pub returns-then-b-ge128 : goal.returns-then-b-ge128
returns-then-b-ge128 c = c.possible.ensures ∙ start_possible _ _ _ c.first_part.ensures

pub returns-then-text : goal.returns-then-text
returns-then-text c = c.text_byte.ensures ∙ text_begins _ _ c.if-b-ge128.false c.if-text.true

pub returns-else-text : goal.returns-else-text
returns-else-text c = c.name_start.ensures ∙ name_begins _ _ c.if-b-ge128.false c.if-text.false
