use mathlib.Core.Path.{◌∙◌}
use Rattle.engine.specs.Laws.Way.{climbed_top, climbed_parent}
use Rattle.engine.proofs.parent.Goals as goal

pub returns-in-len2-up : goal.returns-in-len2-up
returns-in-len2-up c = c.number.ensures ∙ rw c.from.ensures (climbed_parent c.requires.1 c.in-len2-up.len_at_least)

pub returns-in_default : goal.returns-in_default
returns-in_default c = climbed_top c.requires.1 c.in_default.len_below
