use mathlib.Core.Path.{sym, ◌∙◌}
use Rattle.table.specs.Laws.Removal.{below_deep, below_past}
use Rattle.table.proofs.outline.next_below.Goals as goal

pub returns-then-left_out : goal.returns-then-left_out
returns-then-left_out c = below_deep _ _ _ (rw (← c.depth.ensures) (sym c.if-left_out.ensures))

pub returns-else-left_out : goal.returns-else-left_out
returns-else-left_out c = c.below_marked.ensures ∙ below_past _ _ _ (rw (← c.depth.ensures) (sym c.if-left_out.ensures))
