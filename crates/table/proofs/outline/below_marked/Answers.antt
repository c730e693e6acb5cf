use mathlib.Core.Path.{sym, ap, ◌∙◌}
use mathlib.Core.Bool.{not}
use borrow.Author.Tests.{eq-eqb, ne_eqb}
use Rattle.table.specs.Laws.Removal.{below_out, below_kept}
use Rattle.table.proofs.outline.below_marked.Goals as goal

pub returns-then-marked_by-t : goal.returns-then-marked_by-t
returns-then-marked_by-t c =
    rw (c.from.ensures, c.depth.ensures) (below_out _ 0 _ (ap not (eq-eqb _ _ (sym c.marked_by.ensures ∙ c.if-marked_by-t.true))))

pub returns-else-marked_by-t : goal.returns-else-marked_by-t
returns-else-marked_by-t c = below_kept _ 0 _ (ap not (ne_eqb _ _ (λ e. c.if-marked_by-t.false (c.marked_by.ensures ∙ e))))
