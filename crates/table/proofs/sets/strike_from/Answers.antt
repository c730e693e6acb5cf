use borrow.Author.Rules.{rules}
use mathlib.Core.Path.{◌∙◌, sym}
use Rattle.table.specs.Laws.Sets.{not_there, taken_out}
use Rattle.table.proofs.sets.strike_from.Goals as goal

pub returns-then-has : goal.returns-then-has
returns-then-has c =
    taken_out _ _ _ _ c.set-w.ensures (search rules) (search rules) (search rules) (search rules) (search rules)
    (sym c.if-has.ensures) (c.remember.ensures ∙ rw c.turned.ensures)

pub returns-else-has : goal.returns-else-has
returns-else-has c =
    not_there _ _ _ _ c.set-w.ensures (search rules) (search rules) (search rules) (search rules) (search rules)
    (sym c.if-has.ensures)
