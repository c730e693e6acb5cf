use mathlib.Core.Path.{sym, ◌∙◌}
use Rattle.table.specs.Laws.Nodes.{length_nodes}
use Rattle.table.specs.Laws.Insert.{opened}
use borrow.Author.Rules.{rules}
use Rattle.table.proofs.outline.open_place.Goals as goal

pub returns : goal.returns
returns c =
    opened _ _ _ _ _ _ _ _ _ _ (search rules) (sym (length_nodes _) ∙ sym c.count-m.ensures) (search rules) (search rules)
    c.slot-k.ensures.0 c.clear.ensures c.shift.ensures c.store.ensures c.set_word.ensures
