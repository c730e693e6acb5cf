use Rattle.table.specs.Laws.Fields.{field_at}
use borrow.Author.Rules.{rules}
use Rattle.table.proofs.field.Goals as goal

pub returns : goal.returns
returns c = field_at _ _ _ _ c.slot.ensures.0 (search rules) (search rules)
