use Rattle.table.specs.Laws.Fields.{field_kept}
use borrow.Author.Rules.{rules}
use Rattle.table.proofs.set_field.Goals as goal

pub returns : goal.returns
returns c = field_kept _ _ _ _ _ c.slot-k.ensures.0 (search rules) (search rules) (search rules) (search rules)
