use Rattle.table.specs.Laws.Fields.{deleted_kept}
use borrow.Author.Rules.{rules}
use Rattle.table.proofs.set_deleter.Goals as goal

pub returns : goal.returns
returns c = deleted_kept _ _ _ _ (search rules) c.set_mark.ensures
