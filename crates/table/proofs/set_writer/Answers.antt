use Rattle.table.specs.Laws.Fields.{writer_kept}
use borrow.Author.Rules.{rules}
use Rattle.table.proofs.set_writer.Goals as goal

pub returns : goal.returns
returns c = writer_kept _ _ _ _ c.slot-k.ensures.0 (search rules) (search rules) (search rules) c.requires.3
