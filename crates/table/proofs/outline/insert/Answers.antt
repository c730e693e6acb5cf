use Rattle.table.specs.Laws.Insert.{inserted}
use Rattle.table.proofs.outline.insert.Goals as goal

pub returns : goal.returns
returns c =
    inserted _ _ _ _ _ _ c.open_place.ensures c.set_kind.ensures c.clear_writer.ensures c.set_inserter.ensures c.set_deleter.ensures
    c.set_content.ensures c.set_count.ensures c.unlock.ensures c.requires.2
