use Rattle.xml_filling.specs.Laws.Places.{root_there, begin_filling, filled_then}
use Rattle.xml_filling.proofs.fill.Goals as goal

pub unwrap-cursor-requires : goal.unwrap-cursor-requires
unwrap-cursor-requires c = root_there c.requires c.find_root.ensures

pub start_tag-first-requires : goal.start_tag-first-requires
start_tag-first-requires c = begin_filling c.requires (rw c.unwrap-cursor.ensures at c.find_root.ensures)

pub returns : goal.returns
returns c = filled_then c.start_tag-first.ensures.1 c.children.ensures
