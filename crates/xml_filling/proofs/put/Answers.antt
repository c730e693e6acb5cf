use Rattle.xml_filling.specs.Laws.Tokens.{put_last}
use Rattle.xml_filling.proofs.put.Goals as goal

pub returns : goal.returns
returns c = put_last _ _ _ _ c.count-n.ensures (rw c.from.ensures at c.insert.ensures)
