use Rattle.xml_filling.specs.Laws.Tokens.{ends_at}
use Rattle.xml_filling.proofs.end_tag.Goals as goal

pub returns : goal.returns
returns c = rw c.unwrap_or.ensures (ends_at _ _ _ c.name-end.ensures c.close.ensures _)
