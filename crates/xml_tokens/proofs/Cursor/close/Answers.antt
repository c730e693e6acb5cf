use Rattle.xml_tokens.specs.Laws.Tags.{close_read}
use Rattle.xml_tokens.proofs.Cursor.close.Goals as goal

pub returns : goal.returns
returns c = close_read _ _ _ c.blanks-behind.ensures c.over.ensures
