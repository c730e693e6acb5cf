use borrow.Author.Rules.{rules}
use Rattle.xml_tokens.specs.Laws.Tags.{slash_closed, slash_lost}
use Rattle.xml_tokens.proofs.Cursor.slash.Goals as goal

pub returns-in_err-behind : goal.returns-in_err-behind
returns-in_err-behind c = search (rules, slash_lost)

pub returns : goal.returns
returns c = slash_closed _ _ c.requires.0 c.requires.1 c.in_ok-behind.ensures
