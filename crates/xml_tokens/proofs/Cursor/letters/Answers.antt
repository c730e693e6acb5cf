use lib.Dec.{leb}
use borrow.Author.Rules.{rules}
use Rattle.xml_tokens.proofs.Cursor.letters.Goals as goal

pub returns : goal.returns
returns c = c.run.ensures (leb 128) (λ b x h. search rules)
