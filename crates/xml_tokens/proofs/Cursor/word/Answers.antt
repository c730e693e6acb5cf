use mathlib.Core.Path.{refl}
use Rattle.xml_tokens.specs.Laws.Runs.{word_whole, word_part}
use Rattle.xml_tokens.proofs.Cursor.word.Goals as goal

pub returns-then-n-word : goal.returns-then-n-word
returns-then-n-word c = word_whole _ _ _ _ _ c.agreement-n.ensures _ c.if-n-word.true refl

pub returns : goal.returns
returns c = word_part _ _ _ _ _ c.agreement-n.ensures c.if-n-word.false
