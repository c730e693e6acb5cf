use Rattle.xml_reader.specs.Laws.Declaration.{declared_whole, declared_part}
use Rattle.xml_reader.proofs.start.declared.Goals as goal

pub returns-then-n-word : goal.returns-then-n-word
returns-then-n-word c = declared_whole _ _ _ c.agreement-n.ensures c.if-n-word.true c.root.ensures

pub returns : goal.returns
returns c = declared_part _ _ _ c.agreement-n.ensures c.if-n-word.false
