use Rattle.xml_judging.specs.Laws.Element.{epilog_wrong, epilog_over}
use Rattle.xml_judging.proofs.behind_root.Goals as goal

pub returns-then-at-s : goal.returns-then-at-s
returns-then-at-s c = rw c.new.ensures (epilog_wrong _ _ _ _ c.blanks-end.ensures c.if-at-s.true)

pub returns : goal.returns
returns c = epilog_over _ _ _ _ c.blanks-end.ensures c.if-at-s.false
