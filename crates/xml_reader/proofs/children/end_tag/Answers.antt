use Rattle.xml_reader.specs.Laws.EndTags.{end_differs, end_rest}
use Rattle.xml_reader.proofs.children.end_tag.Goals as goal

pub returns-then-n-to : goal.returns-then-n-to
returns-then-n-to c = end_differs _ _ _ _ c.name-end.ensures _ c.agreement-n.ensures c.if-n-to.true

pub returns : goal.returns
returns c = end_rest _ _ _ _ c.name-end.ensures _ c.agreement-n.ensures
    c.if-n-to.false c.close.ensures
