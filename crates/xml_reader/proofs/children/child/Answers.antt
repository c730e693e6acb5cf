use borrow.Author.Rules.{rules}
use Rattle.xml_reader.specs.Laws.Children.{child_refused, child_past, behind_text}
use Rattle.xml_reader.proofs.children.child.Goals as goal

pub tag-requires : goal.tag-requires
tag-requires c = behind_text c.requires.1 c.in_ok-text.ensures

pub returns-in_err-text : goal.returns-in_err-text
returns-in_err-text c = search (rules, child_refused)

pub returns : goal.returns
returns c =
    let a = c.args in
    child_past a.s.now a.names.now a.from.depth a.from.spare a.from.cursor.at c.requires.1 _ c.in_ok-text.ensures c.tag.ensures
