use borrow.Author.Rules.{rules}
use Rattle.xml_reader.specs.Laws.Children.{tag_none, tag_ended, start_there, end_there}
use Rattle.xml_reader.proofs.children.tag.Goals as goal

pub markup-requires : goal.markup-requires
markup-requires c = c.requires.0.inside

pub returns-in_err-cursor : goal.returns-in_err-cursor
returns-in_err-cursor c = search (rules, tag_none)

pub end-requires : goal.end-requires
end-requires c = (end_there (rw c.in-EndTag.is at c.in_ok-cursor.ensures), c.requires.1)

pub returns-in-EndTag : goal.returns-in-EndTag
returns-in-EndTag c =
    let a = c.args in
    tag_ended a.s.now a.names.now a.from.depth a.from.spare a.from.cursor.at c.requires.1 (rw c.in-EndTag.is at c.in_ok-cursor.ensures) c.end.ensures

pub element-requires : goal.element-requires
element-requires c =
    let y = start_there c.requires.0 (rw c.in-StartTag.is at c.in_ok-cursor.ensures) in
    (y.0, y.1, y.2, c.requires.1)

pub returns-in-StartTag : goal.returns-in-StartTag
returns-in-StartTag c =
    let y = start_there c.requires.0 (rw c.in-StartTag.is at c.in_ok-cursor.ensures) in
    rw y.3 at c.element.ensures
