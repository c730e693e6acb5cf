use native.Mathlib.Omega.{arith}
use Rattle.xml_reader.specs.Laws.Children.{end_there}
use Rattle.xml_filling.specs.Laws.Texts.{same_then}
use Rattle.xml_filling.specs.Laws.Places.{child_fits, child_text, markup_there, open_deep, tag_started, tag_ended}
use Rattle.xml_filling.proofs.child.Goals as goal

pub text-tag-requires : goal.text-tag-requires
text-tag-requires c = let p = c.requires in (p.0.inside, p.0.layout, child_fits p.0 p.1)

pub markup-requires : goal.markup-requires
markup-requires c = let p = c.requires in (child_text p.0 p.1 c.text-tag.ensures).2

pub unwrap-requires : goal.unwrap-requires
unwrap-requires c = let p = c.requires in markup_there (child_text p.0 p.1 c.text-tag.ensures).0.0 c.markup.ensures

pub end_tag-requires : goal.end_tag-requires
end_tag-requires c = end_there (rw (c.unwrap.ensures, c.in-EndTag.is) at c.markup.ensures)

pub overflow_sub-result : goal.overflow_sub-result
overflow_sub-result c = let p = c.requires in open_deep (child_text p.0 p.1 c.text-tag.ensures).0.0

pub start_tag-requires : goal.start_tag-requires
start_tag-requires c =
    let p = c.requires in
    (tag_started (child_text p.0 p.1 c.text-tag.ensures).0.0 (rw (c.unwrap.ensures, c.in-StartTag.is) at c.markup.ensures)).0

pub returns-in-EndTag : goal.returns-in-EndTag
returns-in-EndTag c =
    let p = c.requires in
    let G = child_text p.0 p.1 c.text-tag.ensures in
    let y = tag_ended G.0.0 (rw (c.unwrap.ensures, c.in-EndTag.is) at c.markup.ensures) c.end_tag.ensures in
    (y.0, G.0.1, omega (arith, G.1, y.1))

pub returns-in-StartTag : goal.returns-in-StartTag
returns-in-StartTag c =
    let p = c.requires in
    let G = child_text p.0 p.1 c.text-tag.ensures in
    let y = tag_started G.0.0 (rw (c.unwrap.ensures, c.in-StartTag.is) at c.markup.ensures) in
    let e = c.start_tag.ensures in
    (e.0, same_then G.0.1 e.1, omega (arith, G.1, y.1, e.2))
