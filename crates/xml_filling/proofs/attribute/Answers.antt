use native.Mathlib.Omega.{arith}
use Rattle.xml_reader.specs.Laws.Attributes.{quoted_inside}
use Rattle.xml_filling.specs.Laws.Texts.{put_same, same_then}
use Rattle.xml_filling.specs.Laws.Names.{attribute_room, attribute_short, attribute_put}
use Rattle.xml_filling.specs.Laws.Places.{quote_there, value_fits, value_put}
use Rattle.xml_filling.proofs.attribute.Goals as goal

pub put-requires : goal.put-requires
put-requires c =
    let F = c.requires in
    let r = c.name-end.ensures in
    (F.layout, attribute_room F _ r, attribute_short F _ r)

pub unwrap-opening-requires : goal.unwrap-opening-requires
unwrap-opening-requires c = quote_there (attribute_put c.requires _ c.name-end.ensures c.put.ensures) c.equals.ensures

pub text-requires : goal.text-requires
text-requires c =
    let G = attribute_put c.requires _ c.name-end.ensures c.put.ensures in
    let q = rw c.unwrap-opening.ensures at c.equals.ensures in
    ((quoted_inside q).1, G.layout, value_fits G q)

pub returns : goal.returns
returns c =
    let r = c.name-end.ensures in
    let G = attribute_put c.requires _ r c.put.ensures in
    let q = rw c.unwrap-opening.ensures at c.equals.ensures in
    let y = value_put G q c.text.ensures in
    (y.0.0, same_then (put_same _ c.put.ensures) y.0.1, omega (arith, r.ends, y.1))
