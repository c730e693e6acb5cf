use native.Mathlib.Omega.{arith}
use Rattle.xml_filling.specs.Laws.Texts.{put_same, same_then}
use Rattle.xml_filling.specs.Laws.Names.{element_room, element_short, element_put}
use Rattle.xml_filling.proofs.start_tag.Goals as goal

pub put-requires : goal.put-requires
put-requires c = let F = c.requires in
    let r = c.name-cursor.ensures in
    (F.layout, element_room F _ r, element_short F _ r)

pub attributes-requires : goal.attributes-requires
attributes-requires c =
    let put = c.put in
    element_put c.requires _ c.name-cursor.ensures put.ensures

pub returns : goal.returns
returns c = let e = c.attributes.ensures in
    (e.0, same_then (put_same _ c.put.ensures) e.1, omega (arith, c.name-cursor.ensures.ends, e.2))
