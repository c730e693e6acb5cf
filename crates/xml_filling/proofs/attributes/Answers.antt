use native.Mathlib.Omega.{arith}
use Rattle.xml_filling.specs.Laws.Texts.{same_then, same_same}
use Rattle.xml_filling.specs.Laws.Places.{item_there, tag_opened, tag_emptied, tag_deep, tag_attributed}
use borrow.Author.Rules.{rules}
use Rattle.xml_filling.proofs.attributes.Goals as goal

pub loop-cursor-init : goal.loop-cursor-init
loop-cursor-init c = record { further = search rules; same = same_same _; filling = c.requires }

pub item-requires : goal.item-requires
item-requires c = c.loop-cursor.invariant.filling.inside

pub unwrap-requires : goal.unwrap-requires
unwrap-requires c = item_there c.loop-cursor.invariant.filling c.item.ensures

pub returns-in-Open : goal.returns-in-Open
returns-in-Open c =
    let i = c.loop-cursor.invariant in
    let y = tag_opened i.filling (rw (c.unwrap.ensures, c.in-Open.is) at c.item.ensures) in
    (y.0, i.same, omega (arith, i.further, y.1))

pub overflow_sub-depth : goal.overflow_sub-depth
overflow_sub-depth c = tag_deep c.loop-cursor.invariant.filling

pub returns-in-Empty : goal.returns-in-Empty
returns-in-Empty c =
    let i = c.loop-cursor.invariant in
    let y = tag_emptied i.filling (rw (c.unwrap.ensures, c.in-Empty.is) at c.item.ensures) in
    (y.0, i.same, omega (arith, i.further, y.1))

pub attribute-here-requires : goal.attribute-here-requires
attribute-here-requires c =
    (tag_attributed c.loop-cursor.invariant.filling (rw (c.unwrap.ensures, c.in-Attribute.is) at c.item.ensures)).0

pub loop-cursor-smaller : goal.loop-cursor-smaller
loop-cursor-smaller c =
    let k = tag_attributed c.loop-cursor.invariant.filling (rw (c.unwrap.ensures, c.in-Attribute.is) at c.item.ensures) in
    let e = c.attribute-here.ensures in
    omega (arith, k.1, e.2, e.0.inside)

pub loop-cursor-preserved : goal.loop-cursor-preserved
loop-cursor-preserved c =
    let i = c.loop-cursor.invariant in
    let k = tag_attributed i.filling (rw (c.unwrap.ensures, c.in-Attribute.is) at c.item.ensures) in
    let e = c.attribute-here.ensures in
    record { further = omega (arith, i.further, k.1, e.2); same = same_then i.same e.1; filling = e.0 }
