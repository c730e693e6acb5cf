use borrow.Author.Rules.{rules}
use native.Mathlib.Omega.{arith}
use Rattle.xml_filling.specs.Laws.Texts.{same_then, same_same}
use Rattle.xml_filling.specs.Laws.Places.{filled_done}
use Rattle.xml_filling.proofs.children.Goals as goal

pub loop-level-init : goal.loop-level-init
loop-level-init c = record { same = same_same _; filling = c.requires }

pub child-level-requires : goal.child-level-requires
child-level-requires c = (c.loop-level.invariant.filling, search rules)

pub loop-level-smaller : goal.loop-level-smaller
loop-level-smaller c = let e = c.child-level.ensures in omega (arith, e.2, e.0.inside)

pub loop-level-preserved : goal.loop-level-preserved
loop-level-preserved c =
    let e = c.child-level.ensures in record { same = same_then c.loop-level.invariant.same e.1; filling = e.0 }

pub returns : goal.returns
returns c = filled_done c.loop-level.invariant.filling (search rules) c.loop-level.invariant.same
