use borrow.Author.Rules.{rules}
use native.Mathlib.Omega.{arith}
use Rattle.xml_judging.specs.Laws.Element.{content_start, content_deep, content_stopped, content_turn, content_over}
use Rattle.xml_judging.proofs.root_content.Goals as goal

pub loop-inside-init : goal.loop-inside-init
loop-inside-init c = record { within = c.requires.0.inside; comes = content_start _ _ _ _ c.requires.0 c.requires.1 }

pub child-requires : goal.child-requires
child-requires c =
    let i = c.loop-inside.invariant in
    (i.comes.begins_here, content_deep _ _ _ _ _ _ _ _ i.comes (omega arith))

pub returns-in_err-inside : goal.returns-in_err-inside
returns-in_err-inside c = search (rules, content_stopped)

pub loop-inside-smaller : goal.loop-inside-smaller
loop-inside-smaller c =
    let z = content_turn _ _ _ _ _ _ _ _ c.loop-inside.invariant.comes c.in_ok-inside.ensures in omega (arith, z.1, z.2)

pub loop-inside-preserved : goal.loop-inside-preserved
loop-inside-preserved c =
    let z = content_turn _ _ _ _ _ _ _ _ c.loop-inside.invariant.comes c.in_ok-inside.ensures in
    record { within = z.2; comes = z.0 }

pub behind_root-requires : goal.behind_root-requires
behind_root-requires c = c.loop-inside.invariant.within

pub returns : goal.returns
returns c =
    content_over _ _ _ _ _ _ _ _ c.loop-inside.invariant.comes c.loop-inside-test.false _ c.behind_root.ensures
