use mathlib.Core.Path.{refl}
use Rattle.locks.specs.declared.StepName.TheVariants as name
use Rattle.rows.specs.Rows.{stepped}
use Rattle.tree.specs.Steps.{C}
use Rattle.engine.specs.Contract.{no_room}
use Rattle.engine.specs.Laws.Outcomes.{performed_grants}
use Rattle.engine.specs.Laws.Judgement.{asked, tried_rejected, tried_judged, free_granted, free_locked}
use Rattle.read_steps.specs.Laws.Steps.{room_left, child_fits}
use Rattle.read_steps.proofs.try_child.Goals as goal

pub returns-in_err-at : goal.returns-in_err-at
returns-in_err-at c =
    let exit = c.from_residual in
    tried_rejected exit.result _ exit.ensures.1 (C _ c.args.k) c.in_err-at.ensures no_room

pub returns-in_err-judge : goal.returns-in_err-judge
returns-in_err-judge c =
    let exit = c.from_residual-in_err-judge in
    let a = asked name.C (C _ c.args.k) refl c.in_ok-at.ensures refl c.needed-need.ensures in
    tried_judged exit.result _ exit.ensures.1 a c.in_err-judge.ensures no_room

pub returns : goal.returns
unfolding stepped
returns c =
    let f = c.in_ok-judge.ensures.free (asked name.C (C _ c.args.k) refl c.in_ok-at.ensures refl c.needed-need.ensures) in
    let left = (free_locked f c.grant.ensures).left in
    performed_grants (free_granted f no_room (room_left _ no_room (child_fits _ _)) left) _ c.kth_child-answer.ensures
