use mathlib.Core.Path.{refl}
use Rattle.locks.specs.declared.StepName.TheVariants as name
use Rattle.rows.specs.Rows.{stepped}
use native.Mathlib.Omega.{arith}
use Rattle.tree.specs.Steps.{TT}
use Rattle.engine.specs.Contract.{room_of}
use Rattle.protocol.specs.declared.causes.Cause.TheVariants.{ShortBuffer}
use Rattle.engine.specs.Laws.Causes.{cause_named}
use Rattle.engine.specs.Laws.Judgement.{asked, tried_rejected, tried_refused, tried_judged, lent_exit, free_refused, free_granted, free_locked}
use Rattle.node_reading.specs.Laws.Subtree.{selected_inside}
use Rattle.read_steps.specs.Laws.Lengths.{length_places}
use Rattle.read_steps.specs.Laws.Steps.{room_left, room_short, numbers_fit, numbers_short, numbers_granted}
use Rattle.read_steps.proofs.try_test_tree.Goals as goal

pub returns-in_err-at : goal.returns-in_err-at
returns-in_err-at c =
    let exit = c.from_residual in (
      tried_rejected exit.result _ exit.ensures.1 (TT _) c.in_err-at.ensures (room_of c.args.out.now),
      lent_exit _ _ _ _ _ exit.ensures.0,
    )

pub returns-in_err-judge : goal.returns-in_err-judge
returns-in_err-judge c =
    let exit = c.from_residual-in_err-judge in
    let a = asked name.TT (TT _) refl c.in_ok-at.ensures refl c.needed-need.ensures in (
      tried_judged exit.result _ exit.ensures.1 a c.in_err-judge.ensures (room_of c.args.out.now),
      lent_exit _ _ _ _ _ exit.ensures.0,
    )

pub returns-in_err-room : goal.returns-in_err-room
returns-in_err-room c =
    let out = c.args.out.now in
    let exit = c.from_residual-in_err-room in
    let f = c.in_ok-judge.ensures.free (asked name.TT (TT _) refl c.in_ok-at.ensures refl c.needed-need.ensures) in
    let short = numbers_short _ c.select-count.ensures out c.in_err-room.ensures.1 in (
      tried_refused _ exit.result _ (rw c.in_err-room.ensures.0 at exit.ensures.1)
          (free_refused f (room_of out) _ (room_short _ (room_of out) short) (cause_named ShortBuffer)),
      lent_exit _ _ _ _ _ exit.ensures.0,
    )

pub numbers-requires : goal.numbers-requires
numbers-requires c =
    let f = c.in_ok-judge.ensures.free (asked name.TT (TT _) refl c.in_ok-at.ensures refl c.needed-need.ensures) in
    let long = length_places c.select-count.ensures.inside in
    (f.standing.layout, selected_inside c.select-count.ensures, omega (arith, long, c.in_ok-room.ensures))

pub returns : goal.returns
unfolding stepped
returns c =
    let out = c.args.out.now in
    let f = c.in_ok-judge.ensures.free (asked name.TT (TT _) refl c.in_ok-at.ensures refl c.needed-need.ensures) in
    let fits = numbers_fit _ c.select-count.ensures out c.in_ok-room.ensures in
    let granted = free_granted f (room_of out) (room_left _ (room_of out) fits) (free_locked f c.grant.ensures).left in
    numbers_granted _ c.select-count.ensures c.numbers.ensures granted
