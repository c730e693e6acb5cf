use mathlib.Core.Path.{refl}
use Rattle.locks.specs.declared.StepName.TheVariants as name
use Rattle.rows.specs.Rows.{stepped}
use Rattle.tree.specs.Steps.{R}
use Rattle.engine.specs.Contract.{room_of}
use Rattle.engine.specs.Laws.Causes.{cause_named}
use Rattle.protocol.specs.declared.causes.Cause.TheVariants.{ShortBuffer}
use Rattle.engine.specs.Laws.Judgement.{asked, tried_rejected, tried_own, tried_refused, tried_judged, lent_exit, free_refused, free_granted, free_locked}
use Rattle.read_steps.specs.Laws.Steps.{room_left, room_short, content_fits, content_short, content_granted}
use Rattle.read_steps.proofs.try_read.Goals as goal

pub returns-in_err-at : goal.returns-in_err-at
returns-in_err-at c =
    let exit = c.from_residual in (
      tried_rejected exit.result _ exit.ensures.1 (R _) c.in_err-at.ensures (room_of c.args.out.now),
      lent_exit _ _ _ _ _ exit.ensures.0,
    )

pub returns-in_err-document_cause : goal.returns-in_err-document_cause
returns-in_err-document_cause c =
    let exit = c.from_residual-in_err-document_cause in (
      tried_own exit.result _ exit.ensures.1 (R _) c.in_ok-at.ensures c.in_err-document_cause.ensures (room_of c.args.out.now),
      lent_exit _ _ _ _ _ exit.ensures.0,
    )

pub returns-in_err-judge : goal.returns-in_err-judge
returns-in_err-judge c =
    let exit = c.from_residual-in_err-judge in
    let a = asked name.R (R _) refl c.in_ok-at.ensures c.in_ok-document_cause.ensures c.needed-need.ensures in (
      tried_judged exit.result _ exit.ensures.1 a c.in_err-judge.ensures (room_of c.args.out.now),
      lent_exit _ _ _ _ _ exit.ensures.0,
    )

pub returns-in_err-room : goal.returns-in_err-room
returns-in_err-room c =
    let out = c.args.out.now in
    let exit = c.from_residual-in_err-room in
    let f = c.in_ok-judge.ensures.free (asked name.R (R _) refl c.in_ok-at.ensures c.in_ok-document_cause.ensures c.needed-need.ensures) in
    let short = content_short _ out c.size-size.ensures.0 c.in_err-room.ensures.1 in (
      tried_refused _ exit.result _ (rw c.in_err-room.ensures.0 at exit.ensures.1)
          (free_refused f (room_of out) _ (room_short _ (room_of out) short) (cause_named ShortBuffer)),
      lent_exit _ _ _ _ _ exit.ensures.0,
    )

pub returns : goal.returns
unfolding stepped
returns c =
    let out = c.args.out.now in
    let f = c.in_ok-judge.ensures.free (asked name.R (R _) refl c.in_ok-at.ensures c.in_ok-document_cause.ensures c.needed-need.ensures) in
    let fits = room_left _ (room_of out) (content_fits _ out c.size-size.ensures.0 c.in_ok-room.ensures) in
    let granted = free_granted f (room_of out) fits (free_locked f c.grant.ensures).left in
    content_granted granted c.size-size.ensures.0 c.content.ensures
