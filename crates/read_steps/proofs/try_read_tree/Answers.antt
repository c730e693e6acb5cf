use mathlib.Core.Path.{refl}
use Rattle.locks.specs.declared.StepName.TheVariants as name
use Rattle.rows.specs.Rows.{stepped}
use native.Mathlib.Omega.{arith}
use Rattle.tree.specs.Steps.{RR}
use Rattle.engine.specs.Contract.{rooms_of}
use Rattle.protocol.specs.declared.causes.Cause.TheVariants.{ShortBuffer}
use Rattle.engine.specs.Laws.Causes.{cause_named}
use Rattle.engine.specs.Laws.Judgement.{asked, tried_rejected, tried_refused, tried_judged, lent_exit, free_refused, free_granted, free_locked}
use Rattle.node_reading.specs.Laws.Subtree.{selected_inside}
use Rattle.read_steps.specs.Laws.Lengths.{length_places}
use Rattle.read_steps.specs.Laws.Steps.{room_left, room_short, cells_fit}
use Rattle.read_steps.specs.Laws.Steps.{cells_short_first, cells_short_second, cells_granted}
use Rattle.read_steps.proofs.try_read_tree.Goals as goal

pub returns-in_err-at : goal.returns-in_err-at
returns-in_err-at c =
    let exit = c.from_residual in (
      tried_rejected exit.result _ exit.ensures.1 (RR _) c.in_err-at.ensures (rooms_of c.args.out.now c.args.cells.now),
      lent_exit _ _ _ _ _ exit.ensures.0,
      lent_exit _ _ _ _ _ exit.ensures.0,
    )

pub returns-in_err-judge : goal.returns-in_err-judge
returns-in_err-judge c =
    let exit = c.from_residual-in_err-judge in
    let a = asked name.RR (RR _) refl c.in_ok-at.ensures refl c.needed-need.ensures in (
      tried_judged exit.result _ exit.ensures.1 a c.in_err-judge.ensures (rooms_of c.args.out.now c.args.cells.now),
      lent_exit _ _ _ _ _ exit.ensures.0,
      lent_exit _ _ _ _ _ exit.ensures.0,
    )

pub returns-in_err-room : goal.returns-in_err-room
returns-in_err-room c =
    let out = c.args.out.now in
    let cells = c.args.cells.now in
    let exit = c.from_residual-in_err-room in
    let f = c.in_ok-judge.ensures.free (asked name.RR (RR _) refl c.in_ok-at.ensures refl c.needed-need.ensures) in
    let short = cells_short_first _ c.select-count.ensures f.standing.layout out cells c.in_err-room.ensures.1 in (
      tried_refused _ exit.result _ (rw c.in_err-room.ensures.0 at exit.ensures.1)
          (free_refused f (rooms_of out cells) _ (room_short _ (rooms_of out cells) short) (cause_named ShortBuffer)),
      lent_exit _ _ _ _ _ exit.ensures.0,
      lent_exit _ _ _ _ _ exit.ensures.0,
    )

pub returns-in_err-room-2 : goal.returns-in_err-room-2
returns-in_err-room-2 c =
    let out = c.args.out.now in
    let cells = c.args.cells.now in
    let exit = c.from_residual-in_err-room-2 in
    let f = c.in_ok-judge.ensures.free (asked name.RR (RR _) refl c.in_ok-at.ensures refl c.needed-need.ensures) in
    let short = cells_short_second _ c.select-count.ensures f.standing.layout out cells c.in_err-room-2.ensures.1 in (
      tried_refused _ exit.result _ (rw c.in_err-room-2.ensures.0 at exit.ensures.1)
          (free_refused f (rooms_of out cells) _ (room_short _ (rooms_of out cells) short) (cause_named ShortBuffer)),
      lent_exit _ _ _ _ _ exit.ensures.0,
      lent_exit _ _ _ _ _ exit.ensures.0,
    )

pub numbers-requires : goal.numbers-requires
numbers-requires c =
    let f = c.in_ok-judge.ensures.free (asked name.RR (RR _) refl c.in_ok-at.ensures refl c.needed-need.ensures) in
    let long = length_places c.select-count.ensures.inside in
    (f.standing.layout, selected_inside c.select-count.ensures, omega (arith, long, c.in_ok-room.ensures))

pub cells-requires : goal.cells-requires
cells-requires c =
    let f = c.in_ok-judge.ensures.free (asked name.RR (RR _) refl c.in_ok-at.ensures refl c.needed-need.ensures) in
    let long = length_places c.select-count.ensures.inside in
    (f.standing.layout, selected_inside c.select-count.ensures, omega (arith, long, c.in_ok-room-2.ensures))

pub returns : goal.returns
unfolding stepped
returns c =
    let out = c.args.out.now in
    let cells = c.args.cells.now in
    let f = c.in_ok-judge.ensures.free (asked name.RR (RR _) refl c.in_ok-at.ensures refl c.needed-need.ensures) in
    let fits = cells_fit _ c.select-count.ensures f.standing.layout out cells c.in_ok-room.ensures c.in_ok-room-2.ensures in
    let left = (free_locked f c.grant.ensures).left in
    let granted = free_granted f (rooms_of out cells) (room_left _ (rooms_of out cells) fits) left in
    cells_granted _ c.select-count.ensures c.numbers.ensures c.cells.ensures granted
