use mathlib.Core.Path.{refl}
use Rattle.locks.specs.declared.StepName.TheVariants as name
use native.Mathlib.Omega.{arith}
use borrow.Author.Tests.{not-false}
use mathlib.Core.Path.{sym, ap}
use Rattle.tree.specs.Steps.{I}
use Rattle.locks.specs.Words.{need_words}
use Rattle.protocol.specs.Answers.{granted_answer}
use Rattle.engine.specs.Contract.{no_room}
use Rattle.engine.specs.Laws.Causes.{cause_named}
use Rattle.engine.specs.Laws.Outcomes.{performed_grants}
use Rattle.engine.specs.Laws.Judgement.{asked, tried_rejected, tried_own, tried_judged, tried_refused, free_fits, free_refused, free_granted, free_locked}
use Rattle.write_steps.specs.Laws.Contents.{allowed_short, kind_small}
use Rattle.write_steps.specs.Laws.Inserts.{standing_depth, room_left, place_counted, insert_left}
use Rattle.write_steps.proofs.try_insert.Goals as goal

pub returns-in_err-at : goal.returns-in_err-at
returns-in_err-at c =
    tried_rejected c.from_residual.result _ c.from_residual.ensures.1 (I c.args.m c.args.kind c.args.b.now c.args.n c.args.k) c.in_err-at.ensures no_room

pub returns-in_err-insert_cause : goal.returns-in_err-insert_cause
returns-in_err-insert_cause c =
    let exit = c.from_residual-in_err-insert_cause in
    tried_own exit.result _ exit.ensures.1 (I c.args.m c.args.kind c.args.b.now c.args.n c.args.k) c.in_ok-at.ensures c.in_err-insert_cause.ensures no_room

pub returns-in_err-judge : goal.returns-in_err-judge
returns-in_err-judge c =
    let exit = c.from_residual-in_err-judge in
    let a = asked name.I (I c.args.m c.args.kind c.args.b.now c.args.n c.args.k) refl c.in_ok-at.ensures c.in_ok-insert_cause.ensures
    c.needed-need.ensures in
    tried_judged exit.result _ exit.ensures.1 a c.in_err-judge.ensures no_room

pub returns-in_err-place_cause : goal.returns-in_err-place_cause
returns-in_err-place_cause c =
    let exit = c.from_residual-in_err-place_cause in
    let a = asked name.I (I c.args.m c.args.kind c.args.b.now c.args.n c.args.k) refl c.in_ok-at.ensures c.in_ok-insert_cause.ensures
    c.needed-need.ensures in
    let f = c.in_ok-judge.ensures.free a in
    tried_refused _ exit.result _ exit.ensures.1 (free_refused f no_room _ c.in_err-place_cause.ensures (cause_named _))

pub new_place-q-requires : goal.new_place-q-requires
new_place-q-requires c =
    let a = asked name.I (I c.args.m c.args.kind c.args.b.now c.args.n c.args.k) refl c.in_ok-at.ensures c.in_ok-insert_cause.ensures
    c.needed-need.ensures in
    let f = c.in_ok-judge.ensures.free a in
    (f.standing.layout, f.standing.inside, place_counted f c.in_ok-place_cause.ensures)

pub overflow_add-d : goal.overflow_add-d
overflow_add-d c =
    let a = asked name.I (I c.args.m c.args.kind c.args.b.now c.args.n c.args.k) refl c.in_ok-at.ensures c.in_ok-insert_cause.ensures
    c.needed-need.ensures in
    omega (arith, c.depth-d.ensures, standing_depth (c.in_ok-judge.ensures.free a).standing)

pub overflow_cast-kind : goal.overflow_cast-kind
overflow_cast-kind c =
    let a = asked name.I (I c.args.m c.args.kind c.args.b.now c.args.n c.args.k) refl c.in_ok-at.ensures c.in_ok-insert_cause.ensures
    c.needed-need.ensures in
    omega (arith, kind_small _ _ (not-false _ (free_fits (c.in_ok-judge.ensures.free a)).1))

pub put-requires : goal.put-requires
unfolding need_words
put-requires c =
    let a = asked name.I (I c.args.m c.args.kind c.args.b.now c.args.n c.args.k) refl c.in_ok-at.ensures c.in_ok-insert_cause.ensures
    c.needed-need.ensures in
    let f = c.in_ok-judge.ensures.free a in
    let g = free_locked f c.grant.ensures in (
      g.left.layout,
      omega (arith, g.many, room_left f c.in_ok-place_cause.ensures),
      omega (arith, g.many, c.new_place-q.ensures.1),
      allowed_short _ _ (not-false _ (free_fits f).1),
      f.standing.low,
      f.standing.high,
      ap (λ z. z.fresh) c.needed-need.ensures,
    )

pub returns : goal.returns
unfolding granted_answer
returns c =
    let a = asked name.I (I c.args.m c.args.kind c.args.b.now c.args.n c.args.k) refl c.in_ok-at.ensures c.in_ok-insert_cause.ensures
    c.needed-need.ensures in
    let f = c.in_ok-judge.ensures.free a in
    let left = insert_left f _ _ c.new_place-q.ensures.0 c.depth-d.ensures c.grant.ensures c.put.ensures in
    performed_grants (free_granted f no_room (sym c.in_ok-place_cause.ensures) left) _ refl
