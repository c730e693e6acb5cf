use mathlib.Core.Path.{refl}
use Rattle.locks.specs.declared.StepName.TheVariants as name
use native.Mathlib.Omega.{arith}
use Rattle.tree.specs.Steps.{D}
use Rattle.protocol.specs.State.{deleted_by}
use Rattle.protocol.specs.Lent.{first_lent, second_lent}
use Rattle.protocol.specs.Answers.{granted_answer}
use Rattle.table.specs.Lists.{modify}
use Rattle.table.specs.Flat.{second}
use Rattle.table.specs.Laws.Kept.{left_then}
use Rattle.rows.specs.Rows.{stepped}
use Rattle.engine.specs.Contract.{no_room}
use Rattle.engine.specs.Laws.Outcomes.{performed_grants}
use Rattle.engine.specs.Laws.Judgement.{asked, tried_rejected, tried_own, tried_judged, free_granted, free_locked}
use Rattle.write_steps.proofs.try_delete.Goals as goal

pub returns-in_err-at : goal.returns-in_err-at
returns-in_err-at c =
    tried_rejected c.from_residual.result _ c.from_residual.ensures.1 (D _) c.in_err-at.ensures no_room

pub returns-in_err-document_cause : goal.returns-in_err-document_cause
returns-in_err-document_cause c =
    let exit = c.from_residual-in_err-document_cause in
    tried_own exit.result _ exit.ensures.1 (D _) c.in_ok-at.ensures c.in_err-document_cause.ensures no_room

pub returns-in_err-judge : goal.returns-in_err-judge
returns-in_err-judge c =
    let exit = c.from_residual-in_err-judge in
    let a = asked name.D (D _) refl c.in_ok-at.ensures c.in_ok-document_cause.ensures c.needed-need.ensures in
    tried_judged exit.result _ exit.ensures.1 a c.in_err-judge.ensures no_room

pub set_deleter-requires : goal.set_deleter-requires
set_deleter-requires c =
    let a = asked name.D (D _) refl c.in_ok-at.ensures c.in_ok-document_cause.ensures c.needed-need.ensures in
    let f = c.in_ok-judge.ensures.free a in
    let g = free_locked f c.grant.ensures in
    (g.left.layout, omega (arith, g.many, f.standing.inside))

pub returns : goal.returns
unfolding granted_answer first_lent second_lent stepped
returns c =
    let a = asked name.D (D _) refl c.in_ok-at.ensures c.in_ok-document_cause.ensures c.needed-need.ensures in
    let f = c.in_ok-judge.ensures.free a in
    let marked = left_then _ (modify _ (second (deleted_by _ _))) (free_locked f c.grant.ensures).left c.set_deleter.ensures in
    performed_grants (free_granted f no_room refl marked) _ refl
