use mathlib.Core.Path.{refl}
use Rattle.tree.specs.Steps.{T}
use Rattle.locks.specs.declared.StepName.TheVariants as name
use Rattle.protocol.specs.Lent.{first_lent, second_lent}
use Rattle.protocol.specs.Answers.{granted_answer}
use Rattle.rows.specs.Rows.{stepped}
use Rattle.engine.specs.Contract.{no_room}
use Rattle.engine.specs.Laws.Outcomes.{performed_grants}
use Rattle.engine.specs.Laws.Judgement.{asked, tried_rejected, tried_judged, free_granted, free_locked}
use Rattle.engine.proofs.try_test.Goals as goal

pub returns-in_err-at : goal.returns-in_err-at
returns-in_err-at c = tried_rejected c.from_residual.result _ c.from_residual.ensures.1 (T _) c.in_err-at.ensures no_room

pub returns-in_err-judge : goal.returns-in_err-judge
returns-in_err-judge c =
    let a = asked name.T (T _) refl c.in_ok-at.ensures refl c.needed-need.ensures in
    let exit = c.from_residual-in_err-judge in
    tried_judged exit.result _ exit.ensures.1 a c.in_err-judge.ensures no_room

pub returns : goal.returns
unfolding granted_answer first_lent second_lent stepped
returns c =
    let f = c.in_ok-judge.ensures.free (asked name.T (T _) refl c.in_ok-at.ensures refl c.needed-need.ensures) in
    performed_grants (free_granted f no_room refl (free_locked f c.grant.ensures).left) _
    (rw (c.kind-kind.ensures, c.parent-parent.ensures))
