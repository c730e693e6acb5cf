use mathlib.Core.Path.{refl}
use Rattle.locks.specs.declared.StepName.TheVariants as name
use native.Mathlib.Omega.{arith}
use borrow.Author.Tests.{not-false}
use Rattle.tree.specs.Laws.Tests.{and_right}
use Rattle.tree.specs.Content.{is_name}
use Rattle.tree.specs.Steps.{UU}
use Rattle.protocol.specs.Lent.{first_lent, second_lent}
use Rattle.protocol.specs.Answers.{granted_answer}
use Rattle.table.specs.Laws.Kept.{left_then}
use Rattle.rows.specs.Rows.{renamed_rows, stepped}
use Rattle.engine.specs.Contract.{no_room}
use Rattle.engine.specs.Laws.Outcomes.{performed_grants}
use Rattle.engine.specs.Laws.Judgement.{asked, tried_rejected, tried_own, tried_judged, free_fits, free_granted, free_locked}
use Rattle.write_steps.specs.Laws.Contents.{name_short}
use Rattle.write_steps.specs.Laws.Renames.{named_locked}
use Rattle.write_steps.proofs.try_rename_tree.Goals as goal

pub returns-in_err-at : goal.returns-in_err-at
returns-in_err-at c =
    tried_rejected c.from_residual.result _ c.from_residual.ensures.1 (UU _ c.args.a.now c.args.b.now) c.in_err-at.ensures no_room

pub returns-in_err-rename_cause : goal.returns-in_err-rename_cause
returns-in_err-rename_cause c =
    let exit = c.from_residual-in_err-rename_cause in
    tried_own exit.result _ exit.ensures.1 (UU _ c.args.a.now c.args.b.now) c.in_ok-at.ensures c.in_err-rename_cause.ensures no_room

pub returns-in_err-judge : goal.returns-in_err-judge
returns-in_err-judge c =
    let exit = c.from_residual-in_err-judge in
    let a = asked name.UU (UU _ c.args.a.now c.args.b.now) refl c.in_ok-at.ensures c.in_ok-rename_cause.ensures c.needed-need.ensures in
    tried_judged exit.result _ exit.ensures.1 a c.in_err-judge.ensures no_room

pub rename_below-hits-requires : goal.rename_below-hits-requires
rename_below-hits-requires c =
    let args = c.args in
    let a = asked name.UU (UU _ args.a.now args.b.now) refl c.in_ok-at.ensures c.in_ok-rename_cause.ensures c.needed-need.ensures in
    let f = c.in_ok-judge.ensures.free a in
    let g = free_locked f c.grant.ensures in (
      g.left.layout,
      omega (arith, g.many, f.standing.inside),
      name_short args.b.now
          (and_right (is_name args.a.now) (is_name args.b.now) (not-false _ (free_fits f).1)),
      f.standing.low,
    )

pub returns : goal.returns
unfolding granted_answer first_lent second_lent stepped
returns c =
    let args = c.args in
    let a = asked name.UU (UU _ args.a.now args.b.now) refl c.in_ok-at.ensures c.in_ok-rename_cause.ensures c.needed-need.ensures in
    let f = c.in_ok-judge.ensures.free a in
    let below = c.rename_below-hits.ensures in
    let renamed = left_then _ (renamed_rows _ _ _ _ _) (free_locked f c.grant.ensures).left below.kept in
    performed_grants (free_granted f no_room refl renamed) _ (rw (named_locked f c.grant.ensures below.hits))
