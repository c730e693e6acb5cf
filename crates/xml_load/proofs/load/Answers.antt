use native.Mathlib.Omega.{arith}
use mathlib.Core.Path.{sym, ◌∙◌}
use Rattle.form.specs.Laws.Holds.{form_layout}
use Rattle.engine.specs.Laws.Outcomes.{performed_unformed}
use Rattle.xml_load.specs.Laws.Judgement.{stands, fails}
use Rattle.xml_load.specs.Laws.Load.{load_open, load_failed, load_granted}
use Rattle.xml_load.proofs.load.Goals as goal

pub returns-then-not-formed : goal.returns-then-not-formed
returns-then-not-formed c = λ i r. rw c.from.ensures (performed_unformed (sym c.formed.ensures ∙ c.if-not-formed.true) _)

pub any_open-requires : goal.any_open-requires
any_open-requires c = form_layout (sym c.formed.ensures ∙ c.if-not-formed.false)

pub returns-then-any_open : goal.returns-then-any_open
returns-then-any_open c =
    λ i r. rw c.from-then-any_open.ensures (load_open (sym c.formed.ensures ∙ c.if-not-formed.false)
    (sym c.any_open.ensures ∙ c.if-any_open.true) i)

pub overflow_cast-result : goal.overflow_cast-result
overflow_cast-result c = omega (arith, (fails _ (omega arith) _ _ _ c.in-Err.is c.judge.ensures).most)

pub replace-requires : goal.replace-requires
replace-requires c =
    let judge = c.judge in (
      sym c.formed.ensures ∙ c.if-not-formed.false,
      (_, stands _ (omega arith) (omega arith) _ _ _ c.in-Ok.is judge.ensures),
    )

pub overflow_sub-result : goal.overflow_sub-result
overflow_sub-result c =
    let judge = c.judge in
    omega (arith, (stands _ (omega arith) (omega arith) _ _ _ c.in-Ok.is judge.ensures).nodes)

pub returns-in-Err : goal.returns-in-Err
returns-in-Err c = λ i r. rw c.from-in-Err.ensures
    (load_failed (sym c.formed.ensures ∙ c.if-not-formed.false) (sym c.any_open.ensures ∙ c.if-any_open.false) _ _
    (fails _ (omega arith) _ _ _ c.in-Err.is c.judge.ensures) i r)

pub returns-in-Ok : goal.returns-in-Ok
returns-in-Ok c =
    let judge = c.judge in
    let replace = c.replace in
    let good = sym c.formed.ensures ∙ c.if-not-formed.false in
    let none_open = sym c.any_open.ensures ∙ c.if-any_open.false in
    λ i r. load_granted good none_open _ (stands _ (omega arith) (omega arith) _ _ _ c.in-Ok.is judge.ensures) replace.ensures
    i r
