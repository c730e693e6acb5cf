use native.Mathlib.Omega.{arith}
use mathlib.Core.Path.{sym, ◌∙◌}
use Rattle.form.specs.Laws.Holds.{form_layout}
use Rattle.ends.specs.Laws.Calls.{begin_zero, begin_high, begin_open, begin_done}
use Rattle.engine.specs.Laws.Outcomes.{performed_unformed}
use Rattle.ends.proofs.try_begin.Goals as goal
use Rattle.ends.proofs.try_begin.Goals.{then-t-eq0-via-then-t-eq0, then-t-eq0-via-else-t-eq0+then-t-gt16}

pub returns-then-not-formed : goal.returns-then-not-formed
returns-then-not-formed c = performed_unformed (sym c.formed.ensures ∙ c.if-not-formed.true) _

pub returns-then-t-eq0 : goal.returns-then-t-eq0
returns-then-t-eq0 c =
    let good = sym c.formed.ensures ∙ c.if-not-formed.false in
    elim c.then-t-eq0.branch [
      | then-t-eq0-via-then-t-eq0 w ↦ begin_zero good w.if-t-eq0.true
      | then-t-eq0-via-else-t-eq0+then-t-gt16 w ↦ begin_high good w.if-t-gt16.true
    ]

pub is_open-requires : goal.is_open-requires
is_open-requires c = (form_layout (sym c.formed.ensures ∙ c.if-not-formed.false), omega arith, omega arith)

pub returns-then-is_open : goal.returns-then-is_open
returns-then-is_open c =
    begin_open (sym c.formed.ensures ∙ c.if-not-formed.false) (omega arith) (omega arith) (sym c.is_open.ensures ∙ c.if-is_open.true)

pub open-requires : goal.open-requires
open-requires c =
    let good = sym c.formed.ensures ∙ c.if-not-formed.false in
    (form_layout good, omega arith, omega arith, sym c.is_open.ensures ∙ c.if-is_open.false)

pub returns : goal.returns
returns c =
    let shut = sym c.is_open.ensures ∙ c.if-is_open.false in
    begin_done (sym c.formed.ensures ∙ c.if-not-formed.false) (omega arith) (omega arith) shut c.open.ensures
