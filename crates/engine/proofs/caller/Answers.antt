use native.Mathlib.Omega.{arith}
use mathlib.Core.Path.{sym, ◌∙◌}
use borrow.Author.Tests.{not-true, not-false}
use borrow.Author.Rules.{rules}
use Rattle.form.specs.Laws.Holds.{form_layout}
use Rattle.engine.specs.Laws.Admission.{caller_unformed, caller_open}
use Rattle.engine.proofs.caller.Goals as goal

pub returns-then-not-formed : goal.returns-then-not-formed
returns-then-not-formed c = caller_unformed (sym c.formed.ensures ∙ not-true _ c.if-not-formed.true-raw)

pub is_open-requires : goal.is_open-requires
is_open-requires c =
    let good = sym c.formed.ensures ∙ not-false _ c.if-not-formed.false-raw in
    (form_layout good, omega (arith, c.if-t-eq0.false), search rules)

pub returns : goal.returns
returns c =
    let good = sym c.formed.ensures ∙ not-false _ c.if-not-formed.false-raw in
    caller_open good c.if-t-eq0.false (search rules) (sym c.is_open.ensures ∙ not-false _ c.if-not-is_open.false-raw)
