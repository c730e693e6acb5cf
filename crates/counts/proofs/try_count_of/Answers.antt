use mathlib.Core.Path.{◌≡◌, refl, sym, ◌∙◌}
use Rattle.std.specs.Prelude.{Some, None}
use Rattle.std.proofs.Common.{arith}
use Rattle.std.proofs.lemmas.Result.{err_from_is_err_and}
use Rattle.std.proofs.lemmas.Option.{MatchOption-at_some, MatchOption-at_none}
use Rattle.protocol.specs.declared.causes.Cause.TheVariants.{NoSuchNode}
use Rattle.form.specs.Laws.Holds.{form_layout}
use Rattle.engine.specs.Laws.Outcomes.{performed_unformed}
use Rattle.counts.specs.Laws.Calls.{count_nowhere, count_inserted, count_told}
use Rattle.counts.proofs.try_count_of.Goals as goal

pub returns-then-not-formed : goal.returns-then-not-formed
returns-then-not-formed c = performed_unformed (sym c.formed.ensures ∙ c.if-not-formed.true) _

pub find-requires : goal.find-requires
find-requires c = form_layout (sym c.formed.ensures ∙ c.if-not-formed.false)

pub returns-in_err-p : goal.returns-in_err-p
returns-in_err-p c =
    let none : c.find.result ≡ None = grind arith in
    let missing = MatchOption-at_none _ _ none c.find.ensures in
    let p = err_from_is_err_and c.from_residual.result c.from_residual.ensures.1 in
    let cause : c.in_err-p.field-0.0 ≡ NoSuchNode = grind arith in
    rw (p.1, p.2, cause) (count_nowhere (sym c.formed.ensures ∙ c.if-not-formed.false) refl missing)

pub committed-requires : goal.committed-requires
committed-requires c =
    let some : c.find.result ≡ Some c.in_ok-p.p = grind arith in
    let found = MatchOption-at_some _ _ _ some c.find.ensures in
    (form_layout (sym c.formed.ensures ∙ c.if-not-formed.false), omega (arith, found.1))

pub returns-then-not-committed : goal.returns-then-not-committed
returns-then-not-committed c =
    let some : c.find.result ≡ Some c.in_ok-p.p = grind arith in
    let found = MatchOption-at_some _ _ _ some c.find.ensures in
    count_inserted (sym c.formed.ensures ∙ c.if-not-formed.false) found.0 found.1 (sym c.committed.ensures ∙ c.if-not-committed.true)

pub count-requires : goal.count-requires
count-requires c =
    let some : c.find.result ≡ Some c.in_ok-p.p = grind arith in
    let found = MatchOption-at_some _ _ _ some c.find.ensures in
    (form_layout (sym c.formed.ensures ∙ c.if-not-formed.false), omega (arith, found.1))

pub returns : goal.returns
returns c =
    let some : c.find.result ≡ Some c.in_ok-p.p = grind arith in
    let found = MatchOption-at_some _ _ _ some c.find.ensures in
    count_told (sym c.formed.ensures ∙ c.if-not-formed.false) found.0 found.1 (sym c.committed.ensures ∙ c.if-not-committed.false)
    c.count.ensures
