use native.Mathlib.Omega.{arith}
use mathlib.Core.Path.{◌≡◌, refl}
use Rattle.std.specs.Prelude.{Some, None}
use Rattle.std.proofs.lemmas.Result.{err_from_is_err_and}
use Rattle.std.proofs.lemmas.Option.{MatchOption-at_some, MatchOption-at_none}
use Rattle.protocol.specs.declared.causes.Cause.TheVariants.{NoSuchNode}
use Rattle.engine.specs.Laws.Causes.{cause_named}
use Rattle.engine.specs.Laws.Admission.{admit_barred, admit_missing, admit_deleted, admit_found}
use Rattle.engine.proofs.admit.Goals as goal

pub returns-in_err-caller : goal.returns-in_err-caller
returns-in_err-caller c =
    let p = err_from_is_err_and c.from_residual.result c.from_residual.ensures.1 in
    rw (p.1, p.2) (admit_barred (c.in_err-caller.ensures.barred (cause_named _)))

pub find-requires : goal.find-requires
find-requires c = (c.in_ok-caller.ensures.opened refl).layout

pub returns-in_err-place : goal.returns-in_err-place
returns-in_err-place c =
    let none : c.find.result ≡ None = grind arith in
    let missing = MatchOption-at_none _ _ none c.find.ensures in
    let p = err_from_is_err_and c.from_residual-in_err-place.result c.from_residual-in_err-place.ensures.1 in
    let cause : c.in_err-place.field-0.0 ≡ NoSuchNode = grind arith in
    rw (p.1, p.2, cause) (admit_missing (c.in_ok-caller.ensures.opened refl) _ refl missing)

pub returns-in_err-way : goal.returns-in_err-way
returns-in_err-way c =
    let some : c.find.result ≡ Some c.in_ok-place.place = grind arith in
    let found = MatchOption-at_some _ _ _ some c.find.ensures in
    let none : c.way_up.result ≡ None = grind arith in
    let hidden = MatchOption-at_none _ _ none c.way_up.ensures in
    let p = err_from_is_err_and c.from_residual-in_err-way.result c.from_residual-in_err-way.ensures.1 in
    let cause : c.in_err-way.field-0.0 ≡ NoSuchNode = grind arith in
    rw (p.1, p.2, cause) (admit_deleted (c.in_ok-caller.ensures.opened refl) _ found.0 found.1 hidden)

pub returns : goal.returns
returns c =
    let some : c.find.result ≡ Some c.in_ok-place.place = grind arith in
    let found = MatchOption-at_some _ _ _ some c.find.ensures in
    let climbed : c.way_up.result ≡ Some c.in_ok-way.way = grind arith in
    let seen = MatchOption-at_some _ _ _ climbed c.way_up.ensures in
    admit_found (c.in_ok-caller.ensures.opened refl) _ found.0 found.1 seen.seen seen.climbed
