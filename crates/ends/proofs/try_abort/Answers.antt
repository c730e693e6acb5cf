use mathlib.Core.Path.{refl}
use Rattle.std.proofs.lemmas.Result.{err_from_is_err_and}
use Rattle.engine.specs.Laws.Causes.{cause_named}
use Rattle.ends.specs.Laws.Calls.{abort_barred, abort_done}
use Rattle.ends.proofs.try_abort.Goals as goal

pub returns-in_err-caller : goal.returns-in_err-caller
returns-in_err-caller c =
    let p = err_from_is_err_and c.from_residual.result c.from_residual.ensures.1 in
    rw (p.1, p.2) (abort_barred _ (c.in_err-caller.ensures.barred (cause_named _)))

pub end-requires : goal.end-requires
end-requires c = c.in_ok-caller.ensures.opened refl

pub returns : goal.returns
returns c = abort_done (c.in_ok-caller.ensures.opened refl) c.end.ensures
