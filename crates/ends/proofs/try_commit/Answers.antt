use mathlib.Core.Path.{refl}
use Rattle.std.proofs.lemmas.Result.{err_from_is_err_and}
use Rattle.engine.specs.Laws.Causes.{cause_named}
use Rattle.ends.specs.Laws.Calls.{commit_barred, commit_full, commit_done}
use Rattle.ends.proofs.try_commit.Goals as goal

pub returns-in_err-caller : goal.returns-in_err-caller
returns-in_err-caller c =
    let p = err_from_is_err_and c.from_residual.result c.from_residual.ensures.1 in
    rw (p.1, p.2) (commit_barred _ (c.in_err-caller.ensures.barred (cause_named _)))

pub commits-before-requires : goal.commits-before-requires
commits-before-requires c = (c.in_ok-caller.ensures.opened refl).layout

pub returns-then-before-ge-MOST_COMMITS : goal.returns-then-before-ge-MOST_COMMITS
returns-then-before-ge-MOST_COMMITS c =
    commit_full (c.in_ok-caller.ensures.opened refl) _ c.commits-before.ensures c.if-before-ge-MOST_COMMITS.true

pub end-requires : goal.end-requires
end-requires c = c.in_ok-caller.ensures.opened refl

pub returns : goal.returns
returns c =
    let opened = c.in_ok-caller.ensures.opened refl in
    commit_done opened _ c.commits-before.ensures c.if-before-ge-MOST_COMMITS.false c.end.ensures c.set_commits.ensures
