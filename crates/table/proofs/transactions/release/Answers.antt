use Rattle.table.specs.Laws.Locks.{released_kept}
use Rattle.table.proofs.transactions.release.Goals as goal

pub returns : goal.returns
returns c = released_kept _ _ c.set_lock.ensures
