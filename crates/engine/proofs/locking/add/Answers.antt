use Rattle.engine.specs.Laws.Grants.{add_kept}
use Rattle.engine.proofs.locking.add.Goals as goal

pub returns : goal.returns
returns c =
    let lock = c.lock-v in
    let union = c.union in
    let set_lock = c.set_lock in
    add_kept _ _ _ _ _ lock.ensures union.ensures set_lock.ensures
