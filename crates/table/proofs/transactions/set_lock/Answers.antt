use Rattle.table.specs.Laws.Locks.{lock_kept}
use borrow.Author.Rules.{rules}
use Rattle.table.proofs.transactions.set_lock.Goals as goal

pub returns : goal.returns
returns c =
    let slot = c.slot-k in
    let set_word = c.set_word in
    lock_kept _ _ _ _ _ _ set_word.ensures slot.ensures.0 (search rules) (search rules) (search rules) (search rules)
