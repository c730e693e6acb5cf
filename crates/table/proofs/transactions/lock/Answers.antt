use Rattle.table.specs.Laws.Locks.{held_at}
use borrow.Author.Rules.{rules}
use Rattle.table.proofs.transactions.lock.Goals as goal

pub returns : goal.returns
returns c = rw c.word.ensures (held_at _ _ _ _ c.slot.ensures.0 (search rules) (search rules) (search rules))
