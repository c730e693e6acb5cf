use borrow.Author.Rules.{rules}
use native.Mathlib.Omega.{arith}
use Rattle.table.specs.Laws.Locks.{clear_start, clear_turn, clear_done}
use Rattle.table.proofs.transactions.unlock.Goals as goal

pub loop-t-init : goal.loop-t-init
loop-t-init c = (search rules, clear_start _ _ (search rules) (search rules))

pub loop-t-preserved : goal.loop-t-preserved
loop-t-preserved c = (search rules, clear_turn _ _ c.loop-t.invariant.1 c.set_lock.ensures)

pub returns : goal.returns
returns c = clear_done _ _ (search rules) (omega arith) c.loop-t.invariant.1
