use borrow.Author.Rules.{rules}
use Rattle.engine.specs.Laws.Grants.{granting_turn, granting_done}
use Rattle.engine.proofs.locking.grant.Goals as goal

pub loop-j-preserved : goal.loop-j-preserved
loop-j-preserved c = granting_turn c.loop-j.invariant _ (search rules) c.word_at.ensures (rw c.from.ensures at c.add.ensures)

pub returns : goal.returns
returns c = record { kept = granting_done c.loop-j.invariant (search rules) }
