use Rattle.table.specs.Laws.Opens.{opened_left}
use borrow.Author.Rules.{rules}
use Rattle.table.proofs.transactions.open.Goals as goal

pub returns : goal.returns
returns c = opened_left _ c.turn.ensures (search rules)
