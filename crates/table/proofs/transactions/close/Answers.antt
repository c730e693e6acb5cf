use Rattle.table.specs.Laws.Opens.{ended_left}
use borrow.Author.Rules.{rules}
use Rattle.table.proofs.transactions.close.Goals as goal

pub returns : goal.returns
returns c =
    let turn = c.turn in
    ended_left _ turn.ensures (search rules) c.strike.ensures
