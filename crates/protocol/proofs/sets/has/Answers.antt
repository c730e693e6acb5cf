use Rattle.protocol.proofs.Laws.Transactions.{is_transaction_of}
use Rattle.protocol.proofs.sets.has.Goals as goal

pub returns : goal.returns
returns c = rw (is_transaction_of _ c.requires.0 c.requires.1)
