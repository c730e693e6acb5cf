use Rattle.traces.proofs.Laws.Exports.{write_contract}
use Rattle.document_calls.proofs.write.Goals as goal

pub returns : goal.returns
returns c = write_contract c.code.ensures c.write-answer.ensures
