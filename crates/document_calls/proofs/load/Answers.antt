use Rattle.traces.proofs.Laws.Exports.{load_contract}
use Rattle.document_calls.proofs.load.Goals as goal

pub returns : goal.returns
returns c = load_contract c.code.ensures c.load-answer.ensures
