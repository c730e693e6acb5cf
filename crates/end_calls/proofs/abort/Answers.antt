use Rattle.traces.proofs.Laws.Exports.{abort_contract}
use Rattle.end_calls.proofs.abort.Goals as goal

pub returns : goal.returns
returns c = abort_contract c.code.ensures c.abort-answer.ensures
