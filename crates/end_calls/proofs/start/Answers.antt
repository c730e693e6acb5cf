use Rattle.traces.proofs.Laws.Exports.{start_contract}
use Rattle.end_calls.proofs.start.Goals as goal

pub returns : goal.returns
returns c = start_contract c.code.ensures c.start-answer.ensures
