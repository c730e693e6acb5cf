use Rattle.traces.proofs.Laws.Exports.{begin_contract}
use Rattle.end_calls.proofs.begin.Goals as goal

pub returns : goal.returns
returns c = begin_contract c.code.ensures c.begin-answer.ensures
