use Rattle.traces.specs.Contract.{makes_step}
use Rattle.traces.proofs.Laws.Exports.{one_contract}
use Rattle.read_calls.proofs.read.Goals as goal

pub returns : goal.returns
returns c = let h = c.read-answer.ensures in one_contract c.code.ensures makes_step h.0 h.1
