use Rattle.traces.specs.Contract.{makes_step}
use Rattle.traces.proofs.Laws.Exports.{none_contract}
use Rattle.read_calls.proofs.child.Goals as goal

pub returns : goal.returns
returns c = none_contract c.code.ensures makes_step c.child-answer.ensures
