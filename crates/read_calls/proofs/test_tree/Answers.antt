use Rattle.traces.specs.Contract.{makes_step}
use Rattle.traces.proofs.Laws.Exports.{one_contract}
use Rattle.read_calls.proofs.test_tree.Goals as goal

pub returns : goal.returns
returns c = let h = c.test_tree-answer.ensures in one_contract c.code.ensures makes_step
    h.0 h.1
