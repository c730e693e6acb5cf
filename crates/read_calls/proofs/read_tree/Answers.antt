use Rattle.traces.specs.Contract.{makes_step}
use Rattle.traces.proofs.Laws.Exports.{two_contract}
use Rattle.read_calls.proofs.read_tree.Goals as goal

pub returns : goal.returns
returns c = let h = c.read_tree-answer.ensures in two_contract
    c.code.ensures makes_step h.0 h.1 h.2
