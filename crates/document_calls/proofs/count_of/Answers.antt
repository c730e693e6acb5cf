use mathlib.Core.Path.{refl}
use Rattle.traces.proofs.Laws.Exports.{count_contract}
use Rattle.document_calls.proofs.count_of.Goals as goal

pub returns : goal.returns
returns c = count_contract c.code.ensures refl c.count_of-answer.ensures
