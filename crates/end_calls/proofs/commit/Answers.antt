use Rattle.traces.proofs.Laws.Exports.{commit_contract}
use Rattle.end_calls.proofs.commit.Goals as goal

pub returns : goal.returns
returns c = commit_contract c.code.ensures c.commit-answer.ensures
