use Rattle.table.specs.Laws.Counts.{commits_left}
use borrow.Author.Rules.{rules}
use Rattle.table.proofs.counts.set_commits.Goals as goal

pub returns : goal.returns
returns c = commits_left _ _ _ c.set_double_word.ensures (search rules)
