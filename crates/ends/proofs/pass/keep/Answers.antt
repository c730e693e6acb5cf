use borrow.Author.Rules.{rules}
use Rattle.ends.specs.Laws.Pass.{moved_none, moved_behind}
use Rattle.ends.proofs.pass.keep.Goals as goal

pub returns-then-next-gt0 : goal.returns-then-next-gt0
returns-then-next-gt0 c = moved_none _ _ _ (search rules) c.if-next-gt0.true

pub returns : goal.returns
returns c = moved_behind _ _ _ c.if-next-gt0.false c.swap.ensures
