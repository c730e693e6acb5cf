use Rattle.form.specs.Laws.Start.{started}
use borrow.Author.Rules.{rules}
use Rattle.form.proofs.start.Goals as goal

pub returns : goal.returns
returns c =
    started _ _ _ (search rules) c.begin.ensures c.clear.ensures
