use borrow.Author.Rules.{rules}
use Rattle.form.specs.Check.{bucket}
use Rattle.form.proofs.numbers.bucket.Goals as goal

pub returns : goal.returns
unfolding bucket
returns c = search rules
