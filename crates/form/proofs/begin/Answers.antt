use borrow.Author.Rules.{rules}
use Rattle.form.specs.Laws.Begun.{begun_start, begun_next, begun_end}
use Rattle.form.proofs.begin.Goals as goal

pub loop-i-init : goal.loop-i-init
loop-i-init c = begun_start c.requires c.store.ensures c.clear.ensures c.set_word.ensures

pub loop-i-preserved : goal.loop-i-preserved
loop-i-preserved c = begun_next _ c.requires (search rules) c.loop-i.invariant c.set_word-in-loop-i.ensures

pub returns : goal.returns
returns c = begun_end _ c.requires (search rules) c.loop-i.invariant
