use borrow.Author.Rules.{rules}
use mathlib.Core.Path.{refl}
use Rattle.form.specs.Laws.Numbers.{chains_begin, chains_next, numbers_begin, numbers_met, numbers_next, numbers_end}
use Rattle.form.proofs.numbers.distinct.Goals as goal

pub loop-i-init : goal.loop-i-init
loop-i-init c = (numbers_begin _ _ _ _ refl, chains_begin _ _ refl refl refl refl)

pub returns-then-chained : goal.returns-then-chained
returns-then-chained c =
    numbers_met _ _ _ _ _ c.loop-i.invariant.0 _ _ _ (search rules) c.at-w.ensures.2 c.bucket-b.ensures.0 c.chained.ensures
    c.if-chained.true

pub loop-i-preserved : goal.loop-i-preserved
loop-i-preserved c =
    let l = c.loop-i in (
      numbers_next _ _ _ _ _ l.invariant.0 _ _ _ (search rules) c.at-w.ensures.2 c.bucket-b.ensures.0 c.chained.ensures
          c.if-chained.false l.invariant.1 (search rules) c.bucket-b.ensures.1,
      chains_next l.invariant.1 _,
    )

pub returns : goal.returns
returns c = numbers_end _ _ _ _ _ c.loop-i.invariant.0 (search rules)
