use borrow.Author.Rules.{rules}
use mathlib.Core.Path.{sym}
use Rattle.form.specs.Laws.Sets.{below_none, below_more, below_all, one_fails}
use Rattle.form.proofs.sets.among_open.Goals as goal

pub loop-t-init : goal.loop-t-init
loop-t-init c = below_none _

pub returns-then-not-set_open : goal.returns-then-not-set_open
returns-then-not-set_open c =
    one_fails _ c.loop-t.t (search rules) (search rules) (rw (← c.word-opens.ensures, ← c.set.ensures) (sym c.if-not-set_open.ensures))

pub loop-t-preserved : goal.loop-t-preserved
loop-t-preserved c =
    below_more _ c.loop-t.t c.loop-t.invariant (rw (← c.word-opens.ensures, ← c.set.ensures) (sym c.if-not-set_open.ensures))

pub returns : goal.returns
returns c = below_all _ c.loop-t.t (search rules) c.loop-t.invariant
