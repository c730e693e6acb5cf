use mathlib.Core.Path.{◌≡◌}
use Rattle.tree.specs.Lists.{distinct}
use Rattle.table.specs.Layout.{number, tabulate}
use Rattle.form.specs.Check.{Chains}
use Rattle.form.specs.Laws.Numbers.{numbers_from}
use Rattle.form.proofs.numbers.distinct.Given as goal

abbrev pub invariant-loop-i : goal.invariant-loop-i
invariant-loop-i l =
    (distinct (tabulate l.n (number l.s)) ≡ numbers_from (number l.s) l.n l.heads l.next l.i) × (Chains l.i l.heads l.next)
