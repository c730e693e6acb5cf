use Prim.Native.Nat.{◌≤◌}
use mathlib.Core.Path.{◌≡◌}
use Rattle.table.specs.Layout.{number}
use Rattle.form.specs.Check.{chained}
use Rattle.form.proofs.numbers.chained.Given as goal

abbrev pub invariant-loop-link : goal.invariant-loop-link
invariant-loop-link l = (l.link ≤ 1024) × (chained (number l.s) l.next l.w 1024 l.first ≡ chained (number l.s) l.next l.w 1024 l.link)

abbrev pub decreases-loop-link : goal.decreases-loop-link
decreases-loop-link l = l.link
