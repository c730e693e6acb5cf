use mathlib.Core.Path.{sym, ◌∙◌}
use borrow.Author.Tests.{eq-eqb, ne_eqb}
use Prim.Native.Nat.{◌<◌}
use lib.ListN.{length}
use Rattle.table.specs.Layout.{nodes, no_entry}
use Rattle.table.specs.Laws.First.{first_found, first_passed}
use lib.Dec.{eqb}
use native.Mathlib.Omega.{arith}
use Rattle.table.proofs.find.Goals as goal

pub returns-then-number-n : goal.returns-then-number-n
returns-then-number-n c =
    let held : c.loop-i.i < length (nodes c.args.s.now) = omega arith in
    (first_found _ _ _ no_entry c.loop-i.invariant held (eq-eqb _ _ (sym c.number.ensures ∙ c.if-number-n.true)), held)

pub loop-i-preserved : goal.loop-i-preserved
loop-i-preserved c =
    first_passed (λ x. eqb x.1.now.number _) _ _ no_entry c.loop-i.invariant (omega arith)
    (ne_eqb _ _ (λ e. c.if-number-n.false (c.number.ensures ∙ e)))
