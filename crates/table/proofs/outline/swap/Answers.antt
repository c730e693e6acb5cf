use native.Mathlib.Omega.{arith}
use Rattle.table.specs.Laws.Entries.{entered_as}
use Rattle.table.specs.Laws.Removal.{exchanged, exchanged_none}
use borrow.Author.Rules.{rules}
use Rattle.table.proofs.outline.swap.Goals as goal

pub returns-then-i-j : goal.returns-then-i-j
returns-then-i-j c = rw c.if-i-j.true (exchanged_none _ _ (search rules))

pub returns : goal.returns
returns c =
    let at_i = c.at-first.ensures in
    let at_j = c.at-second.ensures in
    exchanged _ _ _ _ _ c.requires.0 (omega (arith, c.if-i-j.false, c.requires.1)) c.requires.2
    (entered_as c.store.ensures at_i.0 at_i.1 at_i.2) (entered_as c.store-2.ensures at_j.0 at_j.1 at_j.2)
