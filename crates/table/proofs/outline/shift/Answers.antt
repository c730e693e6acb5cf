use Rattle.std.proofs.Common.{◌-◌, arith, rules}
use Rattle.table.specs.Laws.Insert.{shift_start, shift_turn, shift_done}
use Rattle.table.proofs.outline.shift.Goals as goal

pub loop-k-init : goal.loop-k-init
loop-k-init c = (search rules, shift_start _ _)

pub loop-k-preserved : goal.loop-k-preserved
loop-k-preserved c =
    let read = c.at-entry.ensures in
    let stored = rw (read.0, read.1, read.2) at c.store.ensures in
    (search rules, shift_turn c.loop-k.k (c.loop-k.k - 1) _ c.loop-k.invariant.1 stored (omega arith) (search rules) (search rules))

pub returns : goal.returns
returns c = shift_done _ _ _ c.loop-k.invariant.1 (search rules) (search rules)
