use Rattle.std.proofs.Common.{sym, arith}
use Rattle.locks.proofs.Laws.Words.{mask_none, mask_whole, mask_passed, mask_more}
use Rattle.locks.proofs.mask.Goals as goal

pub loop-b-init : goal.loop-b-init
loop-b-init c = mask_none _

pub loop-b-preserved-then-has : goal.loop-b-preserved-then-has
loop-b-preserved-then-has c =
    let l = c.loop-b in
    mask_more _ l.b (omega arith) (omega arith) _ _ _ (sym c.if-has.ensures) l.invariant (rw c.from.ensures at c.clashing.ensures)
    c.union-m.ensures

pub loop-b-preserved : goal.loop-b-preserved
loop-b-preserved c =
    let l = c.loop-b in
    mask_passed _ l.b (omega arith) (omega arith) _ (sym c.if-has.ensures) l.invariant

pub returns : goal.returns
returns c = mask_whole _ _ _ (omega arith) c.loop-b.invariant
