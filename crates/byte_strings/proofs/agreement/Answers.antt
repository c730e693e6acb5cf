use Rattle.std.proofs.Common.{◌≡◌}
use native.Mathlib.Omega.{arith}
use Rattle.byte_strings.specs.Laws.Agreeing.{agree_start, agree_turn, agree_differ, agree_end}
use Rattle.byte_strings.proofs.agreement.Goals as goal

pub loop-n-init : goal.loop-n-init
loop-n-init c = agree_start _ _ _

pub returns-then-s-at : goal.returns-then-s-at
returns-then-s-at c = agree_differ _ _ _ _ c.loop-n.invariant (omega arith) (omega arith) c.if-s-at.true

pub loop-n-preserved : goal.loop-n-preserved
loop-n-preserved c = agree_turn _ _ _ _ c.loop-n.invariant (omega arith) (omega arith) c.if-s-at.false

pub returns : goal.returns
returns c =
    let e : c.loop-n.n ≡ c.min-end.result = omega arith in
    agree_end _ _ _ _ (rw e at c.loop-n.invariant) c.min-end.ensures c.requires
