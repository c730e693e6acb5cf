use Rattle.std.proofs.Common.{sym, arith}
use Rattle.deadlock.specs.Laws.Rounds.{joined_first, joined_passed, joined_more, joined_all}
use Rattle.deadlock.proofs.round.Goals as goal
use Rattle.deadlock.proofs.round.Goals.{then-has, else-has}

pub loop-v-init : goal.loop-v-init
loop-v-init c = joined_first _ _ _ c.requires.1 c.requires.2

pub loop-v-preserved : goal.loop-v-preserved
loop-v-preserved c = elim c.if-has.branch [
  | then-has w ↦ rw w.next-is (joined_more _ _ _ _ c.loop-v.v (omega arith) c.loop-v.invariant (sym w.if-has.ensures))
  | else-has w ↦ rw w.next-is (joined_passed _ _ _ _ c.loop-v.v (omega arith) c.loop-v.invariant (sym w.if-has.ensures))
]

pub returns : goal.returns
returns c = joined_all _ _ _ _ c.loop-v.v (omega arith) c.loop-v.invariant
