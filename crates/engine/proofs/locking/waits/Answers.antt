use borrow.Author.Rules.{rules}
use native.Mathlib.Omega.{arith}
use mathlib.Core.Path.{sym}
use Rattle.locks.proofs.Laws.Words.{word_none}
use Rattle.engine.specs.Laws.Waits.{set_below, set_turn, set_whole}
use Rattle.engine.proofs.locking.waits.Goals as goal

pub loop-u-init : goal.loop-u-init
loop-u-init c = (search rules, sym (word_none _ 16))

pub bit_below-set-requires : goal.bit_below-set-requires
bit_below-set-requires c = rw c.loop-u.invariant.1 (set_below _ _ _ _ _ (omega arith))

pub loop-u-preserved : goal.loop-u-preserved
loop-u-preserved c = (
  search rules,
  set_turn _ _ _ _ _ _ _ _ (omega arith) (omega arith) c.loop-u.invariant.1 c.blocks-b.ensures c.bit_below-set.ensures,
)

pub returns : goal.returns
returns c = record { is = set_whole _ _ _ _ _ c.masks-masks.ensures.0 _ _ (omega arith) c.loop-u.invariant.1 }
