use borrow.Author.Rules.{rules}
use native.Mathlib.Omega.{arith}
use Rattle.table.specs.Laws.Sets.{strike_start, strike_turn, strike_done}
use Rattle.table.proofs.sets.strike.Goals as goal

pub loop-v-init : goal.loop-v-init
loop-v-init c = strike_start _ _ (search rules)

pub loop-v-preserved : goal.loop-v-preserved
loop-v-preserved c = strike_turn _ _ c.loop-v.invariant c.strike_from.ensures

pub returns : goal.returns
returns c = strike_done _ _ (omega arith) c.loop-v.invariant c.remember.ensures (search rules) (search rules)
