use Rattle.table.specs.Laws.Bytes.{filled_done, filled_none, filled_more}
use borrow.Author.Rules.{rules}
use mathlib.Core.Path.{refl}
use Rattle.table.proofs.layout.store.Goals as goal

pub loop-j-init : goal.loop-j-init
loop-j-init c = filled_none _ _ _

pub loop-j-preserved : goal.loop-j-preserved
loop-j-preserved c = filled_more _ _ _ _ _ _ c.loop-j.invariant (search rules) refl

pub returns : goal.returns
returns c = filled_done _ _ c.loop-j.invariant (search rules) (search rules)
