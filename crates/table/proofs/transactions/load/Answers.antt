use borrow.Author.Rules.{rules}
use native.Mathlib.Omega.{arith}
use Rattle.table.specs.Layout.{word, lock_at}
use Rattle.table.specs.Laws.Locks.{loaded_of, loaded_more}
use Rattle.table.proofs.transactions.load.Goals as goal

pub loop-k-preserved : goal.loop-k-preserved
loop-k-preserved c =
    loaded_more (λ i. word c.args.s.now (lock_at c.args.t i)) _ _ _ (omega arith) c.loop-k.invariant c.word.ensures

pub returns : goal.returns
returns c = loaded_of _ _ _ (search rules) (search rules) (search rules) (λ i h. c.loop-k.invariant i (omega arith))
