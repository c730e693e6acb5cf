use native.Mathlib.Omega.{arith}
use mathlib.Core.List.{[]}
use Rattle.tree.specs.Steps.{I}
use Rattle.locks.specs.Words.{need_words}
use Rattle.locks.proofs.Laws.Sets.{need_sets}
use Rattle.node_writing.specs.Laws.Putting.{put_left, put_long}
use borrow.Author.Rules.{rules}
use Rattle.node_writing.proofs.put.Goals as goal

pub set_lock-requires : goal.set_lock-requires
set_lock-requires c = (
  c.insert.ensures.layout,
  search rules,
  search rules,
  omega (arith, put_long _ _ c.insert.ensures, c.requires.2),
)

pub returns : goal.returns
unfolding need_words
returns c =
    let pre = c.requires in
    let insert = c.insert in
    let set_lock = c.set_lock in
    put_left _ _ _ _ _ (need_sets (I 0 0 [] 0 0)).new _ pre.6 pre.2 insert.ensures set_lock.ensures
