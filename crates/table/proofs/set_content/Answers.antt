use mathlib.Core.Path.{◌∙◌, refl}
use Rattle.table.specs.Laws.Texts.{stored_kept}
use native.Mathlib.Omega.{arith}
use lib.ListN.{length-set}
use borrow.Author.Rules.{rules}
use Rattle.table.proofs.set_content.Goals as goal

pub store-requires : goal.store-requires
store-requires c = simp length-set (search rules)

pub shape_of-s : goal.shape_of-s
shape_of-s c = c.store.ensures.only.long ∙ simp length-set

pub returns : goal.returns
returns c =
    let slot = c.slot-k in
    let store = c.store in
    let args = c.args in
    let content = stored_kept _ _ args.i 0 _ _ _ _ _ _ args.b.now slot.ensures.0 store.ensures (omega arith) (omega arith)
    (search rules)
    (search rules) (search rules) refl (search rules) (search rules) (λ j h. refl) in
    content.kept
