use native.Mathlib.Omega.{arith}
use Rattle.table.specs.Laws.Texts.{copied_kept}
use borrow.Author.Rules.{rules}
use Rattle.table.proofs.copy_content.Goals as goal

pub returns : goal.returns
returns c =
    let args = c.args in
    let slot = c.slot in
    copied_kept _ _ _ args.o args.p _ _ _ _ _ slot.ensures.0 c.copy_32.ensures (omega arith) (omega arith)
    (omega arith)
    (omega arith) (search rules) (search rules) (search rules) (search rules)
