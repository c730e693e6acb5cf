use native.Mathlib.Omega.{arith}
use Rattle.table.specs.Laws.Texts.{restored_kept}
use borrow.Author.Rules.{rules}
use Rattle.table.proofs.restore_content.Goals as goal

pub copy_content-requires : goal.copy_content-requires
copy_content-requires c = (search rules, search rules, search rules, search rules, λ e. omega arith, search rules)

pub returns : goal.returns
returns c = restored_kept _ _ _ c.copy_content.ensures
