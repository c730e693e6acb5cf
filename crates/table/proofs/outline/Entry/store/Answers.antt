use native.Mathlib.Omega.{arith}
use Rattle.table.specs.Laws.Entries.{entered_of}
use Rattle.table.proofs.outline.Entry.store.Goals as goal

pub returns : goal.returns
returns c =
    entered_of _ _ _ _ _ _ _ _ _ _ _ c.set_word.ensures c.set_word-2.ensures c.set_double_word.ensures (omega arith) (omega arith)
    (omega arith) (omega arith)
