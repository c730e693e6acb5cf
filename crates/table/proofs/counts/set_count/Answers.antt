use Rattle.table.specs.Laws.Counts.{count_kept}
use borrow.Author.Rules.{rules}
use Rattle.table.proofs.counts.set_count.Goals as goal

pub returns : goal.returns
returns c =
    let slot = c.slot-k in
    count_kept _ _ _ _ _ slot.ensures.0 c.set_double_word.ensures (search rules) (search rules)
