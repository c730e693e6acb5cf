use Rattle.std.proofs.Common.{◌≡◌, ◌+◌, ◌∙◌, arith}
use Rattle.table.specs.Layout.{word, double_word}
use Rattle.table.proofs.layout.double_word.Goals as goal

pub returns : goal.returns
unfolding word double_word
returns c =
    let last : c.args.k + 2 + 1 ≡ c.args.k + 3 = omega arith in
    rw last (c.from_le_bytes.ensures ∙ omega arith)
