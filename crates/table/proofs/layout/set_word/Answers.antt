use Rattle.std.proofs.Common.{◌≡◌, ◌+◌, ◌-◌, ◌/◌, ◌%◌, arith}
use Rattle.table.specs.Laws.Bytes.{put_word, two_stored}
use Rattle.table.proofs.layout.set_word.Goals as goal

pub returns : goal.returns
unfolding put_word
returns c =
    let two : c.args.k + 2 - c.args.k ≡ 2 = omega arith in
    let high : c.args.v / 256 % 256 ≡ c.args.v / 256 = omega arith in
    rw (c.copy_from_slice.ensures.after, c.to_le_bytes.ensures, two, high) (two_stored _ _ _ _ c.requires)
