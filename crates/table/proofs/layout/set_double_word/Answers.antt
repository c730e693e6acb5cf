use Rattle.std.proofs.Common.{◌≡◌, ◌+◌, ◌-◌, ◌/◌, ◌%◌, arith}
use Rattle.table.specs.Laws.Bytes.{put_word, put_double_word, four_stored}
use Rattle.table.proofs.layout.set_double_word.Goals as goal

pub returns : goal.returns
unfolding put_word put_double_word
returns c =
    let v = c.args.v in
    let four : c.args.k + 4 - c.args.k ≡ 4 = omega arith in
    let a : v % 65536 % 256 ≡ v % 256 = omega arith in
    let b : v % 65536 / 256 ≡ v / 256 % 256 = omega arith in
    let d : v / 65536 / 256 ≡ v / 16777216 % 256 = omega arith in
    let last : c.args.k + 2 + 1 ≡ c.args.k + 3 = omega arith in
    rw (c.copy_from_slice.ensures.after, c.to_le_bytes.ensures, four, a, b, d, last)
    (four_stored _ _ _ _ _ _ (omega arith))
