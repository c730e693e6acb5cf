use borrow.Author.Rules.{rules}
use native.Mathlib.Omega.{arith}
use mathlib.Core.Path.{ap, ◌∙◌, ◌≡◌}
use Prim.Native.Nat.{◌/◌, ◌%◌}
use lib.ListN.{length}
use Rattle.table.specs.Layout.{nodes}
use Rattle.node_reading.specs.Laws.Buffers.{written_start, written_more, written_done, number_pieces}
use Rattle.node_reading.proofs.numbers.Goals as goal

pub loop-j-init : goal.loop-j-init
loop-j-init c = written_start _ _ _ _

pub loop-j-preserved : goal.loop-j-preserved
loop-j-preserved c =
    let n = c.number-n.result in
    let high : n / 16777216 % 256 ≡ n / 16777216 = omega (arith, c.number-n.type_inv) in
    let bytes = c.copy_from_slice.ensures.after ∙ c.to_le_bytes.ensures in
    written_more c.loop-j.invariant (search rules) (search rules) (bytes ∙ rw (high, c.number-n.ensures, c.from.ensures)) (ap length bytes)

pub returns : goal.returns
returns c = written_done c.loop-j.invariant (search rules) (search rules) ∙ rw (number_pieces (nodes c.args.s.now) c.args.places.now)
