use Rattle.std.proofs.Common.{sym, ◌∙◌, arith}
use Rattle.locks.specs.Modes.{clash}
use Rattle.locks.specs.Words.{clash_table, clash_at}
use Rattle.locks.proofs.Laws.Words.{word_turn, word_none, word_below}
use Rattle.locks.proofs.clashing.Goals as goal

pub loop-a-init : goal.loop-a-init
loop-a-init c = sym (word_none _ 12)

pub bit_below-m-requires : goal.bit_below-m-requires
bit_below-m-requires c = omega (arith, word_below (λ a. clash_at a c.args.b) c.loop-a.a, c.loop-a.invariant)

pub loop-a-preserved : goal.loop-a-preserved
unfolding clash_table clash_at clash
loop-a-preserved c =
    let l = c.loop-a in
    c.bit_below-m.ensures ∙ rw l.invariant (sym (word_turn (λ a. clash_at a c.args.b) 12 l.a (omega arith) (omega arith)))
