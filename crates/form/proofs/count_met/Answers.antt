use native.Mathlib.Omega.{arith}
use Rattle.form.specs.Laws.Slots.{sum_next, sum_end}
use Rattle.form.proofs.count_met.Goals as goal

pub loop-m-preserved : goal.loop-m-preserved
loop-m-preserved c =
    rw c.from-n.ensures (sum_next c.args.met.now c.loop-m.n c.loop-m.m-index c.loop-m.invariant (omega (arith, c.requires.0)))

pub returns : goal.returns
returns c = sum_end c.args.met.now c.loop-m.n c.loop-m.m-index c.loop-m.invariant (omega (arith, c.requires.0))
