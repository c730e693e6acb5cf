use Rattle.std.proofs.Common.{◌≡◌, arith}
use Rattle.byte_strings.specs.Sorted.{is_free}
use Rattle.byte_strings.specs.Laws.Sorted.{between_start, turn_less, turn_equal, turn_greater}
use Rattle.byte_strings.proofs.find.Goals as goal

pub loop-low-init : goal.loop-low-init
loop-low-init g c = (omega arith, omega arith, λ name w s o. between_start name _ w)

pub loop-low-preserved-in-Less : goal.loop-low-preserved-in-Less
loop-low-preserved-in-Less g c = (
  omega arith,
  omega arith,
  λ name w s o. turn_less s (c.loop-low.invariant.2 name w s o) (omega arith) (o.lies _ (omega arith) c.order.ensures) c.in-Less.is,
)

pub returns-in-Equal : goal.returns-in-Equal
returns-in-Equal g c =
    λ name w s o. turn_equal s (c.loop-low.invariant.2 name w s o) (omega arith) (o.lies _ (omega arith) c.order.ensures) c.in-Equal.is

pub loop-low-preserved : goal.loop-low-preserved
loop-low-preserved g c = (
  omega arith,
  omega arith,
  λ name w s o. turn_greater s (c.loop-low.invariant.2 name w s o) (omega arith) (o.lies _ (omega arith) c.order.ensures) c.in-Greater.is,
)

pub returns : goal.returns
returns g c =
    λ name w s o.
    let e : c.loop-low.high ≡ c.loop-low.low = omega arith in
    is_free {k = c.loop-low.low} (omega arith) (rw e at c.loop-low.invariant.2 name w s o)
