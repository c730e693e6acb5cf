use native.Mathlib.Omega.{arith}
use Rattle.ends.specs.Laws.Pass.{unmarked_stays, left_out_then, kept_then_ends}
use Rattle.ends.proofs.pass.end_marks.Goals as goal

pub returns-then-below-marks-eq0 : goal.returns-then-below-marks-eq0
returns-then-below-marks-eq0 c =
    unmarked_stays _ _ _ _ c.requires.0 c.requires.2 (omega (arith, c.marks.ensures.0, c.if-below-marks-eq0.true))

pub returns-then-next-eq0 : goal.returns-then-next-eq0
returns-then-next-eq0 c = kept_then_ends _ _ _ _ _ c.next_below-next.ensures c.if-next-eq0.true c.end_node.ensures

pub returns-else-next-eq0 : goal.returns-else-next-eq0
returns-else-next-eq0 c = left_out_then _ _ _ _ _ c.requires.0 c.next_below-next.ensures (omega (arith, c.if-next-eq0.false))
