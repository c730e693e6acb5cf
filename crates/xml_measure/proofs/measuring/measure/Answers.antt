use native.Mathlib.Omega.{arith}
use Rattle.xml_measure.specs.Laws.Measure.{measuring_start, too_few, measured_long, measured_sum, measured_refused}
use Rattle.xml_measure.specs.Laws.Measure.{measured_on}
use Rattle.xml_measure.specs.Laws.Walk.{walk_parent, walk_kind}
use Rattle.xml_measure.specs.Laws.Contents.{kind_at}
use lib.ListN.{replicate}
use mathlib.Core.Path.{refl, sym, ◌∙◌}
use Rattle.xml_measure.proofs.measuring.measure.Goals as goal

pub returns-then-rows-lt2 : goal.returns-then-rows-lt2
returns-then-rows-lt2 c = too_few _ _ _ c.requires.1 c.if-rows-lt2.true

pub loop-i-init : goal.loop-i-init
loop-i-init c =
    measuring_start (replicate 1024 0) (replicate 1024 0) (replicate 1024 0) c.requires.1 (omega arith) refl refl refl
    (c.kind.ensures ∙ sym (kind_at _ _))

pub admit-requires : goal.admit-requires
admit-requires c = (
  c.requires.0,
  c.requires.1.inside c.loop-i.i (omega arith),
  omega (arith, c.loop-i.invariant.fewer, c.requires.1.room),
  c.loop-i.invariant.inside,
  c.loop-i.invariant.sorted,
  c.kind-kind.ensures ∙ sym (kind_at _ _),
)

pub returns-in_err-kept : goal.returns-in_err-kept
returns-in_err-kept c =
    rw c.from_residual.ensures
    (measured_refused c.requires.1 c.loop-i.invariant (omega arith) refl c.depth-d.ensures refl
    (c.kind-kind.ensures ∙ sym (kind_at _ _)) c.previous-before.ensures c.in_err-kept.ensures refl)

pub cost-sum-requires : goal.cost-sum-requires
cost-sum-requires c = (
  c.requires.0,
  walk_parent c.requires.1 c.loop-i.invariant.walk (omega arith) c.depth-d.ensures,
  walk_kind c.requires.1 c.loop-i.invariant.walk (omega arith) c.depth-d.ensures,
  c.requires.1.inside c.loop-i.i (omega arith),
  c.kind-kind.ensures ∙ sym (kind_at _ _),
)

pub loop-i-preserved : goal.loop-i-preserved
loop-i-preserved c =
    measured_on c.requires.1 c.loop-i.invariant (omega arith) refl c.depth-d.ensures refl (c.kind-kind.ensures ∙ sym (kind_at _ _))
    c.previous-before.ensures c.in_ok-kept.ensures refl c.cost-sum.ensures.0 c.cost-sum.ensures.1

pub returns-then-sum-gt65536 : goal.returns-then-sum-gt65536
returns-then-sum-gt65536 c =
    measured_long c.requires.1 c.loop-i.invariant (omega arith) c.if-sum-gt65536.true

pub returns : goal.returns
returns c =
    measured_sum c.requires.1 c.loop-i.invariant (omega arith) (omega arith)
