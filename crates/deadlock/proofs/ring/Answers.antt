use Rattle.std.proofs.Common.{◌∙◌, arith}
use Rattle.deadlock.specs.Laws.Rounds.{reached_none, reached_more, ring_found}
use Rattle.deadlock.proofs.ring.Goals as goal

pub loop-init : goal.loop-init
loop-init c = reached_none _ _

pub loop-preserved : goal.loop-preserved
loop-preserved c = reached_more _ _ c.loop.counter c.loop.reach _ c.loop.invariant c.round-reach.ensures

pub returns : goal.returns
returns c = c.has.ensures ∙ ring_found _ _ c.loop.counter c.loop.reach (omega (arith, c.requires.0)) c.loop.invariant
