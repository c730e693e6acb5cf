use Rattle.engine.specs.Laws.Judgement.{judged_free, judged_ring, judged_waits}
use Rattle.engine.proofs.judge.Goals as goal

pub returns-then-set-eq0 : goal.returns-then-set-eq0
returns-then-set-eq0 c = judged_free _ (rw c.from-t.ensures at c.waits-set.ensures) c.if-set-eq0.true

pub returns-then-closes_ring : goal.returns-then-closes_ring
returns-then-closes_ring c =
    judged_ring _ (rw c.from-t.ensures at c.waits-set.ensures) c.if-set-eq0.false _ (rw c.from-t.ensures at c.closes_ring.ensures)
    c.if-closes_ring.true

pub returns : goal.returns
returns c =
    judged_waits _ (rw c.from-t.ensures at c.waits-set.ensures) c.if-set-eq0.false _ (rw c.from-t.ensures at c.closes_ring.ensures)
    c.if-closes_ring.false c.requires
