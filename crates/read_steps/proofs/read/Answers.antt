use Rattle.engine.specs.Laws.Judgement.{can_remember, tried_lent}
use Rattle.read_steps.proofs.read.Goals as goal

pub answer-requires : goal.answer-requires
answer-requires c = can_remember _ _ _ _ _ c.try_read-outcome.ensures.0

pub returns : goal.returns
returns c =
    let tried = c.try_read-outcome.ensures in
    (c.answer.ensures.performed _ _ tried.0, tried_lent _ _ _ _ _ _ _ _ tried.0 tried.1)
