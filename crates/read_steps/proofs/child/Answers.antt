use Rattle.engine.specs.Laws.Judgement.{can_remember}
use Rattle.read_steps.proofs.child.Goals as goal

pub answer-requires : goal.answer-requires
answer-requires c = can_remember _ _ _ _ _ c.try_child-outcome.ensures
