use Rattle.engine.specs.Laws.Judgement.{can_remember}
use Rattle.write_steps.proofs.insert.Goals as goal

pub answer-requires : goal.answer-requires
answer-requires c = can_remember _ _ _ _ _ c.try_insert-outcome.ensures
