use Rattle.engine.specs.Laws.Judgement.{performed_refused, performed_waits, left_refused, left_waits, left_none}
use Rattle.engine.proofs.answer.Goals as goal

pub returns-in-Err-Refused-clause-left : goal.returns-in-Err-Refused-clause-left
returns-in-Err-Refused-clause-left c = left_refused _ _ c.in-Err-Refused.is (rw c.in-Err-Refused.is at c.in-Err-Refused.field-0-is)

pub returns-in-Err-Refused-clause-performed : goal.returns-in-Err-Refused-clause-performed
returns-in-Err-Refused-clause-performed c =
    let arm = c.in-Err-Refused in
    let reason = rw arm.is at arm.field-0-is in
    λ first call h. performed_refused (rw reason at (rw arm.is at h)) c.from.ensures

pub returns-then-set-ne0-clause-left : goal.returns-then-set-ne0-clause-left
returns-then-set-ne0-clause-left c =
    left_waits _ _ c.in-Err-Waits.is (rw c.in-Err-Waits.is at c.in-Err-Waits.field-0-is) c.if-set-ne0.true c.remember.ensures

pub returns-then-set-ne0-clause-performed : goal.returns-then-set-ne0-clause-performed
returns-then-set-ne0-clause-performed c =
    let arm = c.in-Err-Waits in
    let reason = rw arm.is at arm.field-0-is in
    λ first call h. performed_waits (rw reason at (rw arm.is at h)) c.remember.ensures

pub returns-else-set-ne0-clause-left : goal.returns-else-set-ne0-clause-left
returns-else-set-ne0-clause-left c = left_none _ _ c.in-Err-Waits.is (rw c.in-Err-Waits.is at c.in-Err-Waits.field-0-is) c.if-set-ne0.false
