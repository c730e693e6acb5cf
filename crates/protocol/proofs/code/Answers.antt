use native.Mathlib.Omega.{arith}
use Rattle.protocol.specs.Answers.{code_of}
use Rattle.protocol.proofs.code.Goals as goal

pub returns-in-Done : goal.returns-in-Done
unfolding code_of
returns-in-Done c = rw c.in-Done.is (omega arith)

pub returns-in-Node : goal.returns-in-Node
unfolding code_of
returns-in-Node c = rw c.in-Node.is (omega arith)

pub returns-in-Child : goal.returns-in-Child
unfolding code_of
returns-in-Child c = rw c.in-Child.is (omega arith)

pub returns-in-NoChild : goal.returns-in-NoChild
unfolding code_of
returns-in-NoChild c = rw c.in-NoChild.is (omega arith)

pub returns-in-Count : goal.returns-in-Count
unfolding code_of
returns-in-Count c = rw c.in-Count.is (omega arith)

pub returns-in-Waits : goal.returns-in-Waits
unfolding code_of
returns-in-Waits c = rw c.in-Waits.is (omega arith)

pub returns-in-Refused : goal.returns-in-Refused
unfolding code_of
returns-in-Refused c = rw c.in-Refused.is (omega arith)

pub returns-in-RefusedAt : goal.returns-in-RefusedAt
unfolding code_of
returns-in-RefusedAt c = rw c.in-RefusedAt.is (omega arith)
