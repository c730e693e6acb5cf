use Rattle.protocol.specs.Answers.{granted_answer}
use Rattle.node_reading.proofs.kth_child.Goals as goal

pub returns-in-Some : goal.returns-in-Some
unfolding granted_answer
returns-in-Some c = rw (c.in-Some.ensures.1, c.kind.ensures, c.number.ensures)

pub returns-in-None : goal.returns-in-None
unfolding granted_answer
returns-in-None c = rw c.in-None.ensures
