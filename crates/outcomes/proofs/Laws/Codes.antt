-- The number of every answer says an outcome, so what is read from it is that outcome.
use Rattle.std.proofs.Common.{arith}
use Rattle.protocol.specs.Answers.{code_of}
use Rattle.protocol.specs.declared.Answer.{Answer}
use Rattle.protocol.specs.declared.Answer.TheVariants.{Done, Node, Child, NoChild, Count, Waits, Refused, RefusedAt}
use Rattle.outcomes.specs.Told.{IsPacked}

pub every_code : (a : Answer) → IsPacked (code_of a)
unfolding code_of
every_code Done = grind arith
every_code (Node kind parent) = grind arith
every_code (Child kind number) = grind arith
every_code NoChild = grind arith
every_code (Count n) = grind arith
every_code (Waits set) = grind arith
every_code (Refused cause) = grind arith
every_code (RefusedAt cause offset) = grind arith
