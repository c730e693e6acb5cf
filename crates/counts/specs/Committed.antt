-- Which places of the rows the committed document has: document 01, "the one held if they all aborted".
use Rattle.std.specs.Prelude.{ℕ, Bool, List, Result, Ok, Err}
use Rattle.protocol.specs.CauseNumbers.{number_of}
use Rattle.protocol.specs.declared.Answer.{Answer}
use Rattle.protocol.specs.declared.Answer.TheVariants.{Refused}
use Rattle.protocol.specs.declared.causes.Cause.{Cause}
use Rattle.table.specs.Layout.{Entry}
use Rattle.rows.specs.Places.{all_at, is_committed}

-- no open transaction inserted the node at p nor one above it
unfoldable pub committed_at : List Entry → ℕ → Bool
committed_at l p = all_at is_committed l p

-- what a call answers that may be refused
abbrev pub answered : Result Answer Cause → Answer
answered (Ok answer) = answer
answered (Err cause) = Refused (number_of cause)
