-- The contract of start. Begin, commit and abort have that of every call (engine).
use Rattle.std.specs.Prelude.{◌≡◌, ℕ, ◌≤◌, ◌<◌, Result, Ok, Err, List, length, get_or, drop}
use Rattle.tree.specs.Document.{Document}
use Rattle.protocol.specs.State.{State}
use Rattle.protocol.specs.Calls.{start, next}
use Rattle.protocol.specs.Answers.{answer_of}
use Rattle.protocol.specs.declared.Answer.{Answer}
use Rattle.protocol.specs.declared.Answer.TheVariants.{Refused}
use Rattle.protocol.specs.declared.causes.Cause.{Cause}
use Rattle.protocol.specs.CauseNumbers.{number_of}
use Rattle.table.specs.Layout.{state_size}
use Rattle.form.specs.Form.{Holds}
use Rattle.form.specs.Start.{start_byte}

-- what a call answers that may be refused
abbrev pub answered : Result Answer Cause → Answer
answered (Ok answer) = answer
answered (Err cause) = Refused (number_of cause)

-- "a start call sets it to the beginning": the bytes need not be of the form, and 13 is given only where they are too short
pub record Restarted (s s' : List ℕ) (r : Answer) : Type 0 where
  pub short : length s < state_size → (r ≡ Refused 13) × (s' ≡ s)
  pub answer : state_size ≤ length s → (M : State) (writing : Document → Answer) → r ≡ answer_of writing (next start M).outcome
  pub state : state_size ≤ length s → (M : State) → Holds s' (next start M).state
  -- which bytes these are (docs/STATE.md)
  pub bytes : state_size ≤ length s → (j : ℕ) → j < state_size → get_or s' j 0 ≡ start_byte j
  pub long : length s' ≡ length s
  pub behind : drop state_size s' ≡ drop state_size s
