-- The contract of a call on lent bytes: begin, the nine steps, commit, abort and count_of, and load for what its input says.
use Rattle.std.specs.Prelude.{◌≡◌, ℕ, ◌+◌, false, cond, List, [], ◌∷◌, ◌++◌, length, take, drop}
use Rattle.tree.specs.Document.{Document}
use Rattle.tree.specs.Steps.{Value}
use Rattle.protocol.specs.State.{State}
use Rattle.protocol.specs.Lent.{Room}
use Rattle.protocol.specs.Calls.{Call, start, load, begin, commit, abort, step, write, count_of, open_part, close_part, undo_part}
use Rattle.protocol.specs.Calls.{Outcome, next}
use Rattle.protocol.specs.Answers.{answer_of, lent_after, as_it_was}
use Rattle.protocol.specs.History.{is_granted, is_wait}
use Rattle.protocol.specs.declared.Answer.{Answer}
use Rattle.protocol.specs.declared.Answer.TheVariants.{Refused}
use Rattle.table.specs.Layout.{state_size, set_at}
use Rattle.form.specs.Form.{form, Holds}

-- where the set stands that is remembered of the transaction of a step: the place of the state, offset and length
abbrev pub set_place : Call → List (ℕ × ℕ)
set_place (step t s room) = (set_at t, 2) ∷ []
set_place start = []
set_place (load i) = []
set_place (begin t) = []
set_place (commit t) = []
set_place (abort t) = []
set_place write = []
set_place (count_of n) = []
set_place (open_part t) = []
set_place (close_part t) = []
set_place (undo_part t) = []

-- the places that a call which is not granted may change: "a wait changes only this memory, a refusal nothing"
abbrev pub changed_by : Call → Outcome → List (ℕ × ℕ)
changed_by c o = cond (is_wait o) (set_place c) []

-- the bytes without those places; of several the one furthest behind is named first, since what is behind a place moves
abbrev pub outside : List (ℕ × ℕ) → List ℕ → List ℕ
outside [] s = s
outside (p ∷ ps) s = outside ps (take p.0 s ++ drop (p.0 + p.1) s)

-- a call that was lent the state bytes s, left s' there and answered r
pub record Performed (s s' : List ℕ) (r : Answer) (call : Call) : Type 0 where
  -- "state bytes that are too short, or not of the form .. give 13 before all else"
  pub unformed : form s ≡ false → (r ≡ Refused 13) × (s' ≡ s)
  -- otherwise the answer is the definition's, and what is left holds the definition's next state; `writing` plays no part, since no such
  -- call writes
  pub answer : (M : State) → Holds s M → (writing : Document → Answer) → r ≡ answer_of writing (next call M).outcome
  -- which slot each node has, the order of the free slots, and the bytes that docs/STATE.md calls free are the program's choice at every
  -- granted call; what all choices have in common is `one_answer` (traces), and the bytes hold this one state (`holds_one` in form)
  pub state : (M : State) → Holds s M → Holds s' (next call M).state
  -- a wait or a refusal: "left as it was: everything", but for what the definition changes
  pub still : (M : State) → Holds s M → is_granted (next call M).outcome ≡ false
      → outside (changed_by call (next call M).outcome) s' ≡ outside (changed_by call (next call M).outcome) s
  -- bytes behind the state are never touched
  pub long : length s' ≡ length s
  pub behind : drop state_size s' ≡ drop state_size s

-- the call was lent a buffer too, which held b and now holds b'; `lent` is first_lent or second_lent. No such call writes, so what
-- `as_it_was` says of a text plays no part
pub record Lent (lent : Value → List ℕ) (s b b' : List ℕ) (call : Call) : Type 0 where
  pub unformed : form s ≡ false → b' ≡ b
  pub filled : (M : State) → Holds s M → b' ≡ lent_after lent as_it_was (next call M).outcome b

-- the room of a step with no lent buffer, with one, and with two
abbrev pub no_room : Room
no_room = record { first = 0; second = 0 }

abbrev pub room_of : List ℕ → Room
room_of b = record { first = length b; second = 0 }

abbrev pub rooms_of : List ℕ → List ℕ → Room
rooms_of b c = record { first = length b; second = length c }
