-- What a panel program hands over in a call, and what it gets back: numbers and bytes alone (include/noodlefen.h).
use Rattle.std.specs.Prelude.{ℕ, ◌/◌, ◌%◌, Bool, cond, List, [], eqb}
use Rattle.tree.specs.Steps.{Step}

-- the numbers and the bytes that a call is given, beside the state and the buffers for its answer
pub data Request : Type 0 where
  start : Request
  load : (xml : List ℕ) → Request
  write : Request
  begin commit abort : (t : ℕ) → Request
  -- the nine steps, each by its numbers and bytes
  step : (t : ℕ) (s : Step) → Request
  count_of : (n : ℕ) → Request

-- lent bytes, before the call and after it
pub record Memory : Type 0 where
  pub before : List ℕ
  pub after : List ℕ

-- a call that was made: the state, the buffers for its answer (out, numbers, cells; empty where it has none), and the number answered
pub record Exchange : Type 0 where
  pub request : Request
  pub state : Memory
  pub first : Memory
  pub second : Memory
  pub code : ℕ

abbrev pub memory : List ℕ → List ℕ → Memory
memory b b' = record { before = b; after = b' }

-- calls with no buffer, with one, and with two
abbrev pub with_none : Request → (s s' : List ℕ) → ℕ → Exchange
with_none q s s' r = record { request = q; state = memory s s'; first = memory [] []; second = memory [] []; code = r }

abbrev pub with_one : Request → (s s' b b' : List ℕ) → ℕ → Exchange
with_one q s s' b b' r = record { request = q; state = memory s s'; first = memory b b'; second = memory [] []; code = r }

abbrev pub with_two : Request → (s s' b b' d d' : List ℕ) → ℕ → Exchange
with_two q s s' b b' d d' r = record { request = q; state = memory s s'; first = memory b b'; second = memory d d'; code = r }

-- what the number tells: bits 0 to 7 the outcome (0 granted, 1 waits, 2 refused), bits 8 to 15 the cause, bits 16 to 63 the value
abbrev pub outcome : ℕ → ℕ
outcome code = code % 256

abbrev pub cause : ℕ → ℕ
cause code = code / 256 % 256

abbrev pub value : ℕ → ℕ
value code = code / 65536

-- granted, by the number
abbrev pub told_granted : ℕ → Bool
told_granted code = eqb (outcome code) 0

-- a wait, by the number, and its set; 0 where it is none
abbrev pub told_waiting : ℕ → Bool
told_waiting code = eqb (outcome code) 1

abbrev pub told_set : ℕ → ℕ
told_set code = cond (told_waiting code) (value code) 0
