-- What a step is judged by that was admitted: its own causes 8 to 10, the wait or 17, then 11 to 13.
use Rattle.std.specs.Prelude.{◌≡◌, ℕ, ◌≤◌, Bool, cond, not, List, [], ◌∷◌, map, eqb, Result, Ok, Err, MatchResult, ⊤}
use Rattle.tree.specs.Steps.{Step, Value, target, wrong_kind_on, wrong_content_on, misplaced_on}
use Rattle.locks.specs.Needs.{need}
use Rattle.locks.specs.Words.{words}
use Rattle.locks.specs.declared.NeedWords.{NeedWords}
use Rattle.protocol.specs.CauseNumbers.{number_of}
use Rattle.protocol.specs.Lent.{Room, has_room}
use Rattle.protocol.specs.Causes.{kind_not_allowed, content_not_allowed, held_number, place_not_allowed, no_more_nodes, short_buffer}
use Rattle.protocol.specs.Calls.{Call, step}
use Rattle.protocol.specs.declared.Answer.{Answer}
use Rattle.protocol.specs.declared.Answer.TheVariants as answer
use Rattle.table.specs.Layout.{Entry, set_at, nodes, is_open, Layout}
use Rattle.table.specs.Laws.Bytes.{put_word}
use Rattle.rows.specs.Places.{item, ups, children}
use Rattle.rows.specs.Found.{kind_of, used_in, limit_reached_in, answer_at, wait_word}
use Rattle.engine.specs.Contract.{Performed, Lent}
use Rattle.engine.specs.Admission.{Site, Standing}
use Rattle.engine.specs.declared.Stop.{Stop}
use Rattle.engine.specs.declared.Stop.TheVariants.{Refused, Waits}

-- causes ---------------------------------------------------------------------------------

-- a cause, and whether it applies
abbrev pub Cause : Type 0
Cause = ℕ × Bool

-- the first that applies, or 0
abbrev pub first_cause : List Cause → ℕ
first_cause [] = 0
first_cause (c ∷ cs) = cond c.1 c.0 (first_cause cs)

-- before the wait
abbrev pub own_causes : Step → List Entry → ℕ → List Cause
own_causes st l p =
    (kind_not_allowed, wrong_kind_on st (item l p).now.kind)
    ∷ (content_not_allowed, wrong_content_on st (item l p).now.kind)
    ∷ (held_number, used_in st l) ∷ []

abbrev pub own_cause : Step → List Entry → ℕ → ℕ
own_cause st l p = first_cause (own_causes st l p)

-- behind it
abbrev pub late_causes : ℕ → Step → Room → List Entry → ℕ → List Cause
late_causes t st room l p =
    (place_not_allowed, misplaced_on st (item l p).now.kind (map kind_of (children t l p)))
    ∷ (no_more_nodes, limit_reached_in st l)
    ∷ (short_buffer, not (has_room (answer_at st t l p) room)) ∷ []

-- the outcome ------------------------------------------------------------------------------

-- a call that is not granted: it answers r, leaves the bytes s', and leaves the lent buffers as they were
pub record Stopped (s s' : List ℕ) (r : Answer) (call : Call) : Type 0 where
  pub performed : Performed s s' r call
  pub lent : (lent : Value → List ℕ) (b : List ℕ) → Lent lent s b b call

-- the bytes with the set w remembered of t; where it is empty, as they were
unfoldable pub with_wait : ℕ → ℕ → List ℕ → List ℕ
with_wait t w s = cond (eqb w 0) s (put_word s (set_at t) w)

-- what a step answers that is not granted, and the set that is to be remembered of it
abbrev pub stop_answer : Stop → Answer
stop_answer (Refused c) = answer.Refused (number_of c)
stop_answer (Waits w) = answer.Waits w

abbrev pub stop_set : Stop → ℕ
stop_set (Refused c) = 0
stop_set (Waits w) = w

-- what a step answers that was tried, and the bytes behind it: only a wait changes them
abbrev pub told : Result Answer Stop → Answer
told (Ok a) = a
told (Err x) = stop_answer x

abbrev pub left_by : ℕ → Result Answer Stop → List ℕ → List ℕ
left_by t (Ok a) s = s
left_by t (Err x) s = with_wait t (stop_set x) s

-- a wait is for somebody, and the bytes can hold it
abbrev pub CanStop : List ℕ → ℕ → Stop → Type 0
CanStop s t (Refused c) = ⊤
CanStop s t (Waits w) = (w ≡ 0 → ⊥) × Layout s × (1 ≤ t) × (t ≤ 16)

-- the bytes can hold a wait for somebody; of an empty set nothing is remembered
abbrev pub Storable : List ℕ → ℕ → Stop → Type 0
Storable s t (Refused c) = ⊤
Storable s t (Waits w) = (w ≡ 0 → ⊥) → Layout s × (1 ≤ t) × (t ≤ 16)

-- step st of t stands at its node, has no cause before the wait, and needs these sets
pub record Asked (s : List ℕ) (t : ℕ) (a : Site) (w : NeedWords) (st : Step) : Type 0 where
  pub standing : Standing s t (target st) a
  pub fits : own_cause st (nodes s) a.place ≡ 0
  pub needs : w ≡ words (need st)

-- nothing up to the wait keeps the step from being granted
pub record Free (s : List ℕ) (t : ℕ) (a : Site) (w : NeedWords) (st : Step) : Type 0 where
  pub standing : Standing s t (target st) a
  pub fits : own_cause st (nodes s) a.place ≡ 0
  pub none : wait_word a.t (need st) (is_open s) (item (nodes s) a.place ∷ ups (nodes s) a.place) ≡ 0
  pub needs : w ≡ words (need st)

-- whatever the step: nothing keeps it from being granted
pub record Passed (s : List ℕ) (a : Site) (w : NeedWords) : Type 0 where
  pub free : {t : ℕ} {st : Step} → Asked s t a w st → Free s t a w st

-- or what keeps it from that, with the answer, where the wait is remembered
pub record HeldBack (s : List ℕ) (a : Site) (w : NeedWords) (x : Stop) : Type 0 where
  pub can_stop : CanStop s a.t x
  pub stopped : {t : ℕ} {st : Step} → Asked s t a w st → (room : Room)
      → Stopped s (with_wait a.t (stop_set x) s) (stop_answer x) (step t st room)

-- which of the two
abbrev pub Judged : List ℕ → Site → NeedWords → Result (Unit {0}) Stop → Type 0
Judged s a w r = MatchResult r (λ x. Passed s a w) (HeldBack s a w)

-- a call of t that was tried and is not granted: nothing is changed yet
pub record Halted (s s' : List ℕ) (t : ℕ) (x : Stop) (call : Call) : Type 0 where
  pub same : s' ≡ s
  pub can_stop : CanStop s t x
  pub stopped : Stopped s (with_wait t (stop_set x) s) (stop_answer x) call

-- a call of t that was tried: it was lent the bytes s and left s' there
abbrev pub Tried : List ℕ → List ℕ → ℕ → Result Answer Stop → Call → Type 0
Tried s s' t r call = MatchResult r (λ a. Performed s s' a call) (λ x. Halted s s' t x call)

-- the same of a lent buffer
abbrev pub TriedLent : (Value → List ℕ) → List ℕ → List ℕ → List ℕ → Result Answer Stop → Call → Type 0
TriedLent lent s b b' r call = MatchResult r (λ a. Lent lent s b b' call) (λ x. b' ≡ b)
