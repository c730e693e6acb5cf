-- What is judged before a step's own causes: 13 for the state, 1, 3 and 7.
use Rattle.std.specs.Prelude.{◌≡◌, ℕ, ◌≤◌, ◌<◌, true, false, List, length, Result, MatchResult}
use Rattle.tree.specs.Steps.{Step, target}
use Rattle.protocol.specs.declared.causes.Cause.{Cause}
use Rattle.protocol.specs.CauseNumbers.{number_of as number_of_cause}
use Rattle.protocol.specs.State.{State}
use Rattle.protocol.specs.Lent.{Room}
use Rattle.protocol.specs.Calls.{step, Next, unchanged, refused, if_open, next}
use Rattle.table.specs.Layout.{nodes, is_open, Layout}
use Rattle.rows.specs.Places.{item, number_of, seen_at}
use Rattle.rows.specs.Found.{judged_at}
use Rattle.engine.specs.Way.{Climbed}
use Rattle.form.specs.Form.{form, Holds}
use Rattle.engine.specs.declared.Admission.{Admission}

-- the caller ---------------------------------------------------------------------------

-- bytes of the form, in which transaction t is open
pub record Opened (s : List ℕ) (t : ℕ) : Type 0 where
  pub formed : form s ≡ true
  pub layout : Layout s
  pub low : 1 ≤ t
  pub high : t ≤ 16
  pub is_open : is_open s t ≡ true

-- every call of t but begin is refused by this cause: 13, 1 or 3
pub record Barred (s : List ℕ) (t cause : ℕ) : Type 0 where
  pub unformed : form s ≡ false → cause ≡ 13
  pub formed : (M : State) → Holds s M → (otherwise : Next) → if_open t M otherwise ≡ unchanged (refused cause) M

-- which of the two, by the cause, 0 for none
pub record Caller (s : List ℕ) (t cause : ℕ) : Type 0 where
  pub opened : cause ≡ 0 → Opened s t
  pub barred : (cause ≡ 0 → ⊥) → Barred s t cause

-- the node -----------------------------------------------------------------------------

-- where a step stands: its transaction, the place of its node, and the places of the way up from there
pub record Site : Type 0 where
  pub t : ℕ
  pub place : ℕ
  pub way : List ℕ

abbrev pub site : Admission → Site
site a = record { t = a.t; place = a.place; way = a.way.now }

-- every step of t on n is refused by this cause: 13, 1, 3 or 7
pub record Rejected (s : List ℕ) (t n cause : ℕ) : Type 0 where
  pub unformed : form s ≡ false → cause ≡ 13
  pub formed : (M : State) → Holds s M → (st : Step) → target st ≡ n → (room : Room) → next (step t st room) M ≡ unchanged (refused cause) M

-- t is open, and sees node n at the place; every step of t on n is judged there, by what comes behind 7
pub record Standing (s : List ℕ) (t n : ℕ) (a : Site) : Type 0 where
  pub formed : form s ≡ true
  pub layout : Layout s
  pub same : a.t ≡ t
  pub low : 1 ≤ a.t
  pub high : a.t ≤ 16
  pub is_open : is_open s a.t ≡ true
  pub inside : a.place < length (nodes s)
  pub number : number_of (item (nodes s) a.place) ≡ n
  pub seen : seen_at a.t (nodes s) a.place ≡ true
  pub climbed : Climbed (nodes s) a.place a.way
  pub next : (M : State) → Holds s M → (st : Step) → target st ≡ n → (room : Room)
      → next (step t st room) M ≡ judged_at a.t st room M (nodes s) a.place

-- which of the two
abbrev pub Admitted : List ℕ → ℕ → ℕ → Result Admission Cause → Type 0
Admitted s t n r = MatchResult r (λ a. Standing s t n (site a)) (λ c. Rejected s t n (number_of_cause c))
