-- From the contract of a call to that of the function that exports it.
use Rattle.std.specs.Prelude.{◌≡◌, ℕ, ◌≤◌, Bool, true, false, not, List, [], ◌∷◌, length, leb}
use Rattle.std.proofs.Math.Path.{refl}
use Rattle.std.proofs.Common.{subst, true≢false, arith, leb-true}
use Rattle.std.proofs.lemmas.Bool.{not-true, not-false}
use Rattle.tree.specs.Lists.{every}
use Rattle.tree.specs.Document.{lines}
use Rattle.tree.specs.Steps.{Step, Value, done, how_many, answer}
use Rattle.tree.specs.Laws.Tests.{and_left, and_right}
use Rattle.tree.specs.Laws.Lists.{every_at}
use Rattle.locks.specs.Needs.{needs}
use Rattle.protocol.specs.State.{State, is_transaction, callers_document, act, grant, with_tree, forgetting}
use Rattle.protocol.specs.Lent.{Room, has_room, first_lent, second_lent}
use Rattle.protocol.specs.Causes.{not_a_transaction, not_open}
use Rattle.protocol.specs.Calls.{Input, Call, start, load, begin, commit, abort, step, write, count_of, open_part, close_part, undo_part}
use Rattle.protocol.specs.Calls.{Outcome, granted, written, waits}
use Rattle.protocol.specs.Calls.{refused, refused_at, Next, unchanged, held_back, grants_step, Check, checked, step_checks, judged, next}
use Rattle.protocol.specs.History.{is_granted}
use Rattle.protocol.specs.Answers.{code_of, lent_after, as_it_was}
use Rattle.protocol.specs.declared.Answer.{Answer}
use Rattle.engine.specs.Contract.{Performed, Lent, no_room, room_of, rooms_of}
use Rattle.ends.specs.Ends.{Restarted}
use Rattle.serializability.proofs.Laws.Outcomes.{AllPassed, checked_cases, held_back_outcome, every_call}
use Rattle.xml.specs.Reading.{ReadsAs}
use Rattle.xml.proofs.Laws.Readings.{reading}
use Rattle.traces.specs.Exchange.{Request, Exchange, with_none, with_one, with_two}
use Rattle.xml_write.specs.Contract.{Written}
use Rattle.traces.specs.Contract as contract
use Rattle.traces.specs.Contract.{Makes, makes_start, makes_load, makes_write, makes_begin, makes_commit, makes_abort, makes_count}
use Rattle.traces.specs.Contract.{MakesCall, Ensured, Contract}
use Rattle.traces.proofs.Laws.Causes.{makes_only}

is_step : Call → Bool
is_step start = false
is_step (load i) = false
is_step (begin t) = false
is_step (commit t) = false
is_step (abort t) = false
is_step (step t s room) = true
is_step write = false
is_step (count_of n) = false
is_step (open_part t) = false
is_step (close_part t) = false
is_step (undo_part t) = false

-- 1, then 3
abbrev open_checks : ℕ → State → List Check
open_checks t M = (refused not_a_transaction, not (is_transaction t)) ∷ (refused not_open, not (M.header.is_open t)) ∷ []

-- a buffer that a call does not have --------------------------------------------------------

-- nothing is put into it
abbrev Unlent : (Value → List ℕ) → Next → Type 0
Unlent lent n = [] ≡ lent_after lent as_it_was n.outcome []

not_granted_unlent : (lent : Value → List ℕ) (o : Outcome) → is_granted o ≡ false → [] ≡ lent_after lent as_it_was o []
unfolding lent_after
not_granted_unlent lent (granted v) h = absurd (true≢false h)
not_granted_unlent lent (written d) h = refl
not_granted_unlent lent (waits w) h = refl
not_granted_unlent lent (refused c) h = refl
not_granted_unlent lent (refused_at c i) h = refl

-- behind checks, none of which grants
behind_checks : (lent : Value → List ℕ) (stop : Outcome → Next) → ((o : Outcome) → (stop o).outcome ≡ o) → (cs : List Check) (n : Next)
    → every (λ c. not (is_granted c.0)) cs ≡ true → (AllPassed cs → Unlent lent n) → Unlent lent (checked stop cs n)
behind_checks lent stop same cs n h g =
    checked_cases (Unlent lent) stop cs n
    (λ c i e. rw (same c.0) (not_granted_unlent lent c.0 (not-true _ (every_at (λ c. not (is_granted c.0)) cs h i)))) g

-- a step is granted only where there is room
step_quiet : (lent : Value → List ℕ) (t : ℕ) (s : Step) (room : Room) (M : State) → ((v : Value) → has_room v room ≡ true → lent v ≡ [])
    → Unlent lent (next (step t s room) M)
unfolding next judged lent_after
step_quiet lent t s room M h =
    let d = callers_document t M.tree in
    let n : Next = grants_step s (answer s d) (forgetting t (with_tree M (grant t (needs s d) (act t (M.header.depth t) s M.tree)))) in
    behind_checks lent (λ o. unchanged o M) (λ o. refl) (open_checks t M) (judged t s room M d) refl
    (λ _. behind_checks lent (held_back t M) (held_back_outcome t M) (step_checks t s room M d) n refl
    (λ p. rw (h (answer s d) (not-false _ p.1.1.1.1.1.1.1.1.0))))

no_bytes : (l : List ℕ) → length l ≤ 0 → l ≡ []
no_bytes [] h = refl
no_bytes (x ∷ l) h = absurd (omega arith)

module _ (s : List ℕ) (t : ℕ) (st : Step) where
  step_unlent : (lent : Value → List ℕ) (room : Room) → ((v : Value) → has_room v room ≡ true → lent v ≡ [])
      → Lent lent s [] [] (step t st room)
  step_unlent lent room h = record { unformed = λ _. refl; filled = λ M _. step_quiet lent t st room M h }

  no_first : Lent first_lent s [] [] (step t st no_room)
  no_first = step_unlent first_lent no_room
      (λ v h. no_bytes (first_lent v) (leb-true (length (first_lent v)) 0 (and_left _ (leb (length (second_lent v)) 0) h)))

  no_second : (k : ℕ) → Lent second_lent s [] [] (step t st (record { first = k; second = 0 }))
  no_second k = step_unlent second_lent (record { first = k; second = 0 })
      (λ v h. no_bytes (second_lent v) (leb-true (length (second_lent v)) 0 (and_right (leb (length (first_lent v)) k) _ h)))

-- begin, commit, abort, load and count_of put nothing into buffers
module _ (lent : Value → List ℕ) (h : lent done ≡ []) (k : (n : ℕ) → lent (how_many n) ≡ []) where
  -- no claim about steps
  abbrev Quiet : Call → Next → Type 0
  Quiet c n = is_step c ≡ false → Unlent lent n

  others_unlent : (c : Call) (M : State) → Quiet c (next c M)
  unfolding lent_after is_step
  others_unlent c M = every_call Quiet M (record {
    refusal = λ c cause r i. refl;
    at_start = λ i. rw h;
    at_unread = λ c o i. refl;
    at_load = λ d l w i. rw (k (length (lines d)));
    at_begin = λ t a o i. rw h;
    at_commit = λ t a o l i. rw h;
    at_abort = λ t a o i. rw h;
    at_wait = λ t s room a o r z i. refl;
    at_step = λ t s room a o p i. absurd (true≢false i);
    at_write = λ i. refl;
    at_count = λ n a i. rw (k _);
    at_open_part = λ t a o l i. rw h;
    at_close_part = λ t a o l i. rw h;
    at_undo_part = λ t a o l i. rw h;
  }) c

-- the exported functions ---------------------------------------------------------------------

-- every request makes one call
contract_of : {x : Exchange} (a : Answer) {c : Call} → x.code ≡ code_of a → MakesCall x c → Ensured x a c → Contract x
contract_of {x} a e m h = record { answer = a; code = e; ensured = λ d k. subst (Ensured x a) (makes_only _ m k) h }

module _ {s s' : List ℕ} {a : Answer} {r : ℕ} (e : r ≡ code_of a) where
  pub start_contract : Restarted s s' a → Contract (with_none Request.start s s' r)
  unfolding Ensured
  start_contract h = contract_of a e makes_start (record { restarted = h; first = refl; second = refl })

  -- a call that puts nothing into buffers
  quiet : (q : Request) (c : Call) → is_step c ≡ false → Performed s s' a c → contract.OnState (with_none q s s' r) a c
  unfolding first_lent second_lent
  quiet q c i h = record {
    performed = h;
    first = record { unformed = λ _. refl; filled = λ M _. others_unlent first_lent refl (λ n. refl) c M i };
    second = record { unformed = λ _. refl; filled = λ M _. others_unlent second_lent refl (λ n. refl) c M i };
  }

  pub begin_contract : {t : ℕ} → Performed s s' a (begin t) → Contract (with_none (Request.begin t) s s' r)
  unfolding Ensured is_step
  begin_contract {t} h = contract_of a e makes_begin (quiet _ (begin t) refl h)

  pub commit_contract : {t : ℕ} → Performed s s' a (commit t) → Contract (with_none (Request.commit t) s s' r)
  unfolding Ensured is_step
  commit_contract {t} h = contract_of a e makes_commit (quiet _ (commit t) refl h)

  pub abort_contract : {t : ℕ} → Performed s s' a (abort t) → Contract (with_none (Request.abort t) s s' r)
  unfolding Ensured is_step
  abort_contract {t} h = contract_of a e makes_abort (quiet _ (abort t) refl h)

  pub load_contract : {x : List ℕ} → ((i : Input) → ReadsAs x i → Performed s s' a (load i)) → Contract (with_none (Request.load x) s s' r)
  unfolding Ensured is_step
  load_contract {x} h =
      let i = reading x in
      contract_of a e (makes_load i.1) (quiet _ (load i.0) refl (h i.0 i.1))

  pub count_contract : {n : ℕ} → s' ≡ s → Performed s s' a (count_of n) → Contract (with_none (Request.count_of n) s s' r)
  unfolding Ensured is_step
  count_contract {n} i h = contract_of a e makes_count (record { on_state = quiet _ (count_of n) refl h; state = i })

  -- steps with no buffer, with one, and with two
  pub none_contract : {q : Request} {t : ℕ} {st : Step} → Makes no_room q (step t st no_room) → Performed s s' a (step t st no_room)
      → Contract (with_none q s s' r)
  unfolding Ensured
  none_contract {t = t} {st = st} m h = contract_of a e m (record { performed = h; first = no_first s t st; second = no_second s t st 0 })

  pub one_contract : {q : Request} {t : ℕ} {st : Step} {b b' : List ℕ} → Makes (room_of b) q (step t st (room_of b))
      → Performed s s' a (step t st (room_of b))
      → Lent first_lent s b b' (step t st (room_of b)) → Contract (with_one q s s' b b' r)
  unfolding Ensured
  one_contract {t = t} {st = st} {b = b} m h k =
      contract_of a e m (record { performed = h; first = k; second = no_second s t st (length b) })

  pub two_contract : {q : Request} {t : ℕ} {st : Step} {b b' d d' : List ℕ} → Makes (rooms_of b d) q (step t st (rooms_of b d))
      → Performed s s' a (step t st (rooms_of b d))
      → Lent first_lent s b b' (step t st (rooms_of b d)) → Lent second_lent s d d' (step t st (rooms_of b d))
      → Contract (with_two q s s' b b' d d' r)
  unfolding Ensured
  two_contract m h k l = contract_of a e m (record { performed = h; first = k; second = l })

pub write_contract : {s o o' : List ℕ} {a : Answer} {r : ℕ} → r ≡ code_of a → Written s o o' a
    → Contract (with_one Request.write s s o o' r)
unfolding Ensured
write_contract {a = a} e h = contract_of a e makes_write (record { written = h; state = refl; second = refl })
