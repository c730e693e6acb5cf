-- What is claimed of every list of calls on one lent state: demands 1, 2 and 3, A.14, A.6 and A.7. `delivered` (proofs/Laws/Main.antt) proves it
-- from the contracts of the exported functions alone.
use Rattle.std.specs.Prelude.{◌≡◌, ℕ, ◌≤◌, ◌<◌, ◌↔◌, Bool, true, false, cond, length, take, drop, leb}
use mathlib.Core.List.{List, [], ◌∷◌, ◌++◌, map, Memᴰ}
use Rattle.tree.specs.Document.{Document, node_0_alone, here}
use Rattle.tree.specs.Lists.{has, joined}
use Rattle.tree.specs.Steps.{Step, Value, PlainAnswer, plain_value, unfit}
use Rattle.tree.specs.Plain.{Operation, steps_in, told, plain_document, plain_answers}
use Rattle.tree.specs.Counts.{Counts, counts_after, with_counts}
use Rattle.locks.specs.Needs.{needs}
use Rattle.protocol.specs.State.{State, WaitSets, start_state, callers_document, held_document, committed_document}
use Rattle.protocol.specs.State.{committed_with_counts}
use Rattle.protocol.specs.Lent.{Room, filled, first_lent, second_lent}
use Rattle.protocol.specs.Causes.{causes, no_such_node, deadlock, no_more_commits}
use Rattle.protocol.specs.Calls.{Call, start, load, begin, commit, abort, step, write, count_of, open_part, close_part, undo_part}
use Rattle.protocol.specs.Calls.{commit_limit, next}
use Rattle.protocol.specs.History.{Event, is_granted, Log, new_log, committed_then, logged, fed, plain}
use Rattle.protocol.specs.History.{waited_for, sets_left}
use Rattle.protocol.specs.Answers.{granted_answer, code_of, answer_of, lent_after, as_it_was}
use Rattle.protocol.specs.declared.Answer.{Answer}
use Rattle.protocol.specs.declared.Answer.TheVariants.{Done, Count, Refused}
use Rattle.table.specs.Layout.{state_size, set_at}
use Rattle.form.specs.Form.{form, Holds}
use Rattle.engine.specs.Contract.{outside}
use Rattle.serializability.specs.Theorem.{since_start, reached, WaitSet, OpenOrder, Demand3, ClosesRing, NoDeadlock}
use Rattle.xml.specs.Writing as xml
use Rattle.xml.specs.Writing.{ReadBack}
use Rattle.xml_write.specs.Contract.{writing, text_after, write_answer, write_buffer}
use Rattle.traces.specs.Exchange.{Request, Exchange, Memory, outcome, cause, value, told_granted, told_waiting, told_set}
use Rattle.traces.specs.Contract.{MakesCall, Contract}

-- lists of calls -----------------------------------------------------------------------

-- each call meets its contract, and gets the state as the call before left it; s is the state at first
abbrev pub Linked : List ℕ → List Exchange → Type 0
Linked s [] = Unit {0}
Linked s (x ∷ xs) = Contract x × (x.state.before ≡ s) × Linked x.state.after xs

-- "the list begins with a granted start; its calls follow in every order, each with any arguments, waiting and refused ones too"
pub record Trace (x : Exchange) (xs : List Exchange) : Type 0 where
  pub starts : x.request ≡ Request.start
  pub start_granted : outcome x.code ≡ 0
  pub contract : Contract x
  pub linked : Linked x.state.after xs

-- the calls of protocol that were made
pub data Made : List Exchange → List Call → Type 0 where
  no_call : Made [] []
  call_then : {x : Exchange} {xs : List Exchange} {c : Call} {cs : List Call} → MakesCall x c → Made xs cs → Made (x ∷ xs) (c ∷ cs)

-- one call, by the definitions ---------------------------------------------------------

-- the call c in the state M: number, buffers and the state left are the definition's; `writing` says what writing a document answers, and
-- `text` what it leaves in the first buffer
pub record ByDefinition (writing : ℕ → Document → Answer) (text : List ℕ → Document → List ℕ)
    (M : State) (x : Exchange) (c : Call) : Type 0 where
  pub code : x.code ≡ code_of (answer_of (writing (length x.first.before)) (next c M).outcome)
  pub first : x.first.after ≡ lent_after first_lent text (next c M).outcome x.first.before
  pub second : x.second.after ≡ lent_after second_lent as_it_was (next c M).outcome x.second.before
  pub left : Holds x.state.after (next c M).state

-- demand 1 -----------------------------------------------------------------------------

abbrev pub Same : Memory → Type 0
Same m = m.after ≡ m.before

-- the same bytes outside of some places
abbrev pub SameOutside : List (ℕ × ℕ) → Memory → Type 0
SameOutside ps m = outside ps m.after ≡ outside ps m.before

-- where the set stands that is remembered of the transaction of a step (A.6)
abbrev pub remembered_at : Request → List (ℕ × ℕ)
remembered_at (Request.step t s) = (set_at t, 2) ∷ []
remembered_at Request.start = []
remembered_at (Request.load xml) = []
remembered_at Request.write = []
remembered_at (Request.begin t) = []
remembered_at (Request.commit t) = []
remembered_at (Request.abort t) = []
remembered_at (Request.count_of n) = []

-- the places of the state that a call which is not granted may change: "a wait changes only this memory, a refusal nothing"
abbrev pub changed_in : Exchange → List (ℕ × ℕ)
changed_in x = cond (told_waiting x.code) (remembered_at x.request) []

-- the calls that only read the state
abbrev pub only_reads : Request → Bool
only_reads Request.write = true
only_reads (Request.count_of n) = true
only_reads Request.start = false
only_reads (Request.load xml) = false
only_reads (Request.begin t) = false
only_reads (Request.commit t) = false
only_reads (Request.abort t) = false
only_reads (Request.step t s) = false

-- the outcome of a call, and what it leaves, on any bytes
pub record Outcomes (x : Exchange) : Type 0 where
  -- granted, a wait, or a refusal by one of the causes
  pub outcomes : outcome x.code ≤ 2
  pub causes : outcome x.code ≡ 2 → has (cause x.code) causes ≡ true
  pub no_cause : (outcome x.code ≡ 2 → ⊥) → cause x.code ≡ 0
  -- a wait or a refusal: "left as it was: everything", but for the set that a wait leaves to be remembered
  pub still : (outcome x.code ≡ 0 → ⊥) → SameOutside (changed_in x) x.state × Same x.first × Same x.second
  -- one that only reads leaves every byte of the state, granted or not
  pub read_only : only_reads x.request ≡ true → Same x.state
  -- bytes behind the state are never touched
  pub long : length x.state.after ≡ length x.state.before
  pub behind : drop state_size x.state.after ≡ drop state_size x.state.before

-- "state bytes that are too short, or (except at start) not of the form written in docs/, give 13 before all else; a state left by a call
-- never does, and 1,048,576 bytes of state are never too short"
pub record StateBytes (x : Exchange) : Type 0 where
  pub short : length x.state.before < state_size → x.code ≡ code_of (Refused 13)
  pub unformed : form x.state.before ≡ false → (x.request ≡ Request.start → ⊥) → x.code ≡ code_of (Refused 13)
  pub enough : x.request ≡ Request.start → 1048576 ≤ length x.state.before → outcome x.code ≡ 0
  -- a granted start leaves bytes of the form, and every call keeps the form
  pub begun : x.request ≡ Request.start → outcome x.code ≡ 0 → form x.state.after ≡ true
  pub kept : form x.state.before ≡ true → form x.state.after ≡ true

-- in every state that bytes hold, reached by calls or not. A write there is by `write_answer` and `write_buffer`, which are `writing` and
-- `text_after` but for a tree against the rules, as no call leaves it: that is not expressible either
pub record Answers (x : Exchange) : Type 0 where
  pub on_states : (M : State) (c : Call) → Holds x.state.before M → MakesCall x c → ByDefinition write_answer write_buffer M x c
  -- a start needs no state before it, only bytes enough
  pub starts : x.request ≡ Request.start → state_size ≤ length x.state.before
      → ByDefinition write_answer write_buffer start_state x start

-- "every call .. refuses an unfit request with a number of document 01; a refusal or a wait changes no node, lock or lent buffer"
pub record Demand1 (x : Exchange) : Type 0 where
  pub outcomes : Outcomes x
  pub state_bytes : StateBytes x
  pub answers : Answers x

-- demand 2 -----------------------------------------------------------------------------

-- of the call c in the state M: "each step's answer, its locks and its wait set are document 01's", and so are reading and writing
pub record Demand2 (M : State) (x : Exchange) (c : Call) : Type 0 where
  -- the bytes hold M, and then the definition's next state; they are of the form, so 13 is never given for the state
  pub held : Holds x.state.before M
  pub by_definition : ByDefinition writing text_after M x c
  pub formed : form x.state.after ≡ true
  -- a call is told as granted exactly if the plain run is fed it as granted (write, which does nothing there, may be refused by 13 and 14)
  pub as_granted : (c ≡ write → ⊥) → (outcome x.code ≡ 0) ↔ (is_granted (next c M).outcome ≡ true)
  -- the number of a wait tells the set that is remembered then; no other call is told as waiting
  pub as_waiting : told_set x.code ≡ waited_for (next c M).outcome
  -- a wait names exactly the open transactions that hold a clashing mode
  pub wait_set : (t : ℕ) (s : Step) (room : Room) → c ≡ step t s room → outcome x.code ≡ 1
      → WaitSet (value x.code) t (needs s (callers_document t M.tree)) M
  -- 17 only where the step would wait and a path of waits would lead from its transaction back to itself
  pub deadlock : (t : ℕ) (s : Step) (room : Room) → c ≡ step t s room → cause x.code ≡ deadlock
      → ClosesRing t (needs s (callers_document t M.tree)) M
  -- what a granted write gave is read back as the same tree, numbered anew
  pub read_back : c ≡ write → outcome x.code ≡ 0
      → (take (value x.code) x.first.after ≡ xml.write (committed_document M)) × ReadBack (committed_document M)

-- demand 3 -----------------------------------------------------------------------------

-- "a granted write gives what writing the plain document of the calls before it gives": its length, and its bytes before the buffer's rest
abbrev pub WritesPlain : List Call → Exchange → Call → Type 0
WritesPlain before x c = c ≡ write → outcome x.code ≡ 0
    → (x.code ≡ code_of (Count (length (xml.write (plain (since_start before))))))
    × (x.first.after ≡ filled (xml.write (plain (since_start before))) x.first.before)

-- a granted step, and the exchange in which it was made
pub record GrantedStep : Type 0 where
  pub step : Step
  pub exchange : Exchange

-- the steps that a call asks for
abbrev pub asked : Call → List Step
asked start = []
asked (load i) = []
asked (begin t) = []
asked (commit t) = []
asked (abort t) = []
asked (step t s room) = s ∷ []
asked write = []
asked (count_of n) = []
asked (open_part t) = []
asked (close_part t) = []
asked (undo_part t) = []

-- those that were granted, by the code: "of their answers only which calls and steps were granted"
abbrev pub granted_in : Exchange → Call → List GrantedStep
granted_in x c = cond (told_granted x.code) (map (λ s. record { step = s; exchange = x }) (asked c)) []

-- the log (protocol's History) of a list of exchanges and of the calls that they make; the entry of a granted step has its exchange in
-- place of a value
unfoldable pub log_by_codes : Log GrantedStep → List Exchange → List Call → Log GrantedStep
log_by_codes L [] cs = L
log_by_codes L (x ∷ xs) [] = L
log_by_codes L (x ∷ xs) (c ∷ cs) = log_by_codes (logged c (told_granted x.code) (granted_in x c) L) xs cs

abbrev pub granted_steps : List Exchange → List Call → Log GrantedStep
granted_steps xs cs = log_by_codes (new_log node_0_alone) xs cs

-- the operations of a transaction, by their steps alone
abbrev pub operations : List (Operation GrantedStep) → List (Operation Step)
operations os = map (told (λ g. g.step)) os

-- the plain run of the events h is fed these operations
pub record Feeds (L : Log GrantedStep) (h : List Event) : Type 0 where
  pub initial : L.initial ≡ (fed h).initial
  pub committed : map operations L.committed ≡ (fed h).committed
  pub open_log : (t : ℕ) → operations (L.open_log t) ≡ (fed h).open_log t

-- x was answered with the value v: "what a step puts in a lent buffer belongs to its answer"
pub record Answered (v : Value) (x : Exchange) : Type 0 where
  pub code : x.code ≡ code_of (granted_answer v)
  pub first : x.first.after ≡ filled (first_lent v) x.first.before
  pub second : x.second.after ≡ filled (second_lent v) x.second.before

-- the plain run's answer is a value, with which x was answered
abbrev pub AnsweredWith : PlainAnswer → Exchange → Type 0
AnsweredWith (plain_value v) x = Answered v x
AnsweredWith unfit x = ⊥

-- one answer for each step, in order
abbrev pub AllAnswered : List PlainAnswer → List GrantedStep → Type 0
AllAnswered [] [] = Unit {0}
AllAnswered [] (g ∷ gs) = ⊥
AllAnswered (v ∷ vs) [] = ⊥
AllAnswered (v ∷ vs) (g ∷ gs) = AnsweredWith v g.exchange × AllAnswered vs gs

-- the transactions ts, one behind the other, from the document d by the plain rules: each step has there the answer it had here
abbrev pub PlainAnswers : Document → List (List (Operation GrantedStep)) → Type 0
PlainAnswers d ts = AllAnswered (plain_answers d (map operations ts)) (joined (map steps_in ts))

-- and the document that they leave
abbrev pub plain_left : Document → List (List (Operation GrantedStep)) → Document
plain_left d ts = plain_document d (map operations ts)

-- A.14 ---------------------------------------------------------------------------------

-- the state bytes behind the calls; s are those before
abbrev pub last_state : List ℕ → List Exchange → List ℕ
last_state s [] = s
last_state s (x ∷ xs) = last_state x.state.after xs

-- the plain rules run the committed transactions of the log L and then the transactions b: "each step must have the answer it had here",
-- its number and what it put in lent buffers; d is left
pub record RunsInOrder (L : Log GrantedStep) (b : List ℕ) (d : Document) : Type 0 where
  pub answers : PlainAnswers L.initial (committed_then L b)
  pub document : plain_left L.initial (committed_then L b) ≡ d

-- of the log L of granted operations, the state bytes s behind them, and the state M that these hold
pub record FinishInAnyOrder (L : Log GrantedStep) (s : List ℕ) (M : State) : Type 0 where
  -- there is an order of what is open, so that the next claim is not empty
  pub some_order : (b : List ℕ) × OpenOrder M.header.is_open b
  -- "those still open .. in an arbitrary order .. and the document left must equal the held one"
  pub runs : (b : List ℕ) → OpenOrder M.header.is_open b → RunsInOrder L b (held_document M)
  -- whoever is open may commit first: the next call is granted if it commits an open transaction, short of the limit of A.7
  pub commit_granted : (t : ℕ) → M.header.is_open t ≡ true → length L.committed < commit_limit
      → (y : Exchange) → Linked s (y ∷ []) → y.request ≡ Request.commit t → outcome y.code ≡ 0
  -- where the next calls commit what is open, in any order, and each is granted, the committed document is then the one held before
  pub commits : (b : List ℕ) → OpenOrder M.header.is_open b → (ys : List Exchange) → Linked s ys → Made ys (map commit b)
      → ((y : Exchange) → Memᴰ y ys → outcome y.code ≡ 0)
      → (N : State) → Holds (last_state s ys) N → committed_document N ≡ held_document M

-- A.6 ----------------------------------------------------------------------------------

-- the sets that are remembered behind the exchanges, by their codes; r are those before
unfoldable pub sets_by_codes : WaitSets → List Exchange → List Call → WaitSets
sets_by_codes r [] cs = r
sets_by_codes r (x ∷ xs) [] = r
sets_by_codes r (x ∷ xs) (c ∷ cs) = sets_by_codes (sets_left c (told_granted x.code) (told_set x.code) r) xs cs

-- of the sets r that the answers told, and the state M that the bytes hold behind them
pub record Remembered (r : WaitSets) (M : State) : Type 0 where
  -- "a waiting transaction's set is remembered until its next granted or waiting step, or its end"
  pub told : M.header.remembered ≡ r
  -- no ring, and "while any transaction is open, at least one of them waits for nobody in these sets"
  pub no_deadlock : NoDeadlock M

-- A.7 ----------------------------------------------------------------------------------

-- the plain run's counts: "commits since the last granted start or load count from 1"
abbrev pub counts_of : Log GrantedStep → Counts
counts_of L = counts_after L.initial (map operations L.committed)

-- of the log L of granted operations, the state bytes s behind them, and the state M that these hold
pub record Counted (L : Log GrantedStep) (s : List ℕ) (M : State) : Type 0 where
  -- "the counts must be those of the plain run": the committed document with its counts is the plain run's with its
  pub plain : committed_with_counts M ≡ with_counts (counts_of L) (plain_left L.initial L.committed)
  -- the next call "tells the count for a node of the committed document"; 7 for every other number
  pub told : (n : ℕ) (y : Exchange) → Linked s (y ∷ []) → y.request ≡ Request.count_of n
      → y.code ≡ code_of (cond (here n (plain_left L.initial L.committed)) (Count (counts_of L n)) (Refused no_such_node))
  -- "the document bear[s] 0": the next call is granted with 0 if it asks for node 0
  pub document : (y : Exchange) → Linked s (y ∷ []) → y.request ≡ Request.count_of 0 → y.code ≡ code_of (Count 0)
  -- "a commit after the 1,000,000th is refused and its transaction stays open", since a refusal changes nothing; every commit up to the
  -- 1,000,000th is done
  pub limit : (t : ℕ) → M.header.is_open t ≡ true → (y : Exchange) → Linked s (y ∷ []) → y.request ≡ Request.commit t
      → y.code ≡ code_of (cond (leb commit_limit (length L.committed)) (Refused no_more_commits) Done)

-- all of them --------------------------------------------------------------------------

-- each exchange with its call, and with the calls before it
abbrev pub Each : (List Call → Exchange → Call → Type 0) → List Call → List Exchange → List Call → Type 0
Each P before [] [] = Unit {0}
Each P before [] (c ∷ cs) = ⊥
Each P before (x ∷ xs) [] = ⊥
Each P before (x ∷ xs) (c ∷ cs) = P before x c × Each P (before ++ (c ∷ [])) xs cs

-- of the calls that x, a granted start on any bytes, and xs make
pub record Delivered (x : Exchange) (xs : List Exchange) : Type 0 where
  -- the calls that xs makes: these and no others
  pub calls : List Call
  pub made : Made xs calls
  pub only : (cs : List Call) → Made xs cs → cs ≡ calls
  -- the first start: done, and no buffer is touched
  pub start_code : x.code ≡ 0
  pub start_buffers : Same x.first × Same x.second
  pub demand_1 : (y : Exchange) → Memᴰ y (x ∷ xs) → Demand1 y
  -- the state that demand 3 speaks of is the one that the bytes hold in the end; they hold no other (`holds_one`)
  pub held : Holds (last_state x.state.after xs) (reached calls)
  pub demand_2 : Each (λ before y c. Demand2 (reached before) y c) [] xs calls
  pub demand_3 : Demand3 calls
  pub writes : Each WritesPlain [] xs calls
  -- of the numbers and the bytes themselves: the plain run is fed from arguments and codes alone, and has the answers that were given
  pub feeds : Feeds (granted_steps (x ∷ xs) (start ∷ calls)) (since_start calls)
  -- "each granted step of a committed transaction has in the plain run the answer it had here"
  pub answers : let L = granted_steps (x ∷ xs) (start ∷ calls) in PlainAnswers L.initial L.committed
  -- A.14; a list of calls may end anywhere, so this is "at every moment"
  pub open_in_any_order : let s = last_state x.state.after xs in
      (M : State) → Holds s M → FinishInAnyOrder (granted_steps (x ∷ xs) (start ∷ calls)) s M
  -- A.6, at every moment too
  pub waiting : (M : State) → Holds (last_state x.state.after xs) M
      → Remembered (sets_by_codes (λ t u. false) (x ∷ xs) (start ∷ calls)) M
  -- A.7, at every moment too
  pub counts : let s = last_state x.state.after xs in (M : State) → Holds s M → Counted (granted_steps (x ∷ xs) (start ∷ calls)) s M
