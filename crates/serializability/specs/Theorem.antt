-- What is claimed of every list of calls that begins with a start: document 01, "The plain run" (demand 3), and document 02, A.14, A.6,
-- A.7 and A.8.
-- Only definitions of tree, locks and protocol are used; the proofs are in Laws.
use Rattle.std.specs.Prelude.{ℕ, ◌-◌, ◌<◌, ◌^◌, ◌≡◌, ◌↔◌, Bool, true, false, cond, length, eqb, leb}
use mathlib.Core.List.{List, [], ◌∷◌, ◌++◌, map, Memᴰ}
use Rattle.tree.specs.Lists.{has, distinct, joined}
use Rattle.tree.specs.Document.{Document, here, legal}
use Rattle.tree.specs.Steps.{Step, Value, done, how_many, plain_value, unfit, target}
use Rattle.tree.specs.Plain.{Operation, steps_in, before_all, progress_after, left_of, plain_document, plain_answers}
use Rattle.tree.specs.Counts.{without_counts}
use Rattle.locks.specs.Modes.{Mode, ModeSet, bit}
use Rattle.locks.specs.Needs.{Lock, needs}
use Rattle.protocol.specs.State.{State, start_state, Marked, is_transaction, transactions, nodes, in_set, WaitSets, with_set, remembering}
use Rattle.protocol.specs.State.{number_held, callers_document, held_document, all_of, document_of, committed_document}
use Rattle.protocol.specs.State.{committed_with_counts}
use Rattle.protocol.specs.Lent.{Room}
use Rattle.protocol.specs.Causes.{no_such_node, deadlock, no_more_commits, part_not_allowed}
use Rattle.protocol.specs.Rings.{AmongOpen, in_ring}
use Rattle.protocol.specs.Calls.{Call, start, load, begin, commit, abort, step, write, count_of, open_part, close_part, undo_part}
use Rattle.protocol.specs.Calls.{Outcome, granted, written, waits, refused, commit_limit, part_limit, blocks, wait_set, commits_reached}
use Rattle.protocol.specs.Calls.{next}
use Rattle.protocol.specs.History.{Event, history, state_after, is_granted, committed_then, fed, answered, plain}
use Rattle.protocol.specs.History.{plain_run_answers, plain_counts, plain_with_counts, inserted, pending, waited_for, sets_after}

-- a list that begins with a start, which is always granted, and the state that it reaches. They begin in one fixed state: start forgets the
-- state before it (`start_forgets`)
abbrev pub since_start : List Call → List Event
since_start cs = history start_state (start ∷ cs)

abbrev pub reached : List Call → State
reached cs = state_after start_state (start ∷ cs)

-- any order ----------------------------------------------------------------------------

-- the committed transactions and then the transactions b, each by its granted steps and calls on parts; one that is not open has none
abbrev pub operations_of : List Event → List ℕ → List (List (Operation Step))
operations_of h b = committed_then (fed h) b

-- the values of the steps of these transactions, one transaction behind the other
abbrev pub values_in : List (List (Operation Value)) → List Value
values_in ls = joined (map steps_in ls)

-- the answers that these steps had
abbrev pub answers_of : List Event → List ℕ → List Value
answers_of h b = values_in (committed_then (answered h) b)

-- the plain rules run the committed transactions and then b: they leave the document d, and each step has the answer it had, in undone
-- parts too
pub record Runs (h : List Event) (b : List ℕ) (d : Document) : Type 0 where
  pub document : plain_document (fed h).initial (operations_of h b) ≡ d
  pub answers : plain_answers (fed h).initial (operations_of h b) ≡ map plain_value (answers_of h b)

-- any of the open transactions, in any order, leave what the tree shows of them
abbrev pub AnyOrder : List Call → Type 0
AnyOrder cs = (b : List ℕ) → distinct b ≡ true → Runs (since_start cs) b (document_of (all_of (λ u. has u b)) (reached cs).tree)

-- b is an order of the open transactions: it has each of them, once, and no other
pub record OpenOrder (is_open : ℕ → Bool) (b : List ℕ) : Type 0 where
  pub once : distinct b ≡ true
  pub all : (u : ℕ) → has u b ≡ is_open u

-- A.14: "let the plain rules run the committed transactions in commit order and then those still open, by their granted steps and calls on
-- parts so far, in an arbitrary order.
-- Each step must have the answer it had here, and the document left must equal the held one"
abbrev pub OpenInAnyOrder : List Call → Type 0
OpenInAnyOrder cs = (b : List ℕ) → OpenOrder (reached cs).header.is_open b → Runs (since_start cs) b (held_document (reached cs))

-- what is open commits, in any order: where each commit is granted, the committed document is then the one that was held before
abbrev pub CommitInAnyOrder : List Call → Type 0
CommitInAnyOrder cs = (b : List ℕ) → OpenOrder (reached cs).header.is_open b
    → ((e : Event) → Memᴰ e (history (reached cs) (map commit b)) → is_granted e.outcome ≡ true)
    → committed_document (reached (cs ++ map commit b)) ≡ held_document (reached cs)

-- demand 3 -----------------------------------------------------------------------------

-- "a granted write gives what writing the plain document of the calls before it gives"
abbrev pub writes_plain : List Event → List Event → Type 0
writes_plain before [] = Unit {0}
writes_plain before (e ∷ es) = (e.call ≡ write → e.outcome ≡ written (plain before)) × writes_plain (before ++ (e ∷ [])) es

-- every transaction aborts; of those that are not open this is refused, and changes nothing
abbrev pub all_aborted : State → State
all_aborted M = state_after M (map abort transactions)

-- a single claim about the list
pub record Demand3 (cs : List Call) : Type 0 where
  pub held_plain : (held_document (reached cs) ≡ plain (since_start cs)) ↔ (pending (since_start cs) ≡ false)
  pub answers : plain_run_answers (since_start cs) ≡ map plain_value (values_in (answered (since_start cs)).committed)
  -- "answers unfit, as no granted step does": the plain run allows each of these steps
  pub none_unfit : Memᴰ unfit (plain_run_answers (since_start cs)) → ⊥
  pub committed : committed_document (reached cs) ≡ plain (since_start cs)
  -- "the committed one .. is the one held if they all aborted"
  pub aborted : held_document (all_aborted (reached cs)) ≡ plain (since_start cs)
  pub writes : writes_plain [] (since_start cs)

-- A.6 ----------------------------------------------------------------------------------

-- a path of waits leads from t to u: "each waiting for the next"
pub data WaitPath (r : WaitSets) : ℕ → ℕ → Type 0 where
  waits_for : {t u : ℕ} → r t u ≡ true → WaitPath r t u
  waits_then : {t v u : ℕ} → r t v ≡ true → WaitPath r v u → WaitPath r t u

-- a step of t that needs these locks would wait, and with its set in place of the remembered one a path of waits leads from t back to t
pub record ClosesRing (t : ℕ) (ls : List Lock) (M : State) : Type 0 where
  pub would_wait : wait_set t ls M ≡ 0 → ⊥
  pub ring : WaitPath (with_set t (in_set (wait_set t ls M)) M.header.remembered) t t

-- only transactions wait, and only for transactions
abbrev pub AmongTransactions : WaitSets → Type 0
AmongTransactions r = (t u : ℕ) → r t u ≡ true → (is_transaction t ≡ true) × (is_transaction u ≡ true)

-- the test for a ring finds one of any length
abbrev pub RingTest : Type 0
RingTest = (r : WaitSets) → AmongTransactions r → (t : ℕ) → (in_ring r t ≡ true) ↔ WaitPath r t t

-- "these sets" are those that the answers told: a wait's set, until the next granted or waiting step or the end
abbrev pub AsTold : Type 0
AsTold = (cs : List Call) → (reached cs).header.remembered ≡ sets_after (λ t u. false) (since_start cs)

-- 17 is given only for a ring
abbrev pub DeadlockOnly : Type 0
DeadlockOnly = (t : ℕ) (s : Step) (room : Room) (M : State) → (next (step t s room) M).outcome ≡ refused deadlock
    → ClosesRing t (needs s (callers_document t M.tree)) M

-- of the remembered sets in the state M
pub record NoDeadlock (M : State) : Type 0 where
  -- so where nothing is open, as after a start or a load, all sets are empty
  pub among_open : AmongOpen M.header
  pub no_ring : (t : ℕ) → WaitPath M.header.remembered t t → ⊥
  -- "while any transaction is open, at least one of them waits for nobody in these sets"
  pub one_free : (t : ℕ) → M.header.is_open t ≡ true
      → (u : ℕ) × (M.header.is_open u ≡ true) × ((v : ℕ) → M.header.remembered u v ≡ false)

-- A.7 ----------------------------------------------------------------------------------

-- how many transactions were committed since the last granted start or load
abbrev pub commits_in : List Event → ℕ
commits_in h = length (fed h).committed

-- the committed document with its counts is, without them, the committed document of demand 3, in every state
abbrev pub WithoutCounts : Type 0
WithoutCounts = (M : State) → without_counts (committed_with_counts M) ≡ committed_document M

-- of the list of calls: "the counts must be those of the plain run"
pub record CountsPlain (cs : List Call) : Type 0 where
  pub equal : committed_with_counts (reached cs) ≡ plain_with_counts (since_start cs)
  -- what count_of tells: the plain run's count for a node of its document, and 7 for all other numbers
  pub told : (n : ℕ) → (next (count_of n) (reached cs)).outcome
      ≡ cond (here n (plain (since_start cs))) (granted (how_many (plain_counts (since_start cs) n))) (refused no_such_node)
  -- "a loaded node and the document bear 0": the document in every state, a loaded node by `zero_counts`
  pub document : plain_counts (since_start cs) 0 ≡ 0
  -- the number of commits in the state is that of the transactions committed since the last granted start or load
  pub commits : (reached cs).header.commits ≡ commits_in (since_start cs)
  -- "a commit after the 1,000,000th is refused", and no other commit of an open transaction is
  pub limit : (t : ℕ) → (reached cs).header.is_open t ≡ true → (next (commit t) (reached cs)).outcome
      ≡ cond (leb commit_limit (commits_in (since_start cs))) (refused no_more_commits) (granted done)

-- A.8 ----------------------------------------------------------------------------------

-- how many parts of t are open by its granted calls: as many openings as the plain run keeps
abbrev pub parts_open : List Event → ℕ → ℕ
parts_open h t = length (progress_after (before_all (plain h)) ((fed h).open_log t)).openings

-- of the list of calls, for each transaction; the outcomes where it is open
pub record PartsPlain (cs : List Call) (t : ℕ) : Type 0 where
  pub depth : (reached cs).header.depth t ≡ parts_open (since_start cs) t
  -- "19 for a ninth part, or a close or undo without a part, after 3", and otherwise these calls are done
  pub open_outcome : (reached cs).header.is_open t ≡ true → (next (open_part t) (reached cs)).outcome
      ≡ cond (leb part_limit (parts_open (since_start cs) t)) (refused part_not_allowed) (granted done)
  pub close_outcome : (reached cs).header.is_open t ≡ true → (next (close_part t) (reached cs)).outcome
      ≡ cond (eqb (parts_open (since_start cs) t) 0) (refused part_not_allowed) (granted done)
  pub undo_outcome : (reached cs).header.is_open t ≡ true → (next (undo_part t) (reached cs)).outcome
      ≡ cond (eqb (parts_open (since_start cs) t) 0) (refused part_not_allowed) (granted done)
  -- "numbers inserted in an undone part stay in use until the transaction ends", as all that it inserted
  pub in_use : (m : ℕ) → has m (inserted ((fed (since_start cs)).open_log t)) ≡ true → number_held m (reached cs).tree ≡ true
  -- "to the caller they are unknown": of what t inserted, it sees what the plain rules leave
  pub known : (m : ℕ) → has m (inserted ((fed (since_start cs)).open_log t)) ≡ true
      → here m (callers_document t (reached cs).tree)
      ≡ here m (left_of (plain (since_start cs)) ((fed (since_start cs)).open_log t)).document

abbrev pub number_and_locks : Marked → ℕ × (ℕ → ModeSet)
number_and_locks a = (a.now.number, a.held)

-- the nodes that the calls on parts leave: the same, in the same places of document order, with the same locks: "locks remain"
abbrev pub NodesStay : Type 0
NodesStay = (c : Call) (t : ℕ) (M : State) → Memᴰ c (open_part t ∷ close_part t ∷ undo_part t ∷ [])
    → map number_and_locks (nodes (next c M).state.tree) ≡ map number_and_locks (nodes M.tree)

-- the states that are reached ----------------------------------------------------------

pub record Reached (M : State) : Type 0 where
  pub numbers_distinct : distinct (map (λ a. a.now.number) (nodes M.tree)) ≡ true
  pub documents_legal : (S : ℕ → Bool) → legal (document_of (all_of S) M.tree) ≡ true
  pub held_legal : legal (held_document M) ≡ true
  -- a transaction that is not open holds no lock: commit and abort empty its sets
  pub locks_open : (a : Marked) → Memᴰ a (nodes M.tree) → (u : ℕ) (m : Mode) → a.held u m ≡ true → M.header.is_open u ≡ true
  -- "the committed one .. is the one held if they all aborted"
  pub committed_if_aborted : held_document (all_aborted M) ≡ committed_document M

-- one call -----------------------------------------------------------------------------

-- what a call leaves that is not granted: a wait of t "changes only this memory, a refusal nothing"
abbrev pub left_by : Call → Outcome → State → State
left_by (step t s room) o M = cond (eqb (waited_for o) 0) M (remembering t (in_set (waited_for o)) M)
left_by start o M = M
left_by (load i) o M = M
left_by (begin t) o M = M
left_by (commit t) o M = M
left_by (abort t) o M = M
left_by write o M = M
left_by (count_of n) o M = M
left_by (open_part t) o M = M
left_by (close_part t) o M = M
left_by (undo_part t) o M = M

-- demand 1: no step was granted in a call that waits or is refused; a refusal leaves the state as it was, and a wait all but the set that
-- is remembered of its transaction
abbrev pub NotGranted : Type 0
NotGranted = (c : Call) (M : State) → is_granted (next c M).outcome ≡ false
    → ((next c M).steps ≡ []) × ((next c M).state ≡ left_by c (next c M).outcome M)

-- a granted step is the one that was asked for, and its answer is the one that the call returned
abbrev pub StepGranted : Type 0
StepGranted = (t : ℕ) (s : Step) (room : Room) (M : State) (v : Value) → (next (step t s room) M).outcome ≡ granted v
    → (next (step t s room) M).steps ≡ record { step = s; value = v } ∷ []

-- a commit of an open transaction is done, or refused by 18 where the limit is reached, and by nothing else
abbrev pub CommitOutcome : Type 0
CommitOutcome = (t : ℕ) (M : State) → is_transaction t ≡ true → M.header.is_open t ≡ true
    → (next (commit t) M).outcome ≡ cond (commits_reached commit_limit M) (refused no_more_commits) (granted done)

-- demand 2: "a 16-bit set with bit t-1 for each such transaction t, and no other", never empty
pub record WaitSet (w t : ℕ) (ls : List Lock) (M : State) : Type 0 where
  pub not_empty : w ≡ 0 → ⊥
  pub sixteen : w < 2 ^ 16
  pub bits : (u : ℕ) → is_transaction u ≡ true → bit w (u - 1) ≡ blocks t ls M u

abbrev pub Waiting : Type 0
Waiting = (t : ℕ) (s : Step) (room : Room) (M : State) (w : ℕ) → (next (step t s room) M).outcome ≡ waits w
    → WaitSet w t (needs s (callers_document t M.tree)) M

-- where no other open transaction holds a mode that clashes, a step does not wait
abbrev pub NoClashNoWait : Type 0
NoClashNoWait = (t : ℕ) (s : Step) (room : Room) (M : State)
    → ((u : ℕ) → is_transaction u ≡ true → blocks t (needs s (callers_document t M.tree)) M u ≡ false)
    → (w : ℕ) → (next (step t s room) M).outcome ≡ waits w → ⊥

-- a step on a node of the caller's document is not refused by cause 7
abbrev pub FoundNotSeven : Type 0
FoundNotSeven = (t : ℕ) (s : Step) (room : Room) (M : State) → here (target s) (callers_document t M.tree) ≡ true
    → (next (step t s room) M).outcome ≡ refused no_such_node → ⊥
