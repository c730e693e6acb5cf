-- Lists of calls, the plain run that they are compared with, and what is pending: document 01, "The plain run" and "Steps"; whom each
-- transaction waits for by the answers that it had: document 02, A.6; the plain run's counts: document 02, A.7; and parts: A.8.
use Rattle.std.specs.Prelude.{ℕ, Bool, true, false, cond, not, ◌&&◌, ◌||◌, List, [], ◌∷◌, ◌++◌, map, eqb}
use Rattle.tree.specs.Lists.{any, same}
use Rattle.tree.specs.Document.{Document, lines, here, at, node_0_alone}
use Rattle.tree.specs.Steps.{Step, Value, PlainAnswer, inserts}
use Rattle.tree.specs.Plain.{Operation, does, opens, closes, undoes, left_of, plain_document, plain_answers}
use Rattle.tree.specs.Counts.{Counts, counts_after, CountedDocument, with_counts}
use Rattle.protocol.specs.State.{State, transactions, in_set, WaitSets, with_set, struck}
use Rattle.protocol.specs.Calls.{Call, start, load, begin, commit, abort, step, write, count_of, open_part, close_part, undo_part}
use Rattle.protocol.specs.Calls.{unreadable, stands_for}
use Rattle.protocol.specs.Calls.{Outcome, granted, written, waits, refused, refused_at, StepAnswer, next}

-- a call with its outcome and the steps that were granted in it
pub record Event : Type 0 where
  pub call : Call
  pub outcome : Outcome
  pub steps : List StepAnswer

-- the call c in the state M
abbrev pub event : Call → State → Event
event c M = record { call = c; outcome = (next c M).outcome; steps = (next c M).steps }

-- calls, the first made first: what was called and answered, and the state left
unfoldable pub history : State → List Call → List Event
history M [] = []
history M (c ∷ cs) = event c M ∷ history (next c M).state cs

unfoldable pub state_after : State → List Call → State
state_after M [] = M
state_after M (c ∷ cs) = state_after (next c M).state cs

abbrev pub is_granted : Outcome → Bool
is_granted (granted v) = true
is_granted (written d) = true
is_granted (waits w) = false
is_granted (refused c) = false
is_granted (refused_at c o) = false

-- a log of the calls since the last granted start or load: the document at first, the operations of each committed transaction, in commit
-- order and each one's in call order, and those of each open one so far. A granted step is one operation, with an entry
pub record Log (E : Type 0) : Type 0 where
  pub initial : Document
  pub committed : List (List (Operation E))
  pub open_log : ℕ → List (Operation E)

abbrev pub new_log : {E : Type 0} → Document → Log E
new_log d = record { initial = d; committed = []; open_log = λ u. [] }

-- the operations of transaction t are l
abbrev pub with_log : {E : Type 0} → ℕ → List (Operation E) → (ℕ → List (Operation E)) → ℕ → List (Operation E)
with_log t l log u = cond (eqb u t) l (log u)

abbrev pub with_operations : {E : Type 0} → ℕ → List (Operation E) → Log E → Log E
with_operations t l L = record { initial = L.initial; committed = L.committed; open_log = with_log t l L.open_log }

-- further operations of t
abbrev pub with_more : {E : Type 0} → ℕ → List (Operation E) → Log E → Log E
with_more t l L = with_operations t (L.open_log t ++ l) L

-- t committed: its operations behind those of the transactions committed before
abbrev pub with_commit : {E : Type 0} → ℕ → Log E → Log E
with_commit t L = record { initial = L.initial; committed = L.committed ++ (L.open_log t ∷ []); open_log = with_log t [] L.open_log }

-- the committed transactions, in commit order, and then the transactions b, in this order: the operations of each
abbrev pub committed_then : {E : Type 0} → Log E → List ℕ → List (List (Operation E))
committed_then L b = L.committed ++ map L.open_log b

-- the log after a call: whether it was granted, and the entries of the steps that were granted in it, which are logged whatever came of
-- the whole call; one that is not granted has none today (`NotGranted` in serializability)
abbrev pub logged : {E : Type 0} → Call → Bool → List E → Log E → Log E
logged start g es L = cond g (new_log node_0_alone) L
logged (load (unreadable cause offset)) g es L = L
logged (load (stands_for d h)) g es L = cond g (new_log d) L
logged (begin t) g es L = cond g (with_operations t [] L) L
logged (commit t) g es L = cond g (with_commit t L) L
logged (abort t) g es L = cond g (with_operations t [] L) L
logged (step t s room) g es L = with_more t (map does es) L
logged write g es L = L
logged (count_of n) g es L = L
logged (open_part t) g es L = cond g (with_more t (opens ∷ []) L) L
logged (close_part t) g es L = cond g (with_more t (closes ∷ []) L) L
logged (undo_part t) g es L = cond g (with_more t (undoes ∷ []) L) L

unfoldable pub log_after : {E : Type 0} → (StepAnswer → E) → Log E → List Event → Log E
log_after entry L [] = L
log_after entry L (e ∷ es) = log_after entry (logged e.call (is_granted e.outcome) (map entry e.steps) L) es

-- the plain run is fed the arguments of the calls, and of their answers only which were granted: a step's entry is the step, which is the
-- one that was asked for (`StepGranted` in serializability, `Feeds` in traces)
abbrev pub fed : List Event → Log Step
fed h = log_after (λ x. x.step) (new_log node_0_alone) h

-- the answers that the steps had: a step's entry is its answer
abbrev pub answered : List Event → Log Value
answered h = log_after (λ x. x.value) (new_log node_0_alone) h

-- the plain run's document, and its answers to the granted steps of committed transactions
unfoldable pub plain : List Event → Document
plain h = plain_document (fed h).initial (fed h).committed

unfoldable pub plain_run_answers : List Event → List PlainAnswer
plain_run_answers h = plain_answers (fed h).initial (fed h).committed

-- the plain run's counts: the first committed transaction is commit 1, the next commit 2, and so on
unfoldable pub plain_counts : List Event → Counts
plain_counts h = counts_after (fed h).initial (fed h).committed

-- the plain run's document with its counts
abbrev pub plain_with_counts : List Event → CountedDocument
plain_with_counts h = with_counts (plain_counts h) (plain h)

-- pending --------------------------------------------------------------------------------

-- the numbers of the nodes that were inserted; those of undone parts too, which no document has any more
abbrev pub inserted : List (Operation Step) → List ℕ
inserted [] = []
inserted (does s ∷ l) = inserts s ++ inserted l
inserted (opens ∷ l) = inserted l
inserted (closes ∷ l) = inserted l
inserted (undoes ∷ l) = inserted l

-- d is the plain document, and e what an open transaction's operations leave of it by the plain rules, so that "a change that was undone
-- counts as never made": "a node inserted by an open transaction and not deleted since; a committed node (one of the plain document)
-- deleted by one; a committed node that an open transaction's granted calls leave with other content bytes than the plain document has"
abbrev pub pending_in : Document → List (Operation Step) → Document → Bool
pending_in d log e =
    any (λ m. here m e) (inserted log) ||
    any (λ r. not (here r.it.number e)) (lines d) ||
    any (λ r. here r.it.number e && not (same (at r.it.number e).it.content r.it.content)) (lines d)

-- something is pending; a transaction that is not open has no operations
unfoldable pub pending : List Event → Bool
pending h = any (λ t. pending_in (plain h) ((fed h).open_log t) (left_of (plain h) ((fed h).open_log t)).document) transactions

-- waiting ----------------------------------------------------------------------------------

-- whether a call waits
abbrev pub is_wait : Outcome → Bool
is_wait (waits w) = true
is_wait (granted v) = false
is_wait (written d) = false
is_wait (refused c) = false
is_wait (refused_at c o) = false

-- the set of a wait; 0 for other outcomes
abbrev pub waited_for : Outcome → ℕ
waited_for (waits w) = w
waited_for (granted v) = 0
waited_for (written d) = 0
waited_for (refused c) = 0
waited_for (refused_at c o) = 0

-- "a waiting transaction's set is remembered until its next granted or waiting step, or its end; a transaction that ends is struck from all
-- sets": what a call leaves of the sets r, by whether it was granted, and the set of a wait
abbrev pub sets_left : Call → Bool → ℕ → WaitSets → WaitSets
sets_left start g w r = cond g (λ t u. false) r
-- granted only where nothing is open, and so all sets are empty
sets_left (load i) g w r = r
sets_left (begin t) g w r = r
sets_left (commit t) g w r = cond g (struck t r) r
sets_left (abort t) g w r = cond g (struck t r) r
sets_left (step t s room) g w r = cond g (with_set t (λ u. false) r) (cond (eqb w 0) r (with_set t (in_set w) r))
sets_left write g w r = r
sets_left (count_of n) g w r = r
-- "no steps"
sets_left (open_part t) g w r = r
sets_left (close_part t) g w r = r
sets_left (undo_part t) g w r = r

-- the sets that the answers tell, from the sets r on
unfoldable pub sets_after : WaitSets → List Event → WaitSets
sets_after r [] = r
sets_after r (e ∷ es) = sets_after (sets_left e.call (is_granted e.outcome) (waited_for e.outcome) r) es
