-- The calls, as functions of the state to an outcome and a next state: document 01, "Steps" and "Refused calls", and document 02, A.6,
-- A.7 and A.8.
use Rattle.std.specs.Prelude.{ℕ, ◌+◌, ◌-◌, ◌^◌, ◌≡◌, Bool, true, cond, not, ◌&&◌, List, [], ◌∷◌, length, eqb, leb}
use Rattle.tree.specs.Lists.{any, keep}
use Rattle.tree.specs.Document.{Document, lines, numbers, here, legal}
use Rattle.tree.specs.Steps.{Step, Value, done, how_many, unknown, wrong_kind, wrong_content, misplaced, inserts, answer}
use Rattle.locks.specs.Modes.{against}
use Rattle.locks.specs.Needs.{Lock, needs}
use Rattle.protocol.specs.State.{is_transaction, transactions, Marked, Tree, State, nodes, has_number, number_held, callers_document}
use Rattle.protocol.specs.State.{committed_document, act, grant, in_set, with_set, start_state, with_tree, opened, remembering}
use Rattle.protocol.specs.State.{forgetting, committed, aborted, with_document, part_opened, part_closed, part_taken_back}
use Rattle.protocol.specs.Rings.{in_ring}
use Rattle.protocol.specs.Lent.{Room, has_room}
use Rattle.protocol.specs.Causes.{not_a_transaction, already_open, not_open, no_such_node}
use Rattle.protocol.specs.Causes.{kind_not_allowed, content_not_allowed, held_number}
use Rattle.protocol.specs.Causes.{place_not_allowed, no_more_nodes, short_buffer, open_at_load, deadlock}
use Rattle.protocol.specs.Causes.{no_more_commits, part_not_allowed}

-- "at most 1,024 nodes are held"
abbrev pub node_limit : ℕ
node_limit = 1024

-- "a commit after the 1,000,000th is refused"
abbrev pub commit_limit : ℕ
commit_limit = 1000000

-- "up to eight deep"
abbrev pub part_limit : ℕ
part_limit = 8

abbrev pub ascending_from : ℕ → List ℕ → Bool
ascending_from i [] = true
ascending_from i (n ∷ ns) = eqb n i && ascending_from (i + 1) ns

-- what an input can stand for: a tree by the rules, of at most `limit` nodes, numbered in document order from 0
unfoldable pub loadable : ℕ → Document → Bool
loadable limit d = legal d && leb (length (lines d)) limit && ascending_from 0 (numbers (lines d))

-- load's input: refused by cause 4, 5 or 6 at a byte offset, or standing for a document
pub data Input : Type 0 where
  unreadable : (cause offset : ℕ) → Input
  stands_for : (d : Document) → loadable node_limit d ≡ true → Input

pub data Call : Type 0 where
  start : Call
  load : (input : Input) → Call
  begin : (t : ℕ) → Call
  commit : (t : ℕ) → Call
  abort : (t : ℕ) → Call
  step : (t : ℕ) (s : Step) (room : Room) → Call
  write : Call
  -- A.7: "tells the count for a node of the committed document"
  count_of : (n : ℕ) → Call
  -- A.8: "a transaction may open a part within itself, .. and either close it .. or undo it"
  open_part : (t : ℕ) → Call
  close_part : (t : ℕ) → Call
  undo_part : (t : ℕ) → Call

-- what a call returns: granted with the answer, for write the document written; a wait with the set; a refusal with its number
pub data Outcome : Type 0 where
  granted : (value : Value) → Outcome
  written : (d : Document) → Outcome
  waits : (set : ℕ) → Outcome
  refused : (cause : ℕ) → Outcome
  refused_at : (cause offset : ℕ) → Outcome

-- a step that was granted, with its answer
pub record StepAnswer : Type 0 where
  pub step : Step
  pub value : Value

-- what a call returns, the steps that were granted in it, in order, and the state that it leaves
pub record Next : Type 0 where
  pub outcome : Outcome
  pub steps : List StepAnswer
  pub state : State

abbrev pub unchanged : Outcome → State → Next
unchanged o M = record { outcome = o; steps = []; state = M }

-- a granted call that is no step, and a granted step
abbrev pub becomes : Value → State → Next
becomes v M = record { outcome = granted v; steps = []; state = M }

abbrev pub grants_step : Step → Value → State → Next
grants_step s v M = record { outcome = granted v; steps = record { step = s; value = v } ∷ []; state = M }

-- a step of t that is not granted: "a wait changes only this memory, a refusal nothing"
abbrev pub held_back : ℕ → State → Outcome → Next
held_back t M (waits w) = record { outcome = waits w; steps = []; state = remembering t (in_set w) M }
held_back t M (granted v) = unchanged (granted v) M
held_back t M (written d) = unchanged (written d) M
held_back t M (refused c) = unchanged (refused c) M
held_back t M (refused_at c o) = unchanged (refused_at c o) M

-- a cause of refusal, or a wait, and whether it applies
abbrev pub Check : Type 0
Check = Outcome × Bool

-- the first check that applies is what the call returns, and what `stop` makes of it; where none applies, n
abbrev pub checked : (Outcome → Next) → List Check → Next → Next
checked stop [] n = n
checked stop (c ∷ cs) n = cond c.1 (stop c.0) (checked stop cs n)

-- checks that can only refuse: the first that applies changes nothing
abbrev pub refusing : List Check → State → Next → Next
refusing cs M n = checked (λ o. unchanged o M) cs n

-- waiting ------------------------------------------------------------------------------

-- u holds, on this node, a mode that clashes with one of the locks
abbrev pub clashes : List Lock → ℕ → Marked → Bool
clashes ls u a = any (λ l. has_number l.0 a && against (a.held u) l.1) ls

-- another open transaction, which holds such a mode on some node
abbrev pub blocks : ℕ → List Lock → State → ℕ → Bool
blocks t ls M u = M.header.is_open u && not (eqb u t) && any (clashes ls u) (nodes M.tree)

abbrev pub sum_of_bits : (ℕ → Bool) → List ℕ → ℕ
sum_of_bits q [] = 0
sum_of_bits q (t ∷ ts) = cond (q t) (2 ^ (t - 1)) 0 + sum_of_bits q ts

-- "a 16-bit set with bit t-1 for each such transaction t, and no other"
unfoldable pub wait_set : ℕ → List Lock → State → ℕ
wait_set t ls M = sum_of_bits (blocks t ls M) transactions

-- steps --------------------------------------------------------------------------------

-- cause 10: a number that the step inserts is held
abbrev pub number_in_use : Step → Tree → Bool
number_in_use s f = any (λ m. number_held m f) (inserts s)

-- cause 12: the step inserts a node, and as many as the limit are held
abbrev pub limit_reached : ℕ → Step → Tree → Bool
limit_reached limit s f = any (λ m. leb limit (length (nodes f))) (inserts s)

-- cause 17: "the new set, put in place of the caller's remembered one, would make a ring"; the step would wait for w
abbrev pub closes_ring : ℕ → ℕ → State → Bool
closes_ring t w M = not (eqb w 0) && in_ring (with_set t (in_set w) M.header.remembered) t

-- of a step of t, in the paper's order: 7, 8, 9, 10, wait or 17, 11, 12, 13; d is the caller's document
abbrev pub step_checks : ℕ → Step → Room → State → Document → List Check
step_checks t s room M d =
    (refused no_such_node, unknown s d)
    ∷ (refused kind_not_allowed, wrong_kind s d)
    ∷ (refused content_not_allowed, wrong_content s d)
    ∷ (refused held_number, number_in_use s M.tree)
    ∷ (refused deadlock, closes_ring t (wait_set t (needs s d) M) M)
    ∷ (waits (wait_set t (needs s d) M), not (eqb (wait_set t (needs s d) M) 0))
    ∷ (refused place_not_allowed, misplaced s d)
    ∷ (refused no_more_nodes, limit_reached node_limit s M.tree)
    ∷ (refused short_buffer, not (has_room (answer s d) room)) ∷ []

-- a granted step waits for nobody: the set of t is remembered "until its next granted or waiting step"
unfoldable pub judged : ℕ → Step → Room → State → Document → Next
judged t s room M d =
    checked (held_back t M) (step_checks t s room M d)
    (grants_step s (answer s d) (forgetting t (with_tree M (grant t (needs s d) (act t (M.header.depth t) s M.tree)))))

-- a call of a transaction: 1, then 3
abbrev pub if_open : ℕ → State → Next → Next
if_open t M n = refusing ((refused not_a_transaction, not (is_transaction t)) ∷ (refused not_open, not (M.header.is_open t)) ∷ []) M n

-- calls --------------------------------------------------------------------------------

-- load with nothing open: what the input says
abbrev pub loaded : Input → State → Next
loaded (unreadable cause offset) M = unchanged (refused_at cause offset) M
loaded (stands_for d h) M = becomes (how_many (length (lines d))) (with_document d M)

-- cause 18: as many commits as the limit were granted
abbrev pub commits_reached : ℕ → State → Bool
commits_reached limit M = leb limit M.header.commits

-- the count of the first, 0 where there is none
abbrev pub first_count : List Marked → ℕ
first_count [] = 0
first_count (a ∷ rest) = a.count

-- the count that the node numbered n bears; the numbers held are distinct, and where there is no such node it is never asked for
abbrev pub commit_count : ℕ → Tree → ℕ
commit_count n f = first_count (keep (has_number n) (nodes f))

unfoldable pub next : Call → State → Next
next start M = becomes done start_state
-- 15 before all that the input says
next (load input) M = refusing ((refused open_at_load, any M.header.is_open transactions) ∷ []) M (loaded input M)
next (begin t) M =
    refusing ((refused not_a_transaction, not (is_transaction t)) ∷ (refused already_open, M.header.is_open t) ∷ []) M
    (becomes done (opened t M))
-- 18 "after 3"
next (commit t) M =
    if_open t M (refusing ((refused no_more_commits, commits_reached commit_limit M) ∷ []) M (becomes done (committed t M)))
next (abort t) M = if_open t M (becomes done (aborted t M))
next (step t s room) M = if_open t M (judged t s room M (callers_document t M.tree))
next write M = unchanged (written (committed_document M)) M
-- 7 for a node that the committed document lacks
next (count_of n) M =
    refusing ((refused no_such_node, not (here n (committed_document M))) ∷ []) M (becomes (how_many (commit_count n M.tree)) M)
-- 19 "after 3": "for a ninth part, or a close or undo without a part"
next (open_part t) M =
    if_open t M (refusing ((refused part_not_allowed, leb part_limit (M.header.depth t)) ∷ []) M (becomes done (part_opened t M)))
next (close_part t) M =
    if_open t M (refusing ((refused part_not_allowed, eqb (M.header.depth t) 0) ∷ []) M (becomes done (part_closed t M)))
next (undo_part t) M =
    if_open t M (refusing ((refused part_not_allowed, eqb (M.header.depth t) 0) ∷ []) M (becomes done (part_taken_back t M)))
