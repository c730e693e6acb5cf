-- The lines P1 to P9 of document 01, "Examples on one tree", as one table, and what the definitions give for it.
use Rattle.std.specs.Prelude.{ℕ, ◌≡◌, refl, Bool, true, false, List, [], ◌∷◌, ◌++◌, map}
use Rattle.tree.specs.Text.{bytes}
use Rattle.tree.specs.Lists.{keep}
use Rattle.tree.specs.Forest.{rows, amend, view, place, put}
use Rattle.tree.specs.Characters.{within, utf8, characters}
use Rattle.tree.specs.Content.{spells_name, spells_text, is_name, is_text, allowed, takes, attributes_first, children_rule}
use Rattle.tree.specs.Content.{insert_at}
use Rattle.tree.specs.Document.{Document, node_0_alone, lines, select, ruled, legal}
use Rattle.tree.specs.Steps.{Step, T, C, R, U, D, I, TT, RR, placed, done, kind_parent, child_is, content_is, numbers_are, cells_are}
use Rattle.tree.specs.Plain.{progress_after, plain_document}
use Rattle.tree.specs.Examples.{tree_E}
use Rattle.locks.specs.Modes.{clash}
use Rattle.locks.specs.Needs.{locks}
use Rattle.protocol.specs.State.{State, start_state, nodes, callers_document, document_of, grant, commit_tree, abort_tree, tree_of}
use Rattle.protocol.specs.Rings.{in_ring}
use Rattle.protocol.specs.Lent.{first_lent, second_lent}
use Rattle.protocol.specs.Calls.{node_limit, loadable, stands_for, Call, start, load, begin, abort, step, Outcome, granted, waits}
use Rattle.protocol.specs.Calls.{refused, wait_set, judged, next}
use Rattle.protocol.specs.Answers.{lent_after, as_it_was}
use Rattle.protocol.specs.History.{Event, event, history, state_after, log_after, plain, plain_counts, pending}

pub E_loadable : loadable node_limit tree_E ≡ true
unfolding tree_E loadable legal ruled lines rows within utf8 characters spells_name spells_text is_name is_text allowed takes
    attributes_first children_rule
E_loadable = refl

-- a line of an example: a call and what it gives, and what a first lent buffer holds before and after it; whether something is pending;
-- the plain run's document, and its count of a node
pub data Item : Type 0 where
  gives : (call : Call) (outcome : Outcome) → Item
  fills : (call : Call) (outcome : Outcome) (before after : List ℕ) → Item
  is_pending : (answer : Bool) → Item
  plain_is : (document : Document) → Item
  plain_count_is : (n count : ℕ) → Item

-- t does s, with room for every answer
abbrev pub does : ℕ → Step → Outcome → Item
does t s o = gives (step t s (record { first = 64; second = 1024 })) o

-- "each begins from E anew, with t1 and t2 open"
abbrev pub opening : List Call
opening = start ∷ load (stands_for tree_E E_loadable) ∷ begin 1 ∷ begin 2 ∷ []

-- the example with the outcomes, buffers, answers about what is pending, plain documents and counts that the definitions give; h is what
-- was called before
unfoldable pub played : State → List Event → List Item → List Item
played M h [] = []
played M h (gives c o ∷ l) =
    gives c (next c M).outcome ∷ played (next c M).state (h ++ (event c M ∷ [])) l
played M h (fills c o b b' ∷ l) =
    fills c (next c M).outcome b (lent_after first_lent as_it_was (next c M).outcome b)
    ∷ played (next c M).state (h ++ (event c M ∷ [])) l
played M h (is_pending b ∷ l) = is_pending (pending h) ∷ played M h l
played M h (plain_is d ∷ l) = plain_is (plain h) ∷ played M h l
played M h (plain_count_is n k ∷ l) = plain_count_is n (plain_counts h n) ∷ played M h l

-- an example after the opening calls
unfoldable pub from_E : List Item → List Item
from_E l = played (state_after start_state opening) (history start_state opening) l

-- "element 9 under 1", as the k-th child
abbrev nine_at : ℕ → Step
nine_at k = I 9 2 (bytes "x") 1 k

abbrev pub P : List (List Item)
P =
    -- P1
    (does 1 (U 5 (bytes "7")) (granted done)
    ∷ does 2 (R 5) (waits 1)
    ∷ gives (abort 1) (granted done)
    ∷ does 2 (R 5) (granted (content_is (bytes "6"))) ∷ []) ∷
    -- P2
    (does 1 (T 4) (granted (kind_parent 2 1))
    ∷ does 2 (U 4 (bytes "pace")) (granted done) ∷ []) ∷
    -- P3
    (does 1 (C 1 1) (granted (child_is 2 3))
    ∷ does 2 (D 6) (waits 1) ∷ []) ∷
    -- P4
    (does 1 (D 4) (granted done)
    ∷ does 2 (D 6) (granted done)
    ∷ does 1 (C 1 1) (waits 2) ∷ []) ∷
    -- P5, and with TT(1)
    (does 1 (RR 1) (granted (cells_are
    ((1, bytes "lift") ∷ (2, bytes "rope") ∷ (3, bytes "2") ∷ (4, bytes "speed") ∷ (5, bytes "6") ∷ (6, bytes "ramp") ∷ [])))
    ∷ does 2 (U 5 (bytes "7")) (waits 1) ∷ []) ∷
    (does 1 (TT 1) (granted (numbers_are (1 ∷ 2 ∷ 3 ∷ 4 ∷ 5 ∷ 6 ∷ [])))
    ∷ does 2 (U 5 (bytes "7")) (granted done) ∷ []) ∷
    -- P6
    (does 1 (nine_at 0) (refused 11) ∷ []) ∷
    (does 1 (nine_at 1) (refused 11) ∷ []) ∷
    (does 1 (nine_at 5) (refused 11) ∷ []) ∷
    (does 1 (nine_at 2) (granted done) ∷ []) ∷
    (does 1 (nine_at 4) (granted done) ∷ []) ∷
    -- P7
    (does 1 (D 4) (granted done)
    ∷ does 1 (R 5) (refused 7) ∷ []) ∷
    -- P8
    (does 1 (nine_at 4) (granted done)
    ∷ is_pending true
    ∷ does 1 (D 9) (granted done)
    ∷ is_pending false ∷ []) ∷
    (does 1 (U 5 (bytes "6")) (granted done)
    ∷ is_pending false ∷ []) ∷
    -- P9
    (does 1 (I 6 2 (bytes "x") 1 4) (refused 10) ∷ []) ∷
    (does 1 (I 0 2 (bytes "x") 1 4) (refused 10) ∷ []) ∷
    []

pub P_holds : map from_E P ≡ P
unfolding tree_E played from_E state_after history log_after plain pending next judged wait_set in_ring loadable first_lent second_lent
    nodes callers_document document_of grant commit_tree abort_tree tree_of node_0_alone clash locks
    legal ruled lines select rows keep amend view place put within utf8 characters spells_name spells_text is_name is_text allowed takes
    attributes_first
    children_rule
    insert_at placed plain_document progress_after
P_holds = refl
