-- The plain run, what is pending and what write takes, by example: document 01, "The plain run" and "Steps". One table, one theorem.
use Prim.Native.String.{String}
use Rattle.std.specs.Prelude.{◌≡◌, refl, true, false, List, [], ◌∷◌, map}
use Rattle.tree.specs.Text.{bytes}
use Rattle.tree.specs.Lists.{keep}
use Rattle.tree.specs.Forest.{nil, rows, amend, view, place, put}
use Rattle.tree.specs.Characters.{within, utf8, characters}
use Rattle.tree.specs.Content.{spells_name, spells_text, is_name, is_text, allowed, takes, attributes_first, children_rule}
use Rattle.tree.specs.Content.{insert_at}
use Rattle.tree.specs.Document.{Document, node_0_alone, lines, select, ruled, legal}
use Rattle.tree.specs.Steps.{T, R, U, D, I, placed, done, kind_parent, content_is}
use Rattle.tree.specs.Plain.{progress_after, plain_document}
use Rattle.tree.specs.Examples.{a_node, tree_E}
use Rattle.locks.specs.Modes.{clash}
use Rattle.locks.specs.Needs.{locks}
use Rattle.protocol.specs.State.{nodes, callers_document, document_of, grant, commit_tree, abort_tree, tree_of}
use Rattle.protocol.specs.Rings.{in_ring}
use Rattle.protocol.specs.Lent.{first_lent, second_lent}
use Rattle.protocol.specs.Calls.{loadable, start, begin, commit, abort, write}
use Rattle.protocol.specs.Calls.{granted, written, waits, refused, wait_set, judged, next}
use Rattle.protocol.specs.History.{history, state_after, log_after, plain, pending}
use Rattle.protocol.specs.Examples.{Item, gives, is_pending, plain_is, does, played, from_E}

-- E with another text 5, with nodes behind it in the element speed, and with other nodes behind that element
abbrev pub E_inside : String → Document → Document → Document
E_inside speed inside behind = a_node 0 1 ""
    (a_node 1 2 "lift"
    (a_node 2 3 "rope" (a_node 3 4 "2" nil nil)
    (a_node 4 2 "speed" (a_node 5 4 speed nil inside)
    behind))
    nil) nil

abbrev pub E_with : String → Document → Document
E_with speed behind = E_inside speed nil behind

abbrev pub ramp : Document
ramp = a_node 6 2 "ramp" nil nil

abbrev lamp : Document
lamp = a_node 9 2 "lamp" nil nil

-- t1 updates 5, t2 deletes 6, t3 inserts 9 behind 5; then what follows
abbrev three_open : List Item → List Item
three_open l = gives (begin 3) (granted done)
    ∷ does 1 (U 5 (bytes "7")) (granted done)
    ∷ does 2 (D 6) (granted done)
    ∷ does 3 (I 9 2 (bytes "lamp") 4 2) (granted done)
    ∷ l

abbrev pub plain_runs : List (List Item)
plain_runs =
    -- first it is what the load's input stands for
    (plain_is tree_E
    ∷ is_pending false ∷ []) ∷
    -- a committed node deleted by an open transaction is pending; the commit takes it out
    (does 1 (D 6) (granted done)
    ∷ is_pending true
    ∷ plain_is tree_E
    ∷ gives write (written tree_E)
    ∷ gives (commit 1) (granted done)
    ∷ is_pending false
    ∷ plain_is (E_with "6" nil) ∷ []) ∷
    -- so is one that came after the load
    (does 1 (I 9 2 (bytes "x") 1 4) (granted done)
    ∷ plain_is tree_E
    ∷ gives write (written tree_E)
    ∷ gives (commit 1) (granted done)
    ∷ is_pending false
    ∷ plain_is (E_with "6" (a_node 6 2 "ramp" nil (a_node 9 2 "x" nil nil)))
    ∷ gives write (written (E_with "6" (a_node 6 2 "ramp" nil (a_node 9 2 "x" nil nil))))
    ∷ does 2 (D 9) (granted done)
    ∷ is_pending true ∷ []) ∷
    -- "in commit order": t1 began first and made the first step, and t2 committed first
    (does 1 (T 4) (granted (kind_parent 2 1))
    ∷ does 2 (U 5 (bytes "7")) (granted done)
    ∷ gives (commit 2) (granted done)
    ∷ plain_is (E_with "7" ramp)
    ∷ does 1 (U 5 (bytes "8")) (granted done)
    ∷ is_pending true
    ∷ gives (commit 1) (granted done)
    ∷ is_pending false
    ∷ plain_is (E_with "8" ramp)
    ∷ gives write (written (E_with "8" ramp)) ∷ []) ∷
    -- "each one's granted steps in call order"
    (does 1 (U 5 (bytes "7")) (granted done)
    ∷ does 1 (U 5 (bytes "8")) (granted done)
    ∷ gives (commit 1) (granted done)
    ∷ plain_is (E_with "8" ramp) ∷ []) ∷
    -- an aborted transaction leaves no trace; its number used again is a new one
    (does 1 (U 5 (bytes "7")) (granted done)
    ∷ gives (abort 1) (granted done)
    ∷ is_pending false
    ∷ plain_is tree_E
    ∷ gives (begin 1) (granted done)
    ∷ does 1 (D 6) (granted done)
    ∷ gives (commit 1) (granted done)
    ∷ plain_is (E_with "6" nil) ∷ []) ∷
    -- a step that waits does nothing in it
    (does 1 (U 5 (bytes "7")) (granted done)
    ∷ does 2 (U 5 (bytes "8")) (waits 1)
    ∷ gives (commit 1) (granted done)
    ∷ gives (commit 2) (granted done)
    ∷ plain_is (E_with "7" ramp) ∷ []) ∷
    -- a commit makes the own changes lasting, not another's
    (does 2 (U 5 (bytes "7")) (granted done)
    ∷ gives (commit 1) (granted done)
    ∷ is_pending true
    ∷ gives write (written tree_E)
    ∷ gives (abort 2) (granted done)
    ∷ gives write (written tree_E) ∷ []) ∷
    -- a second U of a transaction does not save what the first wrote
    (does 1 (U 5 (bytes "7")) (granted done)
    ∷ does 1 (U 5 (bytes "8")) (granted done)
    ∷ gives write (written tree_E)
    ∷ gives (abort 1) (granted done)
    ∷ does 2 (R 5) (granted (content_is (bytes "6"))) ∷ []) ∷
    -- "first node 0 alone": a start ends what is open and forgets what was committed
    (does 1 (U 5 (bytes "7")) (granted done)
    ∷ gives (commit 1) (granted done)
    ∷ does 2 (D 6) (granted done)
    ∷ gives start (granted done)
    ∷ plain_is node_0_alone
    ∷ is_pending false
    ∷ gives (commit 2) (refused 3) ∷ []) ∷
    -- A.14: whoever is open may commit first, and the same document is left
    three_open (gives (commit 3) (granted done)
    ∷ plain_is (E_inside "6" lamp ramp)
    ∷ gives (commit 1) (granted done)
    ∷ plain_is (E_inside "7" lamp ramp)
    ∷ gives (commit 2) (granted done)
    ∷ is_pending false
    ∷ plain_is (E_inside "7" lamp nil) ∷ []) ∷
    three_open (gives (commit 2) (granted done)
    ∷ plain_is (E_inside "6" nil nil)
    ∷ gives (commit 1) (granted done)
    ∷ plain_is (E_inside "7" nil nil)
    ∷ gives (commit 3) (granted done)
    ∷ is_pending false
    ∷ plain_is (E_inside "7" lamp nil) ∷ []) ∷
    []

pub plain_runs_hold : map from_E plain_runs ≡ plain_runs
unfolding tree_E played from_E state_after history log_after plain pending next judged wait_set in_ring loadable first_lent second_lent
    nodes callers_document document_of grant commit_tree abort_tree tree_of node_0_alone clash locks
    legal ruled lines select rows keep amend view place put within utf8 characters spells_name spells_text is_name is_text allowed takes
    attributes_first children_rule insert_at placed plain_document progress_after
plain_runs_hold = refl
