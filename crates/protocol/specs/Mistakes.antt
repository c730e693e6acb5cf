-- Examples that shut out known mistakes: document 01, "What a reviewer will try" and "Mistakes to shut out". One table, one theorem.
use Rattle.std.specs.Prelude.{◌≡◌, refl, true, false, List, [], ◌∷◌, map}
use Rattle.tree.specs.Text.{bytes}
use Rattle.tree.specs.Lists.{keep}
use Rattle.tree.specs.Forest.{rows, amend, view, place, put}
use Rattle.tree.specs.Characters.{within, utf8, characters}
use Rattle.tree.specs.Content.{spells_name, spells_text, is_name, is_text, allowed, takes, attributes_first, children_rule}
use Rattle.tree.specs.Content.{insert_at}
use Rattle.tree.specs.Document.{node_0_alone, lines, select, ruled, legal}
use Rattle.tree.specs.Steps.{C, R, U, D, I, TT, UU, placed, done, child_is, none, content_is, numbers_are, how_many}
use Rattle.tree.specs.Plain.{progress_after, plain_document}
use Rattle.tree.specs.Examples.{tree_E}
use Rattle.locks.specs.Modes.{clash}
use Rattle.locks.specs.Needs.{locks}
use Rattle.protocol.specs.State.{nodes, callers_document, document_of, grant, commit_tree, abort_tree, tree_of}
use Rattle.protocol.specs.Rings.{in_ring}
use Rattle.protocol.specs.Lent.{first_lent, second_lent}
use Rattle.protocol.specs.Calls.{loadable, begin, commit, abort, write, granted, written, waits, refused, wait_set, judged, next}
use Rattle.protocol.specs.History.{history, state_after, log_after, plain, pending}
use Rattle.protocol.specs.Examples.{Item, gives, is_pending, does, played, from_E}

abbrev pub mistakes : List (List Item)
mistakes =
    -- both transactions of P4 abort, t1 first: a deletion is not undone by position
    (does 1 (D 4) (granted done)
    ∷ does 2 (D 6) (granted done)
    ∷ gives (abort 1) (granted done)
    ∷ gives (abort 2) (granted done)
    ∷ is_pending false
    ∷ gives write (written tree_E) ∷ []) ∷
    -- an abort undoes all changes, not the first one alone
    (does 1 (U 5 (bytes "7")) (granted done)
    ∷ does 1 (UU 1 (bytes "lift") (bytes "hoist")) (granted (how_many 1))
    ∷ does 1 (I 9 2 (bytes "x") 1 4) (granted done)
    ∷ does 1 (D 2) (granted done)
    ∷ gives (abort 1) (granted done)
    ∷ gives write (written tree_E)
    ∷ does 2 (TT 0) (granted (numbers_are (0 ∷ 1 ∷ 2 ∷ 3 ∷ 4 ∷ 5 ∷ 6 ∷ [])))
    ∷ does 2 (R 5) (granted (content_is (bytes "6")))
    ∷ does 2 (R 1) (granted (content_is (bytes "lift")))
    ∷ gives (begin 1) (granted done)
    ∷ does 1 (TT 0) (granted (numbers_are (0 ∷ 1 ∷ 2 ∷ 3 ∷ 4 ∷ 5 ∷ 6 ∷ []))) ∷ []) ∷
    -- a granted U and a granted commit change something
    (does 1 (U 5 (bytes "7")) (granted done)
    ∷ is_pending true
    ∷ gives (commit 1) (granted done)
    ∷ is_pending false
    ∷ does 2 (R 5) (granted (content_is (bytes "7"))) ∷ []) ∷
    -- commit and abort end all locks: the number used again is a new transaction
    (does 1 (C 1 1) (granted (child_is 2 3))
    ∷ gives (commit 1) (granted done)
    ∷ gives (begin 1) (granted done)
    ∷ does 2 (D 6) (granted done)
    ∷ gives (abort 2) (granted done)
    ∷ gives (begin 2) (granted done)
    ∷ does 1 (C 1 1) (granted (child_is 2 3)) ∷ []) ∷
    -- "children + 1" is decided after the wait
    (does 2 (C 1 1) (granted (child_is 2 3))
    ∷ does 1 (I 9 2 (bytes "x") 1 9) (waits 2)
    ∷ gives (commit 2) (granted done)
    ∷ does 1 (I 9 2 (bytes "x") 1 9) (refused 11) ∷ []) ∷
    -- a deleted node's number is not free before the commit
    (does 1 (D 6) (granted done)
    ∷ does 2 (I 6 2 (bytes "x") 4 1) (refused 10)
    ∷ does 1 (I 6 2 (bytes "x") 4 1) (refused 10)
    ∷ gives (commit 1) (granted done)
    ∷ does 2 (I 6 2 (bytes "x") 4 1) (granted done) ∷ []) ∷
    -- LW clashes on the path above, not on the node alone
    (does 1 (D 4) (granted done)
    ∷ does 2 (R 5) (waits 1)
    ∷ does 2 (U 5 (bytes "7")) (waits 1) ∷ []) ∷
    -- UU counts each, and a granted commit makes them lasting and ends the locks
    (does 1 (UU 1 (bytes "ramp") (bytes "speed")) (granted (how_many 1))
    ∷ does 1 (UU 1 (bytes "speed") (bytes "pace")) (granted (how_many 2))
    ∷ gives (commit 1) (granted done)
    ∷ is_pending false
    ∷ does 2 (R 4) (granted (content_is (bytes "pace")))
    ∷ does 2 (UU 1 (bytes "pace") (bytes "ramp")) (granted (how_many 2)) ∷ []) ∷
    -- none only past the end, and locks of k past the end are taken all the same
    (does 1 (C 1 3) (granted (child_is 6 2))
    ∷ does 1 (C 1 4) (granted none)
    ∷ does 2 (I 9 2 (bytes "x") 1 4) (waits 1) ∷ []) ∷
    -- a node updated and then deleted comes back with the content before both
    (does 1 (U 5 (bytes "7")) (granted done)
    ∷ does 1 (D 5) (granted done)
    ∷ gives write (written tree_E)
    ∷ gives (abort 1) (granted done)
    ∷ does 2 (R 5) (granted (content_is (bytes "6"))) ∷ []) ∷
    -- an end leaves what another transaction did, and its locks
    (does 2 (U 5 (bytes "7")) (granted done)
    ∷ does 2 (I 9 2 (bytes "x") 4 2) (granted done)
    ∷ does 2 (D 3) (granted done)
    ∷ gives (commit 1) (granted done)
    ∷ gives write (written tree_E)
    ∷ gives (begin 1) (granted done)
    ∷ does 1 (R 5) (waits 2)
    ∷ gives (abort 1) (granted done)
    ∷ gives write (written tree_E)
    ∷ gives (begin 1) (granted done)
    ∷ does 1 (R 5) (waits 2)
    ∷ does 2 (TT 1) (granted (numbers_are (1 ∷ 2 ∷ 4 ∷ 5 ∷ 9 ∷ 6 ∷ [])))
    ∷ does 2 (R 5) (granted (content_is (bytes "7"))) ∷ []) ∷
    -- k counts from 1, without children that the caller deleted
    (does 1 (D 2) (granted done)
    ∷ does 1 (C 1 1) (granted (child_is 4 2))
    ∷ does 1 (I 9 2 (bytes "x") 1 2) (granted done)
    ∷ does 1 (TT 1) (granted (numbers_are (1 ∷ 4 ∷ 5 ∷ 9 ∷ 6 ∷ [])))
    ∷ does 1 (I 8 2 (bytes "x") 1 5) (refused 11) ∷ []) ∷
    -- sets of modes only grow
    (does 1 (R 5) (granted (content_is (bytes "6")))
    ∷ does 1 (TT 5) (granted (numbers_are (5 ∷ [])))
    ∷ does 2 (U 5 (bytes "7")) (waits 1)
    ∷ does 1 (I 9 2 (bytes "x") 1 4) (granted done)
    ∷ does 2 (C 1 1) (waits 1) ∷ []) ∷
    -- a wait names all who hold a clashing mode, and nobody else
    (gives (begin 3) (granted done)
    ∷ gives (begin 16) (granted done)
    ∷ does 1 (R 5) (granted (content_is (bytes "6")))
    ∷ does 16 (R 5) (granted (content_is (bytes "6")))
    ∷ does 3 (U 5 (bytes "7")) (waits 32769) ∷ []) ∷
    []

pub mistakes_hold : map from_E mistakes ≡ mistakes
unfolding tree_E played from_E state_after history log_after plain pending next judged wait_set in_ring loadable first_lent second_lent
    nodes callers_document document_of grant commit_tree abort_tree tree_of node_0_alone clash locks
    legal ruled lines select rows keep amend view place put within utf8 characters spells_name spells_text is_name is_text allowed takes
    attributes_first
    children_rule
    insert_at placed plain_document progress_after
mistakes_hold = refl
