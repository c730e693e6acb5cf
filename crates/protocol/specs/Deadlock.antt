-- Transactions that wait for each other, by example: document 02, A.6. One table, one theorem.
use Rattle.std.specs.Prelude.{◌≡◌, refl, List, [], ◌∷◌, map}
use Rattle.tree.specs.Text.{bytes}
use Rattle.tree.specs.Lists.{keep}
use Rattle.tree.specs.Forest.{rows, amend, view, place, put}
use Rattle.tree.specs.Characters.{within, utf8, characters}
use Rattle.tree.specs.Content.{spells_name, spells_text, is_name, is_text, allowed, takes, attributes_first, children_rule}
use Rattle.tree.specs.Content.{insert_at}
use Rattle.tree.specs.Document.{node_0_alone, lines, select, ruled, legal}
use Rattle.tree.specs.Steps.{T, C, R, U, I, placed, done, kind_parent, child_is, none, content_is}
use Rattle.tree.specs.Examples.{tree_E}
use Rattle.locks.specs.Modes.{clash}
use Rattle.locks.specs.Needs.{locks}
use Rattle.protocol.specs.State.{nodes, callers_document, document_of, grant, commit_tree, abort_tree, tree_of}
use Rattle.protocol.specs.Rings.{in_ring}
use Rattle.protocol.specs.Lent.{first_lent, second_lent}
use Rattle.protocol.specs.Calls.{loadable, start, begin, commit, abort, granted, waits, refused, wait_set, judged, next}
use Rattle.protocol.specs.History.{history, state_after}
use Rattle.protocol.specs.Examples.{Item, gives, does, played, from_E}

-- t1 holds text 5, t2 text 3; then what follows
abbrev two_hold : List Item → List Item
two_hold l = does 1 (U 5 (bytes "7")) (granted done) ∷ does 2 (U 3 (bytes "1")) (granted done) ∷ l

-- and t3 element 6
abbrev three_hold : List Item → List Item
three_hold l = two_hold (gives (begin 3) (granted done) ∷ does 3 (U 6 (bytes "slope")) (granted done) ∷ l)

abbrev pub deadlocks : List (List Item)
deadlocks =
    -- a ring of two, which is one at every try, until one of them ends
    two_hold (does 1 (R 3) (waits 2)
    ∷ does 2 (R 5) (refused 17)
    ∷ does 2 (R 5) (refused 17)
    ∷ does 1 (R 3) (waits 2)
    ∷ gives (abort 2) (granted done)
    ∷ does 1 (R 3) (granted (content_is (bytes "2"))) ∷ []) ∷
    -- a ring of three; where each waits for the next and none for the first, there is no ring
    three_hold (does 1 (R 3) (waits 2)
    ∷ does 2 (R 6) (waits 4)
    ∷ does 3 (R 5) (refused 17)
    ∷ does 3 (T 5) (granted (kind_parent 4 4)) ∷ []) ∷
    -- the new set is put in place of the one before: t1 no longer waits for t2
    three_hold (does 1 (R 3) (waits 2)
    ∷ does 1 (R 6) (waits 4)
    ∷ does 2 (R 5) (waits 1)
    ∷ does 3 (R 3) (refused 17) ∷ []) ∷
    -- a granted step waits for nobody; a refused one leaves the set
    two_hold (does 1 (R 3) (waits 2)
    ∷ does 1 (T 1) (granted (kind_parent 2 0))
    ∷ does 2 (R 5) (waits 1)
    ∷ does 2 (R 9) (refused 7)
    ∷ does 1 (R 3) (refused 17) ∷ []) ∷
    -- so does one refused by 17: t2 waits for t3 still
    three_hold (does 2 (R 6) (waits 4)
    ∷ does 1 (R 3) (waits 2)
    ∷ does 2 (R 5) (refused 17)
    ∷ does 3 (R 3) (refused 17) ∷ []) ∷
    -- a transaction that ends is struck from all sets: its number used again is a new one
    two_hold (does 1 (R 3) (waits 2)
    ∷ gives (commit 2) (granted done)
    ∷ gives (begin 2) (granted done)
    ∷ does 2 (R 5) (waits 1) ∷ []) ∷
    two_hold (does 1 (R 3) (waits 2)
    ∷ gives (abort 2) (granted done)
    ∷ gives (begin 2) (granted done)
    ∷ does 2 (R 5) (waits 1) ∷ []) ∷
    -- a start ends all
    two_hold (does 1 (R 3) (waits 2)
    ∷ gives start (granted done)
    ∷ gives (begin 1) (granted done)
    ∷ gives (begin 2) (granted done)
    ∷ does 1 (C 0 1) (granted none)
    ∷ does 2 (I 9 2 (bytes "x") 0 1) (waits 1) ∷ []) ∷
    -- 10 before 17, and 17 before 11, in the place of the wait
    (does 1 (C 1 1) (granted (child_is 2 3))
    ∷ does 2 (U 5 (bytes "7")) (granted done)
    ∷ does 1 (R 5) (waits 2)
    ∷ does 2 (I 6 2 (bytes "x") 1 9) (refused 10)
    ∷ does 2 (I 9 2 (bytes "x") 1 9) (refused 17)
    ∷ gives (commit 1) (granted done)
    ∷ does 2 (I 9 2 (bytes "x") 1 9) (refused 11) ∷ []) ∷
    []

pub deadlocks_hold : map from_E deadlocks ≡ deadlocks
unfolding tree_E played from_E state_after history next judged wait_set in_ring loadable first_lent second_lent
    nodes callers_document document_of grant commit_tree abort_tree tree_of node_0_alone clash locks
    legal ruled lines select rows keep amend view place put within utf8 characters spells_name spells_text is_name is_text allowed takes
    attributes_first children_rule insert_at placed
deadlocks_hold = refl
