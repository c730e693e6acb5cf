-- Which commit last touched a node, by example: document 02, A.7. One table, one theorem.
use Rattle.std.specs.Prelude.{ℕ, ◌≡◌, refl, false, List, [], ◌∷◌, map}
use Rattle.tree.specs.Text.{bytes}
use Rattle.tree.specs.Lists.{keep}
use Rattle.tree.specs.Forest.{rows, amend, view, place, put}
use Rattle.tree.specs.Characters.{within, utf8, characters}
use Rattle.tree.specs.Content.{spells_name, spells_text, is_name, is_text, allowed, takes, attributes_first, children_rule}
use Rattle.tree.specs.Content.{insert_at}
use Rattle.tree.specs.Document.{node_0_alone, lines, select, ruled, legal}
use Rattle.tree.specs.Steps.{R, U, D, I, UU, placed, done, content_is, how_many}
use Rattle.tree.specs.Plain.{progress_after, plain_document}
use Rattle.tree.specs.Counts.{counts_from}
use Rattle.tree.specs.Examples.{tree_E}
use Rattle.locks.specs.Modes.{clash}
use Rattle.locks.specs.Needs.{locks}
use Rattle.protocol.specs.State.{State, start_state, nodes, callers_document, document_of, grant, commit_tree, abort_tree, undo_tree, tree_of}
use Rattle.protocol.specs.State.{with_header, with_commits}
use Rattle.protocol.specs.Rings.{in_ring}
use Rattle.protocol.specs.Lent.{first_lent, second_lent}
use Rattle.protocol.specs.Calls.{loadable, stands_for, start, load, begin, commit, abort, count_of, open_part, undo_part, granted, refused}
use Rattle.protocol.specs.Calls.{wait_set, judged, next}
use Rattle.protocol.specs.History.{history, state_after, log_after, plain, plain_counts, pending}
use Rattle.protocol.specs.Examples.{Item, gives, is_pending, plain_count_is, does, played, opening, from_E, E_loadable}

-- node n of the committed document bears this count, in the engine and in the plain run
abbrev bears : ℕ → ℕ → List Item → List Item
bears n k l = gives (count_of n) (granted (how_many k)) ∷ plain_count_is n k ∷ l

-- the committed document has no node n
abbrev lacks : ℕ → List Item → List Item
lacks n l = gives (count_of n) (refused 7) ∷ l

abbrev commits : ℕ → List Item → List Item
commits t l = gives (commit t) (granted done) ∷ l

abbrev begins : ℕ → List Item → List Item
begins t l = gives (begin t) (granted done) ∷ l

abbrev pub countings : List (List Item)
countings =
    -- a loaded node and the document bear 0
    bears 0 0 (bears 5 0 (lacks 9 [])) ∷
    -- an update counts at its commit, "an update with the same bytes included"; reading counts for nothing
    (does 1 (U 5 (bytes "6")) (granted done)
    ∷ does 1 (R 3) (granted (content_is (bytes "2")))
    ∷ bears 5 0 (commits 1 (bears 5 1 (bears 3 0 (bears 4 0 (is_pending false ∷ [])))))) ∷
    -- the commits are counted in their order, not in that of the steps; one that changed nothing counts too
    (does 1 (U 5 (bytes "7")) (granted done)
    ∷ does 2 (U 3 (bytes "1")) (granted done)
    ∷ commits 2 (commits 1 (bears 3 1 (bears 5 2 (begins 3 (commits 3 (begins 1
    (does 1 (U 3 (bytes "2")) (granted done) ∷ commits 1 (bears 3 4 (bears 5 2 [])))))))))) ∷
    -- an aborted update leaves the count, and an abort is not counted
    (does 1 (U 5 (bytes "7")) (granted done)
    ∷ commits 1 (does 2 (U 5 (bytes "8")) (granted done)
    ∷ gives (abort 2) (granted done)
    ∷ bears 5 1 (begins 2 (does 2 (U 3 (bytes "1")) (granted done) ∷ commits 2 (bears 3 2 (bears 5 1 [])))))) ∷
    -- an inserted node: unknown before its commit; an update of it by another
    (does 1 (I 9 2 (bytes "x") 1 4) (granted done)
    ∷ lacks 9 (commits 1 (bears 9 1 (bears 1 0 (does 2 (U 9 (bytes "y")) (granted done) ∷ bears 9 1 (commits 2 (bears 9 2 []))))))) ∷
    -- UU touches what it renames, with equal names too, and nothing else
    (does 1 (UU 0 (bytes "speed") (bytes "speed")) (granted (how_many 1))
    ∷ commits 1 (bears 4 1 (bears 1 0 (bears 5 0 (bears 6 0 []))))) ∷
    -- a node that an open transaction deleted is told, until the commit; its number used again is a new node
    (does 1 (D 4) (granted done)
    ∷ bears 4 0 (bears 5 0 (commits 1 (lacks 4 (lacks 5 (bears 1 0
    (does 2 (I 4 2 (bytes "x") 1 2) (granted done) ∷ lacks 4 (commits 2 (bears 4 2 []))))))))) ∷
    -- what a transaction inserted and deleted is not there
    (does 1 (I 9 2 (bytes "x") 1 4) (granted done)
    ∷ does 1 (D 9) (granted done)
    ∷ commits 1 (lacks 9 [])) ∷
    -- load and start count from 1 again
    (does 1 (U 5 (bytes "7")) (granted done)
    ∷ commits 1 (commits 2 (bears 5 1 (gives (load (stands_for tree_E E_loadable)) (granted (how_many 7))
    ∷ bears 5 0 (begins 1 (does 1 (U 5 (bytes "7")) (granted done) ∷ commits 1 (bears 5 1
    (gives start (granted done) ∷ bears 0 0 (lacks 5 [])))))))))
    ∷ []

pub countings_hold : map from_E countings ≡ countings
unfolding tree_E played from_E state_after history log_after plain plain_counts counts_from pending next judged wait_set
    in_ring loadable first_lent second_lent
    nodes callers_document document_of grant commit_tree abort_tree tree_of node_0_alone clash locks
    legal ruled lines select rows keep amend view place put within utf8 characters spells_name spells_text is_name is_text allowed takes
    attributes_first children_rule insert_at placed plain_document progress_after
countings_hold = refl

-- one commit short of the limit; the calls before are those of the opening
abbrev nearly_full : State
nearly_full = let M = state_after start_state opening in with_header (with_commits 999999 M.header) M

-- "a commit after the 1,000,000th is refused and its transaction stays open", its parts too: 1 and 3 before 18, abort is granted, and after a load
-- commits are granted again
abbrev last_commits : List Item
last_commits =
    does 1 (U 5 (bytes "7")) (granted done)
    ∷ commits 1 (gives (count_of 5) (granted (how_many 1000000))
    ∷ gives (open_part 2) (granted done)
    ∷ does 2 (U 3 (bytes "1")) (granted done)
    ∷ gives (commit 2) (refused 18)
    ∷ gives (commit 1) (refused 3)
    ∷ gives (commit 17) (refused 1)
    ∷ does 2 (R 3) (granted (content_is (bytes "1")))
    ∷ gives (undo_part 2) (granted done)
    ∷ does 2 (R 3) (granted (content_is (bytes "2")))
    ∷ gives (abort 2) (granted done)
    ∷ gives (count_of 3) (granted (how_many 0))
    ∷ gives (load (stands_for tree_E E_loadable)) (granted (how_many 7))
    ∷ begins 1 (commits 1 []))

pub last_commits_hold : played nearly_full [] last_commits ≡ last_commits
unfolding tree_E played state_after next judged wait_set in_ring loadable first_lent second_lent
    nodes callers_document document_of grant commit_tree abort_tree undo_tree tree_of node_0_alone clash locks
    legal ruled lines select rows keep amend view place put within utf8 characters spells_name spells_text is_name is_text allowed takes
    attributes_first children_rule insert_at placed
last_commits_hold = refl
