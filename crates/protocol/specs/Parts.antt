-- Parts of a transaction, by example: document 02, A.8. One table, one theorem.
use Rattle.std.specs.Prelude.{ℕ, ◌≡◌, refl, true, false, List, [], ◌∷◌, ◌++◌, map, replicate}
use Rattle.tree.specs.Text.{bytes}
use Rattle.tree.specs.Lists.{keep}
use Rattle.tree.specs.Forest.{rows, amend, view, place, put}
use Rattle.tree.specs.Characters.{within, utf8, characters}
use Rattle.tree.specs.Content.{spells_name, spells_text, is_name, is_text, allowed, takes, attributes_first, children_rule}
use Rattle.tree.specs.Content.{insert_at}
use Rattle.tree.specs.Document.{node_0_alone, lines, select, ruled, legal}
use Rattle.tree.specs.Steps.{T, C, R, U, D, I, TT, UU, placed, done, kind_parent, none, content_is, numbers_are, how_many}
use Rattle.tree.specs.Plain.{progress_after, plain_document}
use Rattle.tree.specs.Counts.{counts_from}
use Rattle.tree.specs.Examples.{tree_E}
use Rattle.locks.specs.Modes.{clash}
use Rattle.locks.specs.Needs.{locks}
use Rattle.protocol.specs.State.{nodes, callers_document, document_of, grant, commit_tree, abort_tree, undo_tree, join_tree, tree_of}
use Rattle.protocol.specs.Rings.{in_ring}
use Rattle.protocol.specs.Lent.{first_lent, second_lent}
use Rattle.protocol.specs.Calls.{loadable, begin, commit, abort, write, count_of, open_part, close_part, undo_part}
use Rattle.protocol.specs.Calls.{granted, written, waits, refused, wait_set, judged, next}
use Rattle.protocol.specs.History.{history, state_after, log_after, plain, plain_counts, pending}
use Rattle.protocol.specs.Examples.{Item, gives, is_pending, plain_is, plain_count_is, does, played, from_E}
use Rattle.protocol.specs.PlainRun.{E_with, ramp}

abbrev opens : List Item → List Item
opens l = gives (open_part 1) (granted done) ∷ l

abbrev closes : List Item → List Item
closes l = gives (close_part 1) (granted done) ∷ l

abbrev undoes : List Item → List Item
undoes l = gives (undo_part 1) (granted done) ∷ l

-- t1 writes text 5, and reads it
abbrev sets : ℕ → List Item → List Item
sets b l = does 1 (U 5 (b ∷ [])) (granted done) ∷ l

abbrev reads : ℕ → List Item → List Item
reads b l = does 1 (R 5) (granted (content_is (b ∷ []))) ∷ l

abbrev commits : List Item → List Item
commits l = gives (commit 1) (granted done) ∷ l

-- the committed node 5 bears this count, in the engine and in the plain run
abbrev bears : ℕ → List Item → List Item
bears k l = gives (count_of 5) (granted (how_many k)) ∷ plain_count_is 5 k ∷ l

abbrev pub partings : List (List Item)
partings =
    -- an undo takes back insertions, deletions and updates, and restores a deleted node in its place
    opens (does 1 (D 2) (granted done)
    ∷ does 1 (I 9 2 (bytes "x") 1 1) (granted done)
    ∷ sets 55 (is_pending true ∷ undoes (is_pending false
    ∷ reads 54 (does 1 (TT 1) (granted (numbers_are (1 ∷ 2 ∷ 3 ∷ 4 ∷ 5 ∷ 6 ∷ []))) ∷ commits (plain_is tree_E
    ∷ gives write (written tree_E) ∷ bears 0 [])))))
    ∷
    -- the number of an undone insertion stays in use until the end: unknown to t1, which passes over the node, and t2 waits for it, after 8
    -- and 9
    opens (does 1 (I 9 2 (bytes "x") 1 4) (granted done)
    ∷ undoes (does 1 (T 9) (refused 7)
    ∷ does 1 (C 1 4) (granted none)
    ∷ does 1 (UU 0 (bytes "x") (bytes "y")) (granted (how_many 0))
    ∷ does 1 (I 9 2 (bytes "x") 1 4) (refused 10)
    ∷ does 2 (I 9 2 (bytes "x") 4 1) (refused 10)
    ∷ does 2 (I 8 1 (bytes "x") 9 1) (refused 8)
    ∷ does 2 (U 9 (bytes "<")) (refused 9)
    ∷ gives (count_of 9) (refused 7)
    ∷ does 2 (T 9) (waits 1)
    ∷ commits (does 2 (T 9) (refused 7) ∷ does 2 (I 9 2 (bytes "x") 4 1) (granted done) ∷ [])))
    ∷
    opens (does 1 (I 9 2 (bytes "x") 1 4) (granted done)
    ∷ undoes (gives (abort 1) (granted done) ∷ does 2 (I 9 2 (bytes "x") 4 1) (granted done) ∷ []))
    ∷
    -- a part that is closed is one with what surrounds it: what was saved first is what an undo, or an abort, brings back
    opens (sets 55 (opens (sets 56 (closes (reads 56 (undoes (reads 54 [])))))))
    ∷
    opens (opens (sets 55 (closes (sets 56 (undoes (reads 54 []))))))
    ∷
    opens (sets 55 (opens (sets 56 (undoes (reads 55 (closes (commits (plain_is (E_with "7" ramp) ∷ bears 1 []))))))))
    ∷
    sets 55 (opens (sets 56 (closes (gives (abort 1) (granted done) ∷ does 2 (R 5) (granted (content_is (bytes "6"))) ∷ []))))
    ∷
    -- what an inner part deletes of what an outer one inserted is there again, until the outer one is undone
    opens (does 1 (I 9 2 (bytes "x") 1 4) (granted done)
    ∷ opens (does 1 (D 9) (granted done)
    ∷ undoes (does 1 (T 9) (granted (kind_parent 2 1)) ∷ undoes (does 1 (T 9) (refused 7) ∷ []))))
    ∷
    opens (does 1 (I 9 2 (bytes "x") 1 4) (granted done)
    ∷ opens (does 1 (D 9) (granted done) ∷ closes (undoes (does 1 (T 9) (refused 7) ∷ is_pending false ∷ commits (plain_is tree_E ∷ [])))))
    ∷
    -- "locks remain", and nothing of the others is taken back
    (does 2 (U 3 (bytes "1")) (granted done)
    ∷ opens (sets 55 (undoes (does 2 (U 5 (bytes "8")) (waits 1)
    ∷ gives (commit 2) (granted done)
    ∷ does 1 (R 3) (granted (content_is (bytes "1"))) ∷ []))))
    ∷
    -- calls on parts are no steps: the set that t2 waits for is still remembered
    (sets 55 (does 2 (U 3 (bytes "1")) (granted done)
    ∷ does 2 (R 5) (waits 1)
    ∷ gives (open_part 2) (granted done)
    ∷ gives (undo_part 2) (granted done)
    ∷ does 1 (R 3) (refused 17) ∷ []))
    ∷
    -- commit closes open parts, abort undoes them; a count is of what was not undone
    opens (sets 55 (commits (plain_is (E_with "7" ramp) ∷ bears 1 [])))
    ∷
    opens (sets 55 (undoes (commits (plain_is tree_E ∷ bears 0 []))))
    ∷
    sets 55 (opens (sets 56 (gives (abort 1) (granted done) ∷ is_pending false ∷ [])))
    ∷
    -- 19 for a ninth part, or a close or undo without one, after 1 and 3; a transaction that begins has none
    (gives (close_part 1) (refused 19) ∷ gives (undo_part 1) (refused 19) ∷ gives (undo_part 3) (refused 3)
    ∷ gives (open_part 17) (refused 1)
    ∷ gives (close_part 17) (refused 1)
    ∷ (replicate 8 (gives (open_part 1) (granted done)) ++ (gives (open_part 1) (refused 19)
    ∷ gives (open_part 2) (granted done)
    ∷ (replicate 8 (gives (close_part 1) (granted done)) ++ (gives (close_part 1) (refused 19)
    ∷ opens (commits (gives (begin 1) (granted done) ∷ gives (undo_part 1) (refused 19) ∷ [])))))))
    ∷ []

pub partings_hold : map from_E partings ≡ partings
unfolding tree_E played from_E state_after history log_after plain plain_counts counts_from pending next judged wait_set in_ring loadable
    first_lent second_lent nodes callers_document document_of grant commit_tree abort_tree undo_tree join_tree tree_of node_0_alone clash
    locks legal ruled lines select rows keep amend view place put within utf8 characters spells_name spells_text is_name is_text allowed
    takes attributes_first children_rule insert_at placed plain_document progress_after
partings_hold = refl
