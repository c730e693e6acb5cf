-- The order of causes: document 01, "Refused calls": "Order: 1, 2 or 3, 7, 8, 9, 10, wait, 11, 12, 13. Load: 15, then the earliest offset".
-- The theorem of two tables (specs/Refusals); where a line says "before", both causes apply to the call. Load's offsets are in
-- xml/proofs/Laws/Examples.
use Rattle.std.specs.Prelude.{◌≡◌, refl, true, ◌&&◌, List, [], ◌∷◌, map, length, leb}
use Rattle.tree.specs.Lists.{keep}
use Rattle.tree.specs.Forest.{rows, amend, view, place, put}
use Rattle.tree.specs.Characters.{within, utf8, characters}
use Rattle.tree.specs.Content.{spells_name, spells_text, is_name, is_text, allowed, takes, attributes_first, children_rule}
use Rattle.tree.specs.Content.{insert_at}
use Rattle.tree.specs.Document.{Document, node_0_alone, lines, numbers, select, ruled, rooted, legal}
use Rattle.tree.specs.Steps.{placed}
use Rattle.tree.specs.Examples.{tree_E}
use Rattle.locks.specs.Modes.{clash}
use Rattle.locks.specs.Needs.{locks}
use Rattle.protocol.specs.State.{start_state, nodes, callers_document, document_of, grant, commit_tree, abort_tree, tree_of}
use Rattle.protocol.specs.Rings.{in_ring}
use Rattle.protocol.specs.Lent.{first_lent, second_lent}
use Rattle.protocol.specs.Calls.{node_limit, ascending_from, loadable, stands_for, Call, start, load, begin}
use Rattle.protocol.specs.Calls.{wait_set, judged, next}
use Rattle.protocol.specs.Answers.{lent_after}
use Rattle.protocol.specs.History.{history, state_after}
use Rattle.protocol.specs.Examples.{played, from_E}
use Rattle.protocol.proofs.Laws.Ascending.{ascending_distinct}
use Rattle.protocol.specs.Refusals.{refusals, full, at_the_limit}

counted_loadable : (d : Document) → (rooted d && ruled d) ≡ true → leb (length (lines d)) node_limit ≡ true
    → ascending_from 0 (numbers (lines d)) ≡ true → loadable node_limit d ≡ true
unfolding loadable legal
counted_loadable d r l a = rw (r, ascending_distinct 0 (numbers (lines d)) a, l) a

pub full_loadable : loadable node_limit full ≡ true
unfolding full ruled lines rows within utf8 characters spells_name spells_text is_name is_text allowed takes attributes_first children_rule
full_loadable = counted_loadable full refl refl refl

abbrev filling : List Call
filling = start ∷ load (stands_for full full_loadable) ∷ begin 1 ∷ begin 2 ∷ []

pub refusals_hold :
    (map from_E refusals ≡ refusals) × (played (state_after start_state filling) (history start_state filling) at_the_limit ≡ at_the_limit)
unfolding tree_E played from_E state_after history lent_after next judged wait_set in_ring loadable first_lent second_lent full
    nodes callers_document document_of grant commit_tree abort_tree tree_of node_0_alone clash locks
    legal ruled lines select rows keep amend view place put within utf8 characters spells_name spells_text is_name is_text allowed takes
    attributes_first children_rule insert_at placed
refusals_hold = (refl, refl)
