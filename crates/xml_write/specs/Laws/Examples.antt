-- Write's refusals in order: "Write: 14, 13", by example. One table, one theorem.
use Rattle.std.specs.Prelude.{ℕ, ◌≡◌, refl, List, [], ◌∷◌, map}
use Prim.Native.String.{String}
use Rattle.tree.specs.Forest.{nil, view}
use Rattle.tree.specs.Content.{takes, attributes_first, children_rule}
use Rattle.tree.specs.Document.{Document, node_0_alone, ordered}
use Rattle.tree.specs.Examples.{a_node, tree_E}
use Rattle.protocol.specs.declared.Answer.{Answer}
use Rattle.protocol.specs.declared.Answer.TheVariants.{Count, Refused}
use Rattle.form.specs.Form.{form}
use Rattle.xml.specs.Bytes.{used}
use Rattle.xml.specs.Shape.{shape}
use Rattle.xml.specs.Writing.{escaped, attributes, contents, write, repeats, neighbouring_texts, expressible}
use Rattle.xml_write.specs.Contract.{writing, write_answer, Written}

-- an element with two neighbours of a kind and a content in it
abbrev twice : ℕ → String → Document
twice kind content = a_node 0 1 "" (a_node 1 2 "a" (a_node 2 kind content nil (a_node 3 kind content nil nil)) nil) nil

-- the room that is lent, the committed document, and the answer
abbrev Row : Type 0
Row = ℕ × Document × Answer

abbrev pub write_refusals : List Row
write_refusals =
    -- 14 before 13: no root, two attributes with one name, two neighbouring texts, and no room
    (0, node_0_alone, Refused 14)
    ∷ (0, twice 3 "b", Refused 14)
    ∷ (0, twice 4 "b", Refused 14)
    -- with room 14 all the same
    ∷ (65536, node_0_alone, Refused 14)
    -- tree E takes 84 bytes
    ∷ (0, tree_E, Refused 13)
    ∷ (83, tree_E, Refused 13)
    ∷ (84, tree_E, Count 84)
    ∷ []

pub write_refusals_hold : map (λ (x : Row). write_answer x.0 x.1) write_refusals ≡ map (λ (x : Row). x.2) write_refusals
unfolding tree_E node_0_alone write_answer writing ordered children_rule attributes_first takes shape view expressible repeats
    neighbouring_texts write contents attributes escaped used
write_refusals_hold = refl

-- "state bytes that are too short, or not of the form .., give 13 before all else": no bytes at all, whatever the buffer
pub write_state_first : {o o' : List ℕ} {r : Answer} → Written [] o o' r → r ≡ Refused 13
unfolding form
write_state_first w = (w.unformed refl).0
