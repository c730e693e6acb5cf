-- Tree E of document 01, and what the plain rules say of it.
use Rattle.std.specs.Prelude.{ℕ, ◌≡◌, refl, Bool, true, false, List, [], ◌∷◌, map}
use Prim.Native.String.{String}
use Rattle.tree.specs.Text.{bytes}
use Rattle.tree.specs.Lists.{keep}
use Rattle.tree.specs.Forest.{nil, node, rows, amend, view, place, put}
use Rattle.tree.specs.Content.{is_name, is_text, allowed, takes, attributes_first, children_rule}
use Rattle.tree.specs.Content.{insert_at}
use Rattle.tree.specs.Content.{spells_name, spells_text}
use Rattle.tree.specs.Characters.{characters, utf8, within, name_start_characters, name_characters, text_characters}
use Rattle.tree.specs.Document.{Document, lines, select}
use Rattle.tree.specs.Steps.{Step, T, C, R, U, D, I, TT, RR, UU, placed, Value, done, kind_parent, child_is, none, content_is}
use Rattle.tree.specs.Steps.{numbers_are, cells_are, how_many, PlainAnswer, plain_value, unfit}
use Rattle.tree.specs.Plain.{Operation, does, opens, closes, undoes, progress_after, answers_after, left_of, plain_answers}

-- a node, what is below it, and what follows it
abbrev pub a_node : ℕ → ℕ → String → Document → Document → Document
a_node n kind content children following = node (record { number = n; kind = kind; content = bytes content }) children following

-- <lift rope="2"><speed>6</speed><ramp/></lift>
unfoldable pub tree_E : Document
tree_E = a_node 0 1 ""
    (a_node 1 2 "lift"
    (a_node 2 3 "rope" (a_node 3 4 "2" nil nil)
    (a_node 4 2 "speed" (a_node 5 4 "6" nil nil)
    (a_node 6 2 "ramp" nil nil)))
    nil) nil

-- a step that the plain rules allow, with its answer, and one that they do not
abbrev gives : Step → Value → Step × PlainAnswer
gives s v = (s, plain_value v)

abbrev refuses : Step → Step × PlainAnswer
refuses s = (s, unfit)

-- steps in order on E, and the answers of the plain run
abbrev plain_examples : List (Step × PlainAnswer)
plain_examples =
    gives (T 0) (kind_parent 1 0) ∷ gives (T 5) (kind_parent 4 4) ∷ gives (C 1 1) (child_is 2 3) ∷ gives (C 1 4) none
    ∷ gives (R 2) (content_is (bytes "rope")) ∷ refuses (R 0) ∷
    gives (UU 0 (bytes "ramp") (bytes "speed")) (how_many 1) ∷ gives (UU 1 (bytes "speed") (bytes "pace")) (how_many 2)
    ∷ gives (R 6) (content_is (bytes "pace")) ∷
    gives (I 9 4 (bytes "x y") 6 1) done ∷ refuses (I 9 4 (bytes "z") 6 2) ∷ refuses (I 7 3 (bytes "a") 1 3)
    ∷ gives (I 7 3 (bytes "a") 1 2) done ∷
    gives (TT 1) (numbers_are (1 ∷ 2 ∷ 3 ∷ 7 ∷ 4 ∷ 5 ∷ 6 ∷ 9 ∷ [])) ∷ gives (D 4) done ∷ refuses (R 5) ∷ refuses (U 9 (bytes ""))
    ∷ gives (U 9 (bytes "8")) done ∷
    gives (RR 6) (cells_are ((6, bytes "pace") ∷ (9, bytes "8") ∷ [])) ∷ gives (TT 0) (numbers_are (0 ∷ 1 ∷ 2 ∷ 3 ∷ 7 ∷ 6 ∷ 9 ∷ [])) ∷ []

pub plain_examples_hold : plain_answers tree_E (map (λ x. does x.0) plain_examples ∷ []) ≡ map (λ x. x.1) plain_examples
unfolding tree_E plain_answers answers_after progress_after lines select rows keep amend view place put within utf8 characters spells_name
    spells_text is_name is_text allowed takes attributes_first children_rule insert_at placed
plain_examples_hold = refl

-- the nodes that these steps touch, in order: none where the plain rules do not allow the step
pub touched_examples_hold : (left_of tree_E (map (λ x. does x.0) plain_examples)).touched ≡ 6 ∷ 4 ∷ 6 ∷ 9 ∷ 7 ∷ 9 ∷ []
unfolding tree_E progress_after lines select rows keep amend view place put within utf8 characters spells_name spells_text is_name is_text
    allowed takes attributes_first children_rule insert_at placed
touched_examples_hold = refl

-- parts on E, one within another: an undo goes back to the last opening, a close forgets it, and both leave the answers
abbrev part_examples : List (Operation Step)
part_examples =
    does (U 5 (bytes "7")) ∷ opens ∷ does (U 5 (bytes "8")) ∷ opens ∷ does (D 2) ∷ does (I 9 4 (bytes "x") 6 1) ∷ undoes
    ∷ does (R 3) ∷ does (R 9) ∷ does (U 3 (bytes "1")) ∷ opens ∷ does (U 5 (bytes "9")) ∷ closes ∷ does (R 5) ∷ undoes
    ∷ does (R 5) ∷ does (R 3) ∷ []

pub part_answers_hold : plain_answers tree_E (part_examples ∷ (undoes ∷ closes ∷ does (R 5) ∷ []) ∷ [])
    ≡ plain_value done ∷ plain_value done ∷ plain_value done ∷ plain_value done ∷ plain_value (content_is (bytes "2")) ∷ unfit
    ∷ plain_value done ∷ plain_value done ∷ plain_value (content_is (bytes "9")) ∷ plain_value (content_is (bytes "7"))
    ∷ plain_value (content_is (bytes "2")) ∷ plain_value (content_is (bytes "7")) ∷ []
unfolding tree_E plain_answers answers_after progress_after lines select rows keep amend view place put within utf8 characters spells_name
    spells_text is_name is_text allowed takes attributes_first children_rule insert_at placed
part_answers_hold = refl

-- a change that was undone touches nothing
pub part_touched_holds : (left_of tree_E part_examples).touched ≡ 5 ∷ []
unfolding tree_E progress_after lines select rows keep amend view place put within utf8 characters spells_name spells_text is_name is_text
    allowed takes attributes_first children_rule insert_at placed
part_touched_holds = refl

-- productions 4, 4a and 2: whether a code point begins a name, stands in one, stands in a text
abbrev pub classes : ℕ → Bool × Bool × Bool
classes c = (within name_start_characters c, within name_characters c, within text_characters c)

-- the first and the last of each range, and those beside them
abbrev pub characters_by_class : List (List ℕ × (Bool × Bool × Bool))
characters_by_class = (
  65 ∷ 90 ∷ 95 ∷ 97 ∷ 122 ∷ 0xC0 ∷ 0xD6 ∷ 0xD8 ∷ 0xF6 ∷ 0xF8 ∷ 0x2FF ∷ 0x370 ∷ 0x37D ∷ 0x37F ∷ 0x1FFF ∷ 0x200C ∷ 0x200D ∷ 0x2070 ∷ 0x218F
      ∷ 0x2C00 ∷ 0x2FEF ∷ 0x3001 ∷ 0xD7FF ∷ 0xF900 ∷ 0xFDCF ∷ 0xFDF0 ∷ 0xFFFD ∷ 0x10000 ∷ 0xEFFFF ∷ [],
  (true, true, true),
)
    ∷ (45 ∷ 46 ∷ 48 ∷ 57 ∷ 0xB7 ∷ 0x300 ∷ 0x36F ∷ 0x203F ∷ 0x2040 ∷ [], (false, true, true))
    ∷ (
      9 ∷ 10 ∷ 32 ∷ 44 ∷ 47 ∷ 58 ∷ 64 ∷ 91 ∷ 94 ∷ 96 ∷ 123 ∷ 0x7F ∷ 0x80 ∷ 0xB6 ∷ 0xB8 ∷ 0xBF ∷ 0xD7 ∷ 0xF7 ∷ 0x37E ∷ 0x2000 ∷ 0x200B ∷
          0x200E ∷ 0x203E ∷ 0x2041
          ∷ 0x206F ∷ 0x2190 ∷ 0x2BFF ∷ 0x2FF0 ∷ 0x3000 ∷ 0xE000 ∷ 0xF8FF ∷ 0xFDD0 ∷ 0xFDEF ∷ 0xF0000 ∷ 0x10FFFF ∷ [],
      (false, false, true),
    )
    ∷ (0 ∷ 8 ∷ 11 ∷ 12 ∷ 13 ∷ 14 ∷ 31 ∷ 0xD800 ∷ 0xDBFF ∷ 0xDC00 ∷ 0xDFFF ∷ 0xFFFE ∷ 0xFFFF ∷ 0x110000 ∷ [], (false, false, false))
    ∷ []

pub classes_hold : map (λ (x : List ℕ × (Bool × Bool × Bool)). map classes x.0) characters_by_class
    ≡ map (λ (x : List ℕ × (Bool × Bool × Bool)). map (λ (c : ℕ). x.1) x.0) characters_by_class
unfolding within
classes_hold = refl
