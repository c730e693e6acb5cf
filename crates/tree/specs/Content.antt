-- Kinds, names, texts, and which kind may stand under which: document 01, "The tree"; names and texts by document 02, A.2.
use Rattle.std.specs.Prelude.{ℕ, ◌-◌, Bool, true, false, cond, not, ◌&&◌, ◌||◌, List, [], ◌∷◌, ◌++◌, length, take, drop, eqb, leb}
use Rattle.tree.specs.Lists.{every}
use Rattle.tree.specs.Characters.{Range, within, name_start_characters, name_characters, text_characters, characters}

-- the paper's numbers of the kinds
abbrev pub document_kind : ℕ
document_kind = 1

abbrev pub element_kind : ℕ
element_kind = 2

abbrev pub attribute_kind : ℕ
attribute_kind = 3

abbrev pub text_kind : ℕ
text_kind = 4

abbrev pub between : ℕ → ℕ → ℕ → Bool
between low high x = leb low x && leb x high

-- bytes of names and texts: those that spell characters of ASCII by themselves, and those from 128 on, of which all others are made

-- in a name's first character
unfoldable pub name_start : ℕ → Bool
name_start x = between 65 90 x || between 97 122 x || eqb x 95 || leb 128 x

-- in a name
unfoldable pub name_byte : ℕ → Bool
name_byte x = name_start x || between 48 57 x || eqb x 45 || eqb x 46

-- in a text
unfoldable pub text_byte : ℕ → Bool
text_byte x = eqb x 9 || eqb x 10 || leb 32 x

-- a content has at most 32 bytes
abbrev pub content_limit : ℕ
content_limit = 32

-- one character or more, the first of a class, the others of another
abbrev of_classes : (first others : List Range) → List ℕ → Bool
of_classes first others [] = false
of_classes first others (c ∷ cs) = within first c && every (within others) cs

-- the bytes of a Name [5], of any length
unfoldable pub spells_name : List ℕ → Bool
spells_name b = of_classes name_start_characters name_characters (characters [] b)

-- the bytes of a text, of any length
unfoldable pub spells_text : List ℕ → Bool
spells_text b = of_classes text_characters text_characters (characters [] b)

-- "a name is now a Name of XML 1.0 Fifth Edition without colons, in UTF-8"; "the limit stays 32 bytes, counted as bytes"
unfoldable pub is_name : List ℕ → Bool
is_name b = leb (length b) content_limit && spells_name b

-- "text may use that edition's characters except 13": 1 to 32 bytes
unfoldable pub is_text : List ℕ → Bool
is_text b = leb (length b) content_limit && spells_text b

-- the column "Content": what a node of a kind may hold
unfoldable pub allowed : ℕ → List ℕ → Bool
allowed kind b =
    cond (eqb kind document_kind) (eqb (length b) 0)
    (cond (eqb kind element_kind || eqb kind attribute_kind) (is_name b)
    (eqb kind text_kind && is_text b))

-- whether a kind ever takes a child of a kind: elements under the document, attributes, elements and texts under an element,
-- texts under an attribute
unfoldable pub takes : ℕ → ℕ → Bool
takes parent kind =
    cond (eqb parent document_kind) (eqb kind element_kind)
    (cond (eqb parent element_kind) (between element_kind text_kind kind)
    (eqb parent attribute_kind && eqb kind text_kind))

-- "attributes first, then elements and texts"
unfoldable pub attributes_first : List ℕ → Bool
attributes_first [] = true
attributes_first (kind ∷ kinds) =
    cond (eqb kind attribute_kind) (attributes_first kinds) (every (λ x. not (eqb x attribute_kind)) kinds)

-- the column "Children": the kinds of the children, in order, that a node of a kind may have
unfoldable pub children_rule : ℕ → List ℕ → Bool
children_rule kind kinds =
    every (takes kind) kinds && cond (eqb kind element_kind) (attributes_first kinds) (leb (length kinds) 1)

-- a list with x as its k-th, k from 1
unfoldable pub insert_at : {A : Type 0} → ℕ → A → List A → List A
insert_at k x l = take (k - 1) l ++ (x ∷ drop (k - 1) l)
