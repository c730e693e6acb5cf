-- Bytes that are a name, a text, both or neither by document 02, A.2.
use Rattle.std.specs.Prelude.{ℕ, ◌≡◌, refl, Bool, true, false, List, [], ◌∷◌, map, replicate}
use Rattle.tree.specs.Lists.{joined}
use Rattle.tree.specs.Characters.{within, utf8, characters}
use Rattle.tree.specs.Content.{spells_name, spells_text, is_name, is_text}

-- bytes, whether they are a name, and whether they are a text
pub record Example : Type 0 where
  pub bytes : List ℕ
  pub name : Bool
  pub text : Bool

abbrev by_bytes : List ℕ → (name text : Bool) → Example
by_bytes b n t = record { bytes = b; name = n; text = t }

-- by the characters that they spell
abbrev by_characters : List ℕ → (name text : Bool) → Example
by_characters cs n t = by_bytes (joined (map utf8 cs)) n t

abbrev examples : List Example
examples =
    -- ü; 高度; a letter of the planes above
    by_characters (0xFC ∷ []) true true
    ∷ by_characters (0x9AD8 ∷ 0x5EA6 ∷ []) true true
    ∷ by_characters (0x10000 ∷ 0xEFFFF ∷ []) true true
    -- a combining acute accent, a middle dot, a digit and a hyphen: behind a name's first character, and not first
    ∷ by_characters (97 ∷ 0x301 ∷ []) true true
    ∷ by_characters (0x301 ∷ 97 ∷ []) false true
    ∷ by_characters (0xB7 ∷ []) false true
    ∷ by_characters (97 ∷ 0xB7 ∷ 54 ∷ 45 ∷ []) true true
    ∷ by_characters (54 ∷ []) false true
    -- a colon; 127; 133; the multiplication sign; the last code point
    ∷ by_characters (97 ∷ 58 ∷ 98 ∷ []) false true
    ∷ by_characters (127 ∷ []) false true
    ∷ by_characters (133 ∷ []) false true
    ∷ by_characters (0xD7 ∷ []) false true
    ∷ by_characters (0x10FFFF ∷ []) false true
    -- a tab and a line feed; a carriage return; 0xFFFE; a surrogate; one behind the last code point
    ∷ by_characters (9 ∷ 10 ∷ []) false true
    ∷ by_characters (97 ∷ 13 ∷ []) false false
    ∷ by_characters (97 ∷ 0xFFFE ∷ []) false false
    ∷ by_characters (97 ∷ 0xD800 ∷ []) false false
    ∷ by_characters (97 ∷ 0x110000 ∷ []) false false
    -- a letter in two, three and four bytes; a character cut short; a byte that goes on with none; one of no character
    ∷ by_bytes (0xC1 ∷ 0xA1 ∷ []) false false
    ∷ by_bytes (0xE0 ∷ 0x81 ∷ 0xA1 ∷ []) false false
    ∷ by_bytes (0xF0 ∷ 0x80 ∷ 0x81 ∷ 0xA1 ∷ []) false false
    ∷ by_bytes (97 ∷ 0xC3 ∷ []) false false
    ∷ by_bytes (97 ∷ 0xBC ∷ []) false false
    ∷ by_bytes (97 ∷ 0xFF ∷ []) false false
    -- none; 32 bytes; 18 characters in 34 bytes
    ∷ by_bytes [] false false
    ∷ by_characters (replicate 16 0xFC) true true
    ∷ by_characters (97 ∷ 98 ∷ replicate 16 0xFC) false false
    ∷ []

pub character_examples_hold : map (λ x. by_bytes x.bytes (is_name x.bytes) (is_text x.bytes)) examples ≡ examples
unfolding within utf8 characters spells_name spells_text is_name is_text
character_examples_hold = refl
