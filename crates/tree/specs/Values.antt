-- What the values of the code stand for in the reading of characters.
use Rattle.std.specs.Prelude.{ℕ, ◌+◌, ◌*◌, ◌≤◌, Bool, false, cond, ◌&&◌, List, ◌≡◌, Result, Ok, Err, eqb, ltb}
use Rattle.tree.specs.Characters.{Range, name_start_characters, name_characters, text_characters}
use Rattle.tree.specs.Content.{name_byte, text_byte}
use Rattle.tree.specs.Spelling.{Part, part, no_part, breadth, Fault, faultless, fault}
use Rattle.tree.specs.declared.characters.Part.{Part as PartValue}

-- the class of a text's characters, or of a name's: its first, or the others
unfoldable pub class : (text first : Bool) → List Range
class text first = cond text text_characters (cond first name_start_characters name_characters)

abbrev pub part_of : PartValue → Part
part_of p = part p.more p.value p.least

-- a part that becomes no value above 21 bits
pub record Small (p : Part) : Type 0 where
  pub few : p.more ≤ 3
  pub low : (p.value + 1) * breadth p.more ≤ 0x200000

-- with a part read, the character is whole, and the next is not the first; or it goes on
pub record Behind (first : Bool) (p : Part) (first' : Bool) (p' : Part) : Type 0 where
  pub next : first' ≡ cond (eqb p.more 0) false first
  pub rest : p' ≡ cond (eqb p.more 0) no_part p

-- as whole characters, or no further than the first n bytes
unfoldable pub reading_of : Fault → Result (Unit {0}) ℕ
reading_of faultless = Ok tt
reading_of (fault n) = Err n

-- by itself a character of a text, or else of a name
unfoldable pub plain : (text : Bool) → ℕ → Bool
plain text x = ltb x 128 && cond text text_byte name_byte x
