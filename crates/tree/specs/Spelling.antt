-- UTF-8 read a byte at a time. A byte is taken only if some character of the class goes on so.
use Rattle.std.specs.Prelude.{ℕ, suc, ◌+◌, ◌-◌, ◌*◌, max, min, Bool, true, false, cond, List, [], ◌∷◌, eqb, leb, ltb}
use Rattle.tree.specs.Lists.{any}
use Rattle.tree.specs.Characters.{Range, name_start_characters, name_characters, text_characters}
use Rattle.tree.specs.Content.{between}

-- a character as far as it is read: how many bytes are still to come, its value so far, and the least code point that is spelled with as
-- many bytes in all
pub record Part : Type 0 where
  pub more : ℕ
  pub value : ℕ
  pub least : ℕ

abbrev pub part : (more value least : ℕ) → Part
part m v l = record { more = m; value = v; least = l }

-- no character is begun
abbrev pub no_part : Part
no_part = part 0 0 0

-- no character goes on so: none is at least 1 and at most 0
abbrev pub wrong_part : Part
wrong_part = part 0 0 1

unfoldable pub first_part : ℕ → Part
first_part b =
    cond (ltb b 128) (part 0 b 0)
    (cond (ltb b 192) wrong_part
    (cond (ltb b 224) (part 1 (b - 192) 128)
    (cond (ltb b 240) (part 2 (b - 224) 2048)
    (cond (ltb b 248) (part 3 (b - 240) 65536) wrong_part))))

unfoldable pub next_part : Part → ℕ → Part
next_part p b = cond (between 128 191 b) (part (p.more - 1) (p.value * 64 + (b - 128)) p.least) wrong_part

unfoldable pub with_byte : Part → ℕ → Part
with_byte p b = cond (eqb p.more 0) (first_part b) (next_part p b)

-- how many values so many bytes may still add
unfoldable pub breadth : ℕ → ℕ
breadth m = cond (eqb m 0) 1 (cond (eqb m 1) 64 (cond (eqb m 2) 4096 262144))

-- a code point of the ranges lies between two
unfoldable pub meets : List Range → (low high : ℕ) → Bool
meets ranges low high = any (λ r. leb (max low r.0) (min high r.1)) ranges

-- some character of the ranges goes on so
unfoldable pub possible : List Range → Part → Bool
possible ranges p =
    let low = p.value * breadth p.more in meets ranges (max p.least low) (low + (breadth p.more - 1))

-- where the reading of characters stands: the class of the one that is read, the class of those behind it, and how far it is read
pub record Spelling : Type 0 where
  pub here : List Range
  pub behind : List Range
  pub begun : Part

-- before a character
abbrev pub before : (here behind : List Range) → Spelling
before h b = record { here = h; behind = b; begun = no_part }

abbrev pub whole : Spelling → Bool
whole x = eqb x.begun.more 0

pub data Spelled : Type 0 where
  broken : Spelled
  spelling : Spelling → Spelled

-- one byte more
unfoldable pub spell : Spelling → ℕ → Spelled
spell x b =
    let p = with_byte x.begun b in
    cond (possible x.here p)
    (spelling (cond (eqb p.more 0) (before x.behind x.behind) (record { here = x.here; behind = x.behind; begun = p })))
    broken

-- before the first character of a text, or of a name
abbrev pub start_of : (text : Bool) → Spelling
start_of text = cond text (before text_characters text_characters) (before name_start_characters name_characters)

-- how bytes are spelled: as whole characters, or no further than the first n of them
pub data Fault : Type 0 where
  faultless : Fault
  fault : (n : ℕ) → Fault

abbrev pub is_faultless : Fault → Bool
is_faultless faultless = true
is_faultless (fault n) = false

abbrev pub later : Fault → Fault
later faultless = faultless
later (fault n) = fault (suc n)

abbrev pub fault_behind : Spelled → (Spelling → Fault) → Fault
fault_behind broken f = fault 0
fault_behind (spelling y) f = later (f y)

unfoldable pub fault_in : Spelling → List ℕ → Fault
fault_in x [] = cond (whole x) faultless (fault 0)
fault_in x (b ∷ s) = fault_behind (spell x b) (λ y. fault_in y s)
