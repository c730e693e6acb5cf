-- Bytes that may stand in a value or a text.
use Rattle.std.specs.Prelude.{ℕ, Bool, cond, not, ◌&&◌, ◌||◌, eqb, ltb}
use Rattle.tree.specs.Content.{name_byte, text_byte}
use Rattle.xml.specs.Bytes.{ampersand, less_than, greater_than, normalized}

-- a byte that stands for itself in a value or a text that ends with stop, k bytes ] just before it, if it is not stop
unfoldable pub literal : ℕ → ℕ → ℕ → Bool
literal stop k b =
    text_byte b && not (eqb b less_than) && not (eqb b ampersand) && not (eqb stop less_than && eqb b greater_than && eqb k 2)

-- a byte that begins a character there
unfoldable pub begins : ℕ → ℕ → ℕ → Bool
begins stop k b = eqb b ampersand || literal stop k b

-- a byte that is a character by itself, and no ampersand
unfoldable pub alone : ℕ → Bool
alone b = ltb b 128 && not (eqb b ampersand)

-- a byte that is a character of a name by itself
unfoldable pub ascii_name : ℕ → Bool
ascii_name b = ltb b 128 && name_byte b

-- the byte that a byte which stands for itself there is read as
unfoldable pub reads_as : ℕ → ℕ → ℕ
reads_as stop b = cond (eqb stop less_than) b (normalized b)
