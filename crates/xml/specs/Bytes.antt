-- Bytes of markup, classes of bytes and fixed byte strings: document 01, "Reading and writing XML", and document 02, A.3. Numbers in
-- brackets are productions of XML 1.0.
use Rattle.std.specs.Prelude.{ℕ, zero, suc, Bool, cond, not, ◌&&◌, ◌||◌, List, eqb}
use Rattle.tree.specs.Text.{bytes}
use Rattle.tree.specs.Lists.{any, same}
use Rattle.tree.specs.Content.{text_byte}

abbrev pub tab : ℕ
tab = 9

abbrev pub line_feed : ℕ
line_feed = 10

abbrev pub space : ℕ
space = 32

abbrev pub quotation_mark : ℕ
quotation_mark = 34

abbrev pub ampersand : ℕ
ampersand = 38

abbrev pub apostrophe : ℕ
apostrophe = 39

abbrev pub slash : ℕ
slash = 47

abbrev pub less_than : ℕ
less_than = 60

abbrev pub equals_sign : ℕ
equals_sign = 61

abbrev pub greater_than : ℕ
greater_than = 62

abbrev pub right_bracket : ℕ
right_bracket = 93

-- [3] S, without byte 13
unfoldable pub blank : ℕ → Bool
blank b = eqb b tab || eqb b line_feed || eqb b space

-- the quotes around a value
pub data Quote : Type 0 where
  double single : Quote

abbrev pub quote_byte : Quote → ℕ
quote_byte double = quotation_mark
quote_byte single = apostrophe

-- [10]: a byte that stands for itself in a value in these quotes
unfoldable pub value_literal : Quote → ℕ → Bool
value_literal q b = text_byte b && not (eqb b less_than) && not (eqb b ampersand) && not (eqb b (quote_byte q))

-- [14]: a byte that stands for itself in a text, k literal bytes ] just before it (2 for two or more): there is no ]]> in a text
unfoldable pub text_literal : ℕ → ℕ → Bool
text_literal k b = text_byte b && not (eqb b less_than) && not (eqb b ampersand) && not (eqb b greater_than && eqb k 2)

-- A.3, section 3.3.3: the byte that a literal byte of a value is read as; "a literal tab or line feed in an attribute value is read as a
-- space"
unfoldable pub normalized : ℕ → ℕ
normalized b = cond (blank b) space b

abbrev more_brackets : ℕ → ℕ
more_brackets zero = 1
more_brackets (suc k) = 2

-- how many bytes ] stand just before the byte after b, where k stand just before b
unfoldable pub brackets : ℕ → ℕ → ℕ
brackets k b = cond (eqb b right_bracket) (more_brackets k) 0

-- a name is among those used
unfoldable pub used : List (List ℕ) → List ℕ → Bool
used names a = any (λ n. same n a) names

-- the references, behind the ampersand: the five entity references [68]
abbrev pub amp : List ℕ
amp = bytes "amp;"

abbrev pub apos : List ℕ
apos = bytes "apos;"

abbrev pub gt : List ℕ
gt = bytes "gt;"

abbrev pub lt : List ℕ
lt = bytes "lt;"

abbrev pub quot : List ℕ
quot = bytes "quot;"

-- and two character references [66]: document 02, A.3
abbrev pub tab_reference : List ℕ
tab_reference = bytes "#9;"

abbrev pub line_feed_reference : List ℕ
line_feed_reference = bytes "#10;"

-- the two declarations [23]
abbrev pub short_declaration : List ℕ
short_declaration = bytes "<?xml version=\"1.0\"?>"

abbrev pub long_declaration : List ℕ
long_declaration = bytes "<?xml version=\"1.0\" encoding=\"UTF-8\"?>"
