-- Characters: code points, the classes of XML 1.0 (Fifth Edition), and the bytes that spell them. Document 02, A.2; numbers in brackets are
-- productions of that edition.
use Rattle.std.specs.Prelude.{ℕ, ◌+◌, ◌-◌, ◌*◌, ◌/◌, ◌%◌, Bool, cond, ◌&&◌, List, [], ◌∷◌, ◌++◌, leb}
use Rattle.tree.specs.Lists.{any, same}

-- code points from one to another
abbrev pub Range : Type 0
Range = ℕ × ℕ

unfoldable pub within : List Range → ℕ → Bool
within ranges c = any (λ r. leb r.0 c && leb c r.1) ranges

-- [4] NameStartChar, without the colon
abbrev pub name_start_characters : List Range
name_start_characters =
    (65, 90)
    ∷ (95, 95)
    ∷ (97, 122)
    ∷ (0xC0, 0xD6)
    ∷ (0xD8, 0xF6)
    ∷ (0xF8, 0x2FF)
    ∷ (0x370, 0x37D)
    ∷ (0x37F, 0x1FFF)
    ∷ (0x200C, 0x200D)
    ∷ (0x2070, 0x218F)
    ∷ (0x2C00, 0x2FEF)
    ∷ (0x3001, 0xD7FF)
    ∷ (0xF900, 0xFDCF)
    ∷ (0xFDF0, 0xFFFD)
    ∷ (0x10000, 0xEFFFF)
    ∷ []

-- [4a] NameChar, without the colon
abbrev pub name_characters : List Range
name_characters =
    name_start_characters ++ ((45, 45) ∷ (46, 46) ∷ (48, 57) ∷ (0xB7, 0xB7) ∷ (0x300, 0x36F) ∷ (0x203F, 0x2040) ∷ [])

-- [2] Char, "except 13"
abbrev pub text_characters : List Range
text_characters = (9, 9) ∷ (10, 10) ∷ (0x20, 0xD7FF) ∷ (0xE000, 0xFFFD) ∷ (0x10000, 0x10FFFF) ∷ []

-- UTF-8: the bytes that spell a code point, in the shortest form
unfoldable pub utf8 : ℕ → List ℕ
utf8 c =
    cond (leb c 0x7F) (c ∷ [])
    (cond (leb c 0x7FF) ((0xC0 + c / 64) ∷ (0x80 + c % 64) ∷ [])
    (cond (leb c 0xFFFF) ((0xE0 + c / 4096) ∷ (0x80 + c / 64 % 64) ∷ (0x80 + c % 64) ∷ [])
    ((0xF0 + c / 262144) ∷ (0x80 + c / 4096 % 64) ∷ (0x80 + c / 64 % 64) ∷ (0x80 + c % 64) ∷ [])))

-- the only code point that these bytes can spell
abbrev pub code_point : List ℕ → ℕ
code_point [] = 0
code_point (a ∷ []) = a
code_point (a ∷ b ∷ []) = (a - 0xC0) * 64 + (b - 0x80)
code_point (a ∷ b ∷ c ∷ []) = ((a - 0xE0) * 64 + (b - 0x80)) * 64 + (c - 0x80)
code_point (a ∷ b ∷ c ∷ d ∷ w) = (((a - 0xF0) * 64 + (b - 0x80)) * 64 + (c - 0x80)) * 64 + (d - 0x80)

-- the bytes spell one code point
abbrev pub spells_one : List ℕ → Bool
spells_one w = same (utf8 (code_point w)) w

-- in no class
abbrev pub no_character : ℕ
no_character = 0x110000

abbrev left_over : List ℕ → List ℕ
left_over [] = []
left_over (a ∷ w) = no_character ∷ []

-- the characters that the bytes s spell, w being the bytes of one that is begun; what never becomes one is kept to the end and counts as
-- one of no class
unfoldable pub characters : (w s : List ℕ) → List ℕ
characters w [] = left_over w
characters w (b ∷ s) =
    cond (spells_one (w ++ (b ∷ []))) (code_point (w ++ (b ∷ [])) ∷ characters [] s) (characters (w ++ (b ∷ [])) s)
