-- The twelve lock modes, their table and sets of them: document 01, "Lock modes".
use Rattle.std.specs.Prelude.{ℕ, ◌/◌, ◌%◌, ◌^◌, Bool, false, ◌&&◌, ◌||◌, List, [], ◌∷◌, get_or, eqb}
use Prim.Native.String.{String}
use Rattle.tree.specs.Text.{bytes}
use Rattle.tree.specs.Lists.{any}

pub data Mode : Type 0 where
  LT LC LR LU LW LTT LRR LUU LIR LIU LIW LICW : Mode

-- in the order of the table's rows and columns
abbrev pub modes : List Mode
modes = LT ∷ LC ∷ LR ∷ LU ∷ LW ∷ LTT ∷ LRR ∷ LUU ∷ LIR ∷ LIU ∷ LIW ∷ LICW ∷ []

-- a mode's place in the table, from 0
abbrev pub index : Mode → ℕ
index LT = 0
index LC = 1
index LR = 2
index LU = 3
index LW = 4
index LTT = 5
index LRR = 6
index LUU = 7
index LIR = 8
index LIU = 9
index LIW = 10
index LICW = 11

-- the table: a row for each mode; `-` is a clash
abbrev pub signs : Mode → String
signs LT = "++++-+++++++"
signs LC = "++++-++++++-"
signs LR = "+++--++-++++"
signs LU = "++---+--++++"
signs LW = "------------"
signs LTT = "++++-+++++--"
signs LRR = "+++--++-+---"
signs LUU = "++---+------"
signs LIR = "++++-++-++++"
signs LIU = "++++-+--++++"
signs LIW = "++++----++++"
signs LICW = "+-++----++++"

abbrev pub minus : ℕ
minus = 45

unfoldable pub clash : Mode → Mode → Bool
clash a b = eqb (get_or (bytes (signs a)) (index b) 0) minus

-- a set of modes
abbrev pub ModeSet : Type 0
ModeSet = Mode → Bool

abbrev pub no_mode : ModeSet
no_mode a = false

abbrev pub same_mode : Mode → Mode → Bool
same_mode a b = eqb (index a) (index b)

-- the modes of a list
abbrev pub among : List Mode → ModeSet
among l a = any (same_mode a) l

abbrev pub union : ModeSet → ModeSet → ModeSet
union p q a = p a || q a

-- some mode of the set clashes with the mode
abbrev pub against : ModeSet → Mode → Bool
against p a = any (λ b. p b && clash a b) modes

-- bit i of a word
abbrev pub bit : ℕ → ℕ → Bool
bit w i = eqb (w / 2 ^ i % 2) 1

-- the set that a 16-bit word stands for: bit i is the mode at place i of the table
abbrev pub in_word : ℕ → ModeSet
in_word w a = bit w (index a)
