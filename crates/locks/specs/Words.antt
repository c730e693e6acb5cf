-- Sets of modes as 16-bit words, the table by places, and the locks of a step as words.
use Rattle.std.specs.Prelude.{ℕ, zero, suc, ◌+◌, ◌*◌, ◌^◌, Bool, false, cond, ◌&&◌, ◌||◌, List, [], ◌∷◌, map, get_or}
use Rattle.tree.specs.Lists.{any}
use Rattle.tree.specs.Steps.{Step, T, C, R, U, D, I, TT, RR, UU}
use Rattle.locks.specs.Modes.{Mode, modes, index, clash, bit, in_word}
use Rattle.locks.specs.Needs.{Need, need}
use Rattle.locks.specs.declared.NeedWords.{NeedWords}
use Rattle.locks.specs.declared.StepName.{StepName}
use Rattle.locks.specs.declared.StepName.TheVariants as name

-- the table, a row for each mode and a sign for each mode, true for a clash; by places
unfoldable pub clash_table : List (List Bool)
clash_table = map (λ a. map (clash a) modes) modes

unfoldable pub clash_at : ℕ → ℕ → Bool
clash_at a b = get_or (get_or clash_table a []) b false

-- the word of n bits whose bit i is q (u + i)
unfoldable pub word : (ℕ → Bool) → ℕ → ℕ → ℕ
word q zero u = 0
word q (suc n) u = cond (q u) 1 0 + 2 * word q n (suc u)

-- some place from i on, of n, passes
unfoldable pub some_place : (ℕ → Bool) → ℕ → ℕ → Bool
some_place q zero i = false
some_place q (suc n) i = q i || some_place q n (suc i)

-- some mode of the word w clashes with the mode at place a
unfoldable pub meets : ℕ → ℕ → Bool
meets w a = some_place (λ b. bit w b && clash_at a b) 12 0

-- the modes that clash with some mode of the word w, as a word
unfoldable pub mask_of : ℕ → ℕ
mask_of w = word (meets w) 12 0

-- some mode is in both
unfoldable pub in_common : ℕ → ℕ → Bool
in_common v w = any (λ a. in_word v a && in_word w a) modes

-- a list of modes as a word
unfoldable pub word_of : List Mode → ℕ
word_of [] = 0
word_of (a ∷ l) = 2 ^ index a + word_of l

-- a step of each name; what a step needs goes by its name alone
abbrev pub step_named : StepName → Step
step_named name.T = T 0
step_named name.C = C 0 0
step_named name.R = R 0
step_named name.U = U 0 []
step_named name.D = D 0
step_named name.I = I 0 0 [] 0 0
step_named name.TT = TT 0
step_named name.RR = RR 0
step_named name.UU = UU 0 [] []

abbrev pub words : Need → NeedWords
words w = record { node = word_of w.node; parent = word_of w.parent; above = word_of w.above; fresh = word_of w.new }

unfoldable pub need_words : StepName → NeedWords
need_words k = words (need (step_named k))
