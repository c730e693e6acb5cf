-- Waiting by words: the modes that clash with those needed are looked up once, and met along the way.
use Rattle.std.specs.Prelude.{ℕ, zero, suc, ◌<◌, ◌≡◌, Bool, false, not, ◌&&◌, ◌||◌, List, [], ◌∷◌, eqb}
use Rattle.tree.specs.Lists.{any}
use Rattle.tree.specs.Steps.{Step}
use Rattle.locks.specs.Modes.{modes, in_word}
use Rattle.locks.specs.Needs.{need}
use Rattle.locks.specs.Words.{mask_of, words}
use Rattle.locks.specs.declared.NeedWords.{NeedWords}
use Rattle.protocol.specs.State.{Marked}
use Rattle.table.specs.Layout.{nodes, is_open}
use Rattle.rows.specs.Found.{wait_word}
use Rattle.engine.specs.Way.{nodes_at}

-- the set for the j-th node of the way
abbrev pub word_at : NeedWords → ℕ → ℕ
word_at w zero = w.node
word_at w (suc zero) = w.parent
word_at w (suc (suc j)) = w.above

-- the modes that clash with each set
abbrev pub masks_of : NeedWords → NeedWords
masks_of w = record { node = mask_of w.node; parent = mask_of w.parent; above = mask_of w.above; fresh = 0 }

-- no bit that is no mode
pub record SmallWords (w : NeedWords) : Type 0 where
  pub node : w.node < 4096
  pub parent : w.parent < 4096
  pub above : w.above < 4096

-- u holds a mode of the set on this node
unfoldable pub touches : ℕ → ℕ → Marked → Bool
touches w u a = any (λ m. a.held u m && in_word w m) modes

-- the same along the way, from its j-th node on
unfoldable pub touches_from : NeedWords → ℕ → ℕ → List Marked → Bool
touches_from w j u [] = false
touches_from w j u (a ∷ way) = touches (word_at w j) u a || touches_from w (suc j) u way

-- another open transaction, which holds such a mode on the way
unfoldable pub blocks_by : ℕ → NeedWords → (ℕ → Bool) → List Marked → ℕ → Bool
blocks_by t w is_open way u = is_open u && not (eqb u t) && touches_from w 0 u way

-- what a step of t waits for on the way, whichever step needs these sets
pub record WaitsFor (s : List ℕ) (t : ℕ) (w : NeedWords) (way : List ℕ) (set : ℕ) : Type 0 where
  pub is : (st : Step) → w ≡ words (need st) → set ≡ wait_word t (need st) (is_open s) (nodes_at (nodes s) way)
