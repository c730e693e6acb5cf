-- The remembered wait sets: what storing them leaves, and all of them by value.
use Rattle.std.specs.Prelude.{◌≡◌, ℕ, ◌-◌, ◌≤◌, Bool, List, get_or}
use Rattle.protocol.specs.State.{set_header, struck_header}
use Rattle.table.specs.Layout.{set_at, word, header, nodes, Left}

-- the set of t is S: the nodes and the rest of the header are as they were
abbrev pub WithSet : List ℕ → List ℕ → ℕ → (ℕ → Bool) → Type 0
WithSet s s' t S = Left s s' (set_header t S (header s)) (nodes s)

-- t is struck from all sets, and its own is empty
abbrev pub Struck : List ℕ → List ℕ → ℕ → Type 0
Struck s s' t = Left s s' (struck_header t (header s)) (nodes s)

-- the sixteen words
pub record Gathered (s words : List ℕ) : Type 0 where
  pub word : (t : ℕ) → 1 ≤ t → t ≤ 16 → get_or words (t - 1) 0 ≡ word s (set_at t)
