-- A transaction's modes by value.
use Rattle.std.specs.Prelude.{ℕ, ◌<◌, ◌≡◌, List, length, get_or}
use Rattle.locks.specs.Modes.{in_word}
use Rattle.table.specs.Layout.{slot, nodes, no_entry}

-- "the set of modes it was granted there": for each node, the word of its slot
pub record Loaded (s : List ℕ) (t : ℕ) (modes : List ℕ) : Type 0 where
  pub held : (i : ℕ) → i < length (nodes s) → in_word (get_or modes (slot s i) 0) ≡ (get_or (nodes s) i no_entry).1.held t
