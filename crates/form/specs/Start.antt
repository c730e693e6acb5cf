-- The bytes of the beginning: "node 0 alone and nothing is open".
use Rattle.std.specs.Prelude.{◌≡◌, ℕ, ◌-◌, ◌/◌, ◌%◌, ◌≤◌, ◌<◌, Bool, cond, List, length, get_or, drop, eqb, leb, ltb}
use Rattle.tree.specs.Content.{document_kind}
use Rattle.protocol.specs.State.{start_state}
use Rattle.table.specs.Encoding.{state_size, format_mark, count_at, entry_at, cell_at}
use Rattle.form.specs.Form.{Holds}

-- byte j of the outline: the entry of each place has the slot of its own number, and zeros
unfoldable pub outline_byte : ℕ → ℕ
outline_byte j = cond (eqb (j % 8) 0) (j / 8 % 256) (cond (eqb (j % 8) 1) (j / 8 / 256) 0)

-- the format mark, one node, the outline, the kind of the document in the first cell, and zeros
unfoldable pub start_byte : ℕ → ℕ
start_byte j =
    cond (ltb j 8) (get_or format_mark j 0)
    (cond (ltb j (entry_at 0)) (cond (eqb j count_at) 1 0)
    (cond (ltb j (cell_at 0)) (outline_byte (j - entry_at 0))
    (cond (eqb j (cell_at 0)) document_kind 0)))

-- start: bytes that are enough are set to the beginning, others are left as they were
pub record Started (s s' : List ℕ) (r : Bool) : Type 0 where
  pub answer : r ≡ leb state_size (length s)
  pub short : length s < state_size → s' ≡ s
  pub bytes : state_size ≤ length s → (j : ℕ) → j < state_size → get_or s' j 0 ≡ start_byte j
  pub holds : state_size ≤ length s → Holds s' start_state
  pub long : length s' ≡ length s
  pub behind : drop state_size s' ≡ drop state_size s
