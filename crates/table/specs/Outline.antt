-- Entries of the outline, used or free, as the functions of this crate move them.
use Rattle.std.specs.Prelude.{ℕ, suc, ◌+◌, ◌≤◌, ◌<◌, Bool, cond, not, ◌&&◌, ◌≡◌, List, length, get_or, eqb, ltb, leb}
use Rattle.protocol.specs.State.{Marked}
use Rattle.table.specs.Lists.{modify, insert}
use Rattle.table.specs.Fields.{field}
use Rattle.table.specs.Layout.{entry_at, Entry, nodes, no_entry, Left, header}
use Rattle.table.specs.Laws.Bytes.{Only}
use Rattle.table.specs.Laws.Nodes.{Placed, Copy}

-- only the entry at place i may differ, and it is this
pub record Entered (s s' : List ℕ) (i k d n : ℕ) : Type 0 where
  pub only : Only (entry_at i) 8 s s'
  pub is : Placed s' i k d n

-- the entries from place p up to n moved up by one place; the one at p is as it was
pub record Shifted (s s' : List ℕ) (p n : ℕ) : Type 0 where
  pub only : Only (entry_at 0) 8192 s s'
  pub low : (i : ℕ) → i ≤ p → Copy s i s' i
  pub moved : (i : ℕ) → p ≤ i → i < n → Copy s i s' (i + 1)
  pub high : (i : ℕ) → n < i → i < 1024 → Copy s i s' i

-- two places exchanged
unfoldable pub exchange : ℕ → ℕ → List Entry → List Entry
exchange i j l = modify i (λ x. get_or l j no_entry) (modify j (λ x. get_or l i no_entry) l)

-- what opening a place leaves: a node at place p with this depth and number, the rest of it as the slot had it
pub record Opened (s s' : List ℕ) (p d n : ℕ) : Type 0 where
  pub node : Marked
  pub number : node.now.number ≡ n
  pub level : node.insertion_level ≡ 0
  pub many : length (nodes s') ≡ length (nodes s) + 1
  pub left : Left s s' (header s) (insert p (d, node) (nodes s))

-- the least depth that is left out behind a node, 0 for none: after one that is left out, one more than its depth
unfoldable pub next_below : (Marked → Bool) → ℕ → Entry → ℕ
next_below shown below x = cond (ltb 0 below && leb below x.0) below (cond (shown x.1) 0 (suc x.0))

-- the mark o of the node (2 inserter, 3 deleter) is not t
abbrev pub not_marked : ℕ → ℕ → Marked → Bool
not_marked o t a = not (eqb (field o a) t)
