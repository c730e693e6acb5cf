-- The count of a node and the number of commits, read and stored.
use Rattle.std.specs.Prelude.{◌≡◌, refl, ℕ, ◌+◌, ◌<◌, List, length, get_or}
use Rattle.std.proofs.Common.{sym, ◌∙◌, arith, add_assoc}
use Rattle.locks.specs.Modes.{ModeSet}
use Rattle.protocol.specs.State.{with_count, with_commits}
use Rattle.table.specs.Lists.{modify}
use Rattle.table.specs.Flat.{second}
use Rattle.table.specs.Layout.{commits_at, cell_size, cell_at, word, double_word, part, slot, cell, commits, header, decode}
use Rattle.table.specs.Layout.{entry, nodes, no_entry, Layout, Left, Kept}
use Rattle.table.specs.Laws.Bytes.{Only, off, only_wider, only_double_word, put_double_word, double_word_put}
use Rattle.table.specs.Laws.Bytes.{part_same}
use Rattle.table.specs.Laws.Nodes.{node_at, length_nodes, length_cell, cell_kept, header_is, same_open, same_remembered, same_cell}
use Rattle.table.specs.Laws.Nodes.{same_held, left_none}
use Rattle.table.specs.Laws.Fields.{cell_byte}

-- 32 bits of a cell
cell_count : (s : List ℕ) (k : ℕ) → double_word (cell s k) 70 ≡ double_word s (cell_at k + 70)
unfolding double_word word
cell_count s k = rw (
  ← cell_byte s k 70 (omega arith),
  ← cell_byte s k 71 (omega arith),
  ← cell_byte s k 72 (omega arith),
  ← cell_byte s k 73 (omega arith),
  add_assoc (cell_at k) 70 1,
  add_assoc (cell_at k) 70 2,
  add_assoc (cell_at k) 72 1,
)

-- k is the slot of the node at i
pub count_read : (s : List ℕ) (i k : ℕ) → k ≡ slot s i → i < length (nodes s)
    → double_word s (cell_at k + 70) ≡ (get_or (nodes s) i no_entry).1.count
unfolding entry decode
count_read s i k e h = rw (e, node_at s i (omega (arith, length_nodes s)), cell_count s (slot s i))

-- of the cell all but the count stays
decode_count : (m v : ℕ) (c c' : List ℕ) (h : ℕ → ModeSet) → length c ≡ cell_size → length c' ≡ length c
    → ((j : ℕ) → j < 70 → get_or c' j 0 ≡ get_or c j 0) → double_word c' 70 ≡ v → decode m c' h ≡ with_count v (decode m c h)
unfolding decode part
decode_count m v c c' h e l f x = rw (
  f 0 (omega arith),
  f 1 (omega arith),
  f 2 (omega arith),
  f 3 (omega arith),
  f 4 (omega arith),
  f 5 (omega arith),
  part_same c c' 6 32 l (λ j a b. f j (omega arith)),
  part_same c c' 38 32 l (λ j a b. f j (omega arith)),
  x,
)

pub count_kept : (s s' : List ℕ) (i k v : ℕ) → k ≡ slot s i → s' ≡ put_double_word s (cell_at k + 70) v → Layout s → i < length (nodes s)
    → Kept s s' (modify i (second (with_count v)) (nodes s))
count_kept s s' i k v e p h l =
    let r : k < 1024 = rw e (h.slots i (omega (arith, length_nodes s, h.room))) in
    let four : Only (cell_at k + 70) 4 s s' = rw p (only_double_word s (cell_at k + 70) v) in
    let only : Only (cell_at k) cell_size s s' = only_wider (cell_at k) cell_size four (omega arith) (omega arith) in
    let long : length (cell s k) ≡ cell_size = length_cell s k h.size r in
    let long' : length (cell s' k) ≡ cell_size = length_cell s' k (rw four.long h.size) r in
    let same : (j : ℕ) → j < 70 → get_or (cell s' k) j 0 ≡ get_or (cell s k) j 0 =
    λ j c. sym (cell_byte s' k j (omega arith)) ∙ off four (cell_at k + j) (λ u. omega arith) ∙ cell_byte s k j (omega arith) in
    let is : double_word (cell s' k) 70 ≡ v = cell_count s' k ∙ rw p (double_word_put s (cell_at k + 70) v (omega (arith, h.size))) in
    cell_kept only h i (sym e) (omega (arith, length_nodes s)) (with_count v)
    (λ m q a z. decode_count m v (cell s k) (cell s' k) q long (long' ∙ sym long) same is)
    (λ z. record {
      now = rw (same 4 (omega arith)) z.now;
      saved = λ n. rw (same 5 (omega arith)) (z.saved (λ q. n (same 1 (omega arith) ∙ q)));
    })

-- the number of commits
pub commits_read : (s : List ℕ) → double_word s commits_at ≡ commits s
unfolding commits
commits_read s = refl

pub commits_left : (s s' : List ℕ) (v : ℕ) → s' ≡ put_double_word s commits_at v → Layout s
    → Left s s' (with_commits v (header s)) (nodes s)
unfolding commits
commits_left s s' v p h =
    let o : Only commits_at 4 s s' = rw p (only_double_word s commits_at v) in
    left_none o h (omega arith) (omega arith) (λ z. omega arith) (λ z. omega arith)
    (header_is s' (same_open o (λ z. omega arith)) (same_remembered o (omega arith)) (rw p (double_word_put s commits_at v
    (omega (arith, h.size)))))
    (λ j q. (same_cell o (slot s j) (λ z. omega arith), same_held o (omega arith) (slot s j)))
