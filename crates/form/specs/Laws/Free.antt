-- A content is saved only where somebody wrote: elsewhere its bytes and its size are free.
use Rattle.std.specs.Prelude.{◌≡◌, ℕ, ◌+◌, ◌≤◌, ◌<◌, List, length, get_or, take, drop}
use Rattle.std.proofs.Math.Path.{refl, sym}
use Rattle.std.proofs.Common.{◌∙◌, arith}
use Rattle.protocol.specs.State.{nobody, State}
use Rattle.table.specs.Flat.{second}
use Rattle.table.specs.Layout.{cell_size, cell_at, double_word, part, slot, cell, header, decode, nodes, no_entry, Layout, Left, Kept}
use Rattle.table.specs.Laws.Lists.{modify_none}
use Rattle.table.specs.Laws.Bytes.{Only, part_same, double_word_same}
use Rattle.table.specs.Laws.Nodes.{length_nodes, length_cell, cell_kept}
use Rattle.table.specs.Laws.Fields.{cell_byte}
use Rattle.table.specs.Laws.Kept.{left_kept, kept_as}
use Rattle.form.specs.Form.{Holds}

-- bytes that leave the header and the nodes hold the same state
pub holds_same : {s s' : List ℕ} {M : State} → Left s s' (header s) (nodes s) → Holds s M → Holds s' M
holds_same l h = record {
  layout = l.layout;
  header = l.header ∙ h.header;
  rows = l.nodes ∙ h.rows;
  unique = rw l.nodes h.unique;
  valid = h.valid;
  sets = h.sets;
}

-- only the saved content in the cell of slot k and its size may differ
pub record OnlySaved (k : ℕ) (s s' : List ℕ) : Type 0 where
  pub long : length s' ≡ length s
  pub same : (j : ℕ) → (j ≡ cell_at k + 5 → ⊥) → (cell_at k + 38 ≤ j → cell_at k + 70 ≤ j) → get_or s' j 0 ≡ get_or s j 0

module _ {s s' : List ℕ} (h : Layout s) (i : ℕ) (l : i < length (nodes s)) (d : OnlySaved (slot s i) s s')
    (u : get_or (cell s (slot s i)) 1 0 ≡ nobody) where
  k : ℕ
  k = slot s i

  in_range : k < 1024
  unfolding k
  in_range = h.slots i (omega (arith, length_nodes s, h.room))

  one_cell : Only (cell_at k) cell_size s s'
  unfolding k
  one_cell = record {
    long = d.long;
    low = λ j x. d.same j (λ e. omega arith) (λ y. omega arith);
    high = λ j x. d.same j (λ e. omega arith) (λ y. omega arith);
  }

  other : (j : ℕ) → j < cell_size → (j ≡ 5 → ⊥) → (38 ≤ j → 70 ≤ j) → get_or (cell s' k) j 0 ≡ get_or (cell s k) j 0
  unfolding k
  other j x ne far =
      sym (cell_byte s' k j x) ∙ d.same (cell_at k + j) (λ e. ne (omega arith)) (λ y. let z = far (omega arith) in omega arith)
      ∙ cell_byte s k j x

  byte : (j : ℕ) → j < 38 → (j ≡ 5 → ⊥) → get_or (cell s' k) j 0 ≡ get_or (cell s k) j 0
  byte j x ne = other j (omega arith) ne (λ y. omega arith)

  counts : double_word (cell s' k) 70 ≡ double_word (cell s k) 70
  counts = double_word_same (cell s k) (cell s' k) 70 (λ j x y. other j (omega arith) (λ e. omega arith) (λ z. x))

  content : take 32 (drop 6 (cell s' k)) ≡ take 32 (drop 6 (cell s k))
  unfolding part
  content = part_same (cell s k) (cell s' k) 6 32
      (length_cell s' k (rw d.long h.size) in_range ∙ sym (length_cell s k h.size in_range))
      (λ j x y. byte j (omega arith) (λ e. omega arith))

  kept : Kept s s' (nodes s)
  unfolding decode k
  kept = kept_as _ _ (modify_none i (second (λ a. a)) (nodes s) no_entry refl)
      (cell_kept one_cell h i refl (omega (arith, length_nodes s)) (λ a. a)
      (λ m g q z. rw (
        byte 0 (omega arith) (λ e. omega arith),
        byte 1 (omega arith) (λ e. omega arith),
        byte 2 (omega arith) (λ e. omega arith),
        byte 3 (omega arith) (λ e. omega arith),
        byte 4 (omega arith) (λ e. omega arith),
        content,
        counts,
        u,
      ))
      (λ z. record {
        now = rw (byte 4 (omega arith) (λ e. omega arith)) z.now;
        saved = λ n. absurd (n (byte 1 (omega arith) (λ e. omega arith) ∙ u));
      }))

-- bytes that differ only there, in a cell whose writer is 0, hold the same state
pub saved_free : {s s' : List ℕ} {M : State} (i : ℕ) → i < length (nodes s) → get_or (cell s (slot s i)) 1 0 ≡ nobody
    → OnlySaved (slot s i) s s' → Holds s M → Holds s' M
saved_free i l u d h = holds_same (left_kept (kept h.layout i l d u)) h
