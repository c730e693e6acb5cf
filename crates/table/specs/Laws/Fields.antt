-- The bytes of a cell that stand for themselves, read and stored.
use Rattle.std.specs.Prelude.{◌≡◌, refl, ℕ, zero, suc, ◌+◌, ◌≤◌, ◌<◌, Bool, true, false, cond, List, [], get_or, eqb}
use Rattle.std.proofs.Common.{sym, ap, ◌∙◌, get_or-set_other, eqb-true, ne_eqb}
use native.Mathlib.Omega.{arith}
use Rattle.std.proofs.Math.ListN.{length, set}
use Rattle.std.proofs.Math.Seq.{drop-set-lt}
use Rattle.locks.specs.Modes.{ModeSet}
use Rattle.protocol.specs.State.{nobody, unwritten, wrote, writer_of, Marked, with_update, deleted_by}
use Rattle.table.specs.Lists.{modify}
use Rattle.table.specs.Flat.{second}
use Rattle.table.specs.Layout.{entry_at, cell_size, cell_at, word, double_word, slot, depth, number, cell, decode, Entry, entry}
use Rattle.table.specs.Layout.{nodes, stored, update_of, no_entry, Sized, Layout, Kept}
use Rattle.table.specs.Fields.{field, storable, with_field, saved_bytes, saved_size}
use Rattle.table.specs.Laws.Lists.{getD_set_eqb, modify_same}
use Rattle.table.specs.Laws.Kept.{kept_as}
use Rattle.table.specs.Laws.Bytes.{only_set, only_wider, double_word_off, part_at, part_set}
use Rattle.table.specs.Laws.Nodes.{node_at, length_nodes, length_cell, cell_kept}

-- a byte of the cell of the node at place i
pub cell_byte : (s : List ℕ) (k o : ℕ) → o < cell_size → get_or s (cell_at k + o) 0 ≡ get_or (cell s k) o 0
unfolding cell
cell_byte s k o h = sym (part_at s (cell_at k) cell_size o h)

-- depth and number in an entry of the outline
pub depth_at : (s : List ℕ) (i : ℕ) → i < length (nodes s) → word s (entry_at i + 2) ≡ (get_or (nodes s) i no_entry).0
unfolding depth entry
depth_at s i h = rw (node_at s i (omega (arith, length_nodes s)))

pub number_at : (s : List ℕ) (i : ℕ) → i < length (nodes s) → double_word s (entry_at i + 4) ≡ (get_or (nodes s) i no_entry).1.now.number
unfolding number entry decode
number_at s i h = rw (node_at s i (omega (arith, length_nodes s)))

-- who wrote
pub writer_update : (u : ℕ) (b : List ℕ) → writer_of (update_of u b) ≡ u
writer_update u b = go (eqb u 0) refl
  where
    go : (t : Bool) → eqb u 0 ≡ t → writer_of (cond t unwritten (wrote u 0 b [])) ≡ u
    go true e = sym (eqb-true u 0 e)
    go false e = refl

-- k is the slot of the node at place i
pub field_at : (s : List ℕ) (i o k : ℕ) → k ≡ slot s i → i < length (nodes s) → o < 4
    → get_or s (cell_at k + o) 0 ≡ field o (get_or (nodes s) i no_entry).1
unfolding entry decode
field_at s i o k e h l = rw (e, node_at s i (omega (arith, length_nodes s)), cell_byte s (slot s i) o (omega arith)) (go o l)
  where
    go : (o : ℕ) → o < 4 → get_or (cell s (slot s i)) o 0 ≡ field o (entry s i).1
    go zero l = refl
    go (suc zero) l = sym (writer_update (get_or (cell s (slot s i)) 1 0) (stored 1 (cell s (slot s i))))
    go (suc (suc zero)) l = refl
    go (suc (suc (suc zero))) l = refl
    go (suc (suc (suc (suc o)))) l = absurd (omega arith)

-- one of these bytes stored
module _ (o v : ℕ) (c : List ℕ) (l : o < 4) (e : length c ≡ cell_size) where
  size_byte : (j : ℕ) → 4 ≤ j → get_or (set c o v) j 0 ≡ get_or c j 0
  size_byte j h = get_or-set_other c o j v 0 (λ q. omega arith)

  decode_byte : (m : ℕ) (h : ℕ → ModeSet)
      → decode m (set c o v) h ≡ with_update (update_of (cond (eqb o 1) v (get_or c 1 0)) (stored 1 c)) (with_field o v (decode m c h))
  unfolding decode
  decode_byte m h =
      let k : o < length c = omega arith in
      rw (
        drop-set-lt 6 c o v (omega arith),
        drop-set-lt 38 c o v (omega arith),
        size_byte 4 (omega arith),
        size_byte 5 (omega arith),
        double_word_off (only_set c o v) 70 (λ z. omega arith),
      )
      (simp getD_set_eqb)

  sized_byte : ((cond (eqb o 1) v (get_or c 1 0) ≡ nobody → ⊥) → get_or c 5 0 ≤ 32) → Sized c → Sized (set c o v)
  sized_byte f z = record {
    now = rw (size_byte 4 (omega arith)) z.now;
    saved = λ n. rw (size_byte 5 (omega arith)) (f (λ q. n (getD_set_eqb c o 1 v 0 (omega arith) ∙ q)));
  }

-- a byte that is storable alone
update_field : (o v : ℕ) (c : List ℕ) → storable o v ≡ true
    → update_of (cond (eqb o 1) v (get_or c 1 0)) (stored 1 c) ≡ cond (eqb o 1) unwritten (update_of (get_or c 1 0) (stored 1 c))
update_field zero v c p = refl
update_field (suc zero) v c p = rw p
update_field (suc (suc o)) v c p = rw (ne_eqb (suc (suc o)) 1 (λ q. omega arith))

saved_field : (o v : ℕ) (c : List ℕ) → storable o v ≡ true → Sized c → (cond (eqb o 1) v (get_or c 1 0) ≡ nobody → ⊥) → get_or c 5 0 ≤ 32
saved_field zero v c p z n = z.saved n
saved_field (suc zero) v c p z n = absurd (n (eqb-true v 0 p))
saved_field (suc (suc o)) v c p z n = z.saved (λ q. n (rw (ne_eqb (suc (suc o)) 1 (λ r. omega arith)) q))

-- byte o of the cell of the node at i stored, whose slot is k
module _ (s : List ℕ) (i o v k : ℕ) (e : k ≡ slot s i) (h : Layout s) (l : i < length (nodes s)) (b : o < 4) where
  in_cell : length (cell s k) ≡ cell_size
  in_cell = length_cell s k h.size (rw e (h.slots i (omega (arith, length_nodes s, h.room))))

  byte_kept : (g : Marked → Marked) → ((m : ℕ) (q : ℕ → ModeSet) → decode m (set (cell s k) o v) q ≡ g (decode m (cell s k) q))
      → (Sized (cell s k) → (cond (eqb o 1) v (get_or (cell s k) 1 0) ≡ nobody → ⊥) → get_or (cell s k) 5 0 ≤ 32)
      → Kept s (set s (cell_at k + o) v) (modify i (second g) (nodes s))
  unfolding cell
  byte_kept g d f =
      let p : cell (set s (cell_at k + o) v) k ≡ set (cell s k) o v = part_set s (cell_at k) cell_size o v (omega arith) in
      cell_kept {k = k} (only_wider (cell_at k) cell_size (only_set s (cell_at k + o) v) (omega arith) (omega arith)) h i (sym e)
      (omega (arith, length_nodes s)) g (λ m q y z. rw p (d m q)) (λ z. rw p (sized_byte o v (cell s k) b in_cell (f z) z))

  -- the one law of the four
  pub field_kept : storable o v ≡ true → Kept s (set s (cell_at k + o) v) (modify i (second (with_field o v)) (nodes s))
  unfolding decode
  field_kept t =
      byte_kept (with_field o v) (λ m q. decode_byte o v (cell s k) b in_cell m q ∙ rw (update_field o v (cell s k) t))
      (saved_field o v (cell s k) t)

-- the writer, where the size of what becomes the saved content is in range
pub writer_kept : (s : List ℕ) (i t k : ℕ) → k ≡ slot s i → Layout s → i < length (nodes s) → 1 ≤ t → saved_size s i ≤ 32
    → Kept s (set s (cell_at k + 1) t) (modify i (second (with_update (wrote t 0 (saved_bytes s i) []))) (nodes s))
unfolding saved_bytes saved_size decode
writer_kept s i t k e h l b y =
    byte_kept s i 1 t k e h l (omega arith) (with_update (wrote t 0 (saved_bytes s i) []))
    (λ m q. decode_byte 1 t (cell s k) (omega arith) (in_cell s i 1 t k e h l (omega arith)) m q ∙ rw (ne_eqb t 0 (λ z. omega arith), e))
    (λ z n. rw (← e) at y)

-- all is marked at level 0
pub at_level_0 : (s : List ℕ) (i : ℕ) → i < length (nodes s)
    → ((get_or (nodes s) i no_entry).1.insertion_level ≡ 0) × ((get_or (nodes s) i no_entry).1.deletion_level ≡ 0)
unfolding entry decode
at_level_0 s i l =
    let z = node_at s i (omega (arith, length_nodes s)) in
    (ap (λ (x : Entry). x.1.insertion_level) z, ap (λ (x : Entry). x.1.deletion_level) z)

-- the deleter, at level 0
pub deleted_kept : (s s' : List ℕ) (i v : ℕ) → i < length (nodes s) → Kept s s' (modify i (second (with_field 3 v)) (nodes s))
    → Kept s s' (modify i (second (deleted_by v 0)) (nodes s))
deleted_kept s s' i v l k =
    kept_as _ _ (modify_same i (second (with_field 3 v)) (second (deleted_by v 0)) (nodes s) no_entry (rw (at_level_0 s i l).1)) k
