-- The contents of a node, read and stored: o is 0 for the one now, 1 for the one saved.
use Rattle.std.specs.Prelude.{◌≡◌, Bool, true, false, cond, not, length, take, drop, set, eqb}
use Rattle.std.proofs.Math.Path.{refl, sym, ap}
use Rattle.std.proofs.Common.{◌∙◌, true≢false, arith, add_assoc, length-drop, eq-eqb, ne_eqb, get_or-set_same, get_or-set_other, get_or-take, get_or-drop, ext_get_or, length-take-le}
use Prim.Native.Nat.{ℕ, zero, suc, ◌+◌, ◌*◌, ◌-◌, ◌≤◌, ◌<◌}
use mathlib.Core.List.{List, []}
use Rattle.std.proofs.Math.ListN.{get_or}
use Rattle.locks.specs.Modes.{ModeSet}
use Rattle.protocol.specs.State.{nobody, Update, unwritten, wrote, writer_of, saved_of, Marked, with_update, saving}
use Rattle.table.specs.Lists.{modify}
use Rattle.table.specs.Flat.{second}
use Rattle.table.specs.Layout.{cell_size, cell_at, double_word, part, count, slot, cell, stored, update_of, decode}
use Rattle.table.specs.Layout.{Entry, entry, nodes, no_entry, Sized, Layout, Kept}
use Rattle.table.specs.Fields.{has_text, text, with_text, restored, Stored, marked_written, saved_bytes, saved_size}
use Rattle.table.specs.Laws.Lists.{modify_modify, modify_same}
use Rattle.table.specs.Laws.Bytes.{Only, off, only_set, only_both, Filled, part_same, double_word_same}
use Rattle.table.specs.Laws.Kept.{kept_then, kept_as}
use Rattle.table.specs.Laws.Nodes.{node_at, length_nodes, length_cell, same_place, cell_kept}
use Rattle.table.specs.Laws.Fields.{cell_byte, writer_update}

has_two : (o : ℕ) (a : Marked) → has_text o a ≡ true → o < 2
has_two zero a h = omega arith
has_two (suc zero) a h = omega arith
has_two (suc (suc o)) a h = absurd (true≢false (sym h))

saved_update : (u : ℕ) (b : List ℕ) → not (eqb (writer_of (update_of u b)) nobody) ≡ true → saved_of (update_of u b) ≡ b
saved_update u b = go (eqb u nobody)
  where
    go : (t : Bool) → not (eqb (writer_of (cond t unwritten (wrote u 0 b []))) nobody) ≡ true
        → saved_of (cond t unwritten (wrote u 0 b [])) ≡ b
    go true h = absurd (true≢false (sym h))
    go false h = refl

text_stored : (o m : ℕ) (c : List ℕ) (h : ℕ → ModeSet) → has_text o (decode m c h) ≡ true → text o (decode m c h) ≡ stored o c
unfolding decode
text_stored zero m c h l = refl
text_stored (suc zero) m c h l = saved_update (get_or c 1 0) (stored 1 c) l
text_stored (suc (suc o)) m c h l = absurd (true≢false (sym l))

-- a content with its size in range
size_stored : (o m : ℕ) (c : List ℕ) (h : ℕ → ModeSet) → has_text o (decode m c h) ≡ true → Sized c → get_or c (4 + o) 0 ≤ 32
unfolding decode
size_stored zero m c h l z = z.now
size_stored (suc zero) m c h l z = z.saved (λ e. true≢false (sym l ∙ rw e))
size_stored (suc (suc o)) m c h l z = absurd (true≢false (sym l))

length_stored : (o : ℕ) (c : List ℕ) → o < 2 → length c ≡ cell_size → get_or c (4 + o) 0 ≤ 32 → length (stored o c) ≡ get_or c (4 + o) 0
length_stored o c l e z =
    let d : length (drop (6 + 32 * o) c) ≡ 68 - 32 * o = simp length-drop (omega arith) in
    let w : length (take 32 (drop (6 + 32 * o) c)) ≡ 32 = length-take-le 32 (drop (6 + 32 * o) c) (omega arith) in
    length-take-le (get_or c (4 + o) 0) (take 32 (drop (6 + 32 * o) c)) (omega arith)

byte_stored : (o j : ℕ) (c : List ℕ) → o < 2 → get_or c (4 + o) 0 ≤ 32 → j < get_or c (4 + o) 0
    → get_or (stored o c) j 0 ≡ get_or c (6 + 32 * o + j) 0
byte_stored o j c l z k =
    get_or-take (get_or c (4 + o) 0) (take 32 (drop (6 + 32 * o) c)) j 0 k ∙ get_or-take 32 (drop (6 + 32 * o) c) j 0 (omega arith)
    ∙ get_or-drop (6 + 32 * o) c j 0

-- reading: k is the slot of the node at i
module _ (s : List ℕ) (i o k : ℕ) (e : k ≡ slot s i) (h : Layout s) (l : i < length (nodes s)) where
  here : i < count s
  here = omega (arith, length_nodes s)

  in_range : k < 1024
  in_range = rw e (h.slots i (omega (arith, here, h.room)))

  module _ (w : has_text o (get_or (nodes s) i no_entry).1 ≡ true) where
    pub two : o < 2
    two = has_two o (get_or (nodes s) i no_entry).1 w

    in_entry : has_text o (entry s i).1 ≡ true
    in_entry = rw (node_at s i here) at w

    small : get_or (cell s k) (4 + o) 0 ≤ 32
    unfolding entry
    small = rw e (size_stored o _ (cell s (slot s i)) _ in_entry (h.sizes i here))

    text_is : text o (get_or (nodes s) i no_entry).1 ≡ stored o (cell s k)
    unfolding entry
    text_is = rw (node_at s i here, e) (text_stored o _ (cell s (slot s i)) _ in_entry)

    length_is : length (stored o (cell s k)) ≡ get_or (cell s k) (4 + o) 0
    length_is = length_stored o (cell s k) two (length_cell s k h.size in_range) small

    pub size_at : get_or s (cell_at k + 4 + o) 0 ≡ length (text o (get_or (nodes s) i no_entry).1)
    size_at = rw (text_is, length_is, add_assoc (cell_at k) 4 o) (cell_byte s k (4 + o) (omega (arith, two)))

    pub byte_at : (j : ℕ) → j < length (text o (get_or (nodes s) i no_entry).1)
        → get_or s (cell_at k + 6 + 32 * o + j) 0 ≡ get_or (text o (get_or (nodes s) i no_entry).1) j 0
    byte_at j q =
        let r : j < length (stored o (cell s k)) = rw text_is at q in
        let p : cell_at k + 6 + 32 * o + j ≡ cell_at k + (6 + 32 * o + j) = omega arith in
        rw (text_is, p, byte_stored o j (cell s k) two small (omega (arith, length_is)))
        (cell_byte s k (6 + 32 * o + j) (omega (arith, two, length_is, small)))

    pub size_small : length (text o (get_or (nodes s) i no_entry).1) ≤ 32
    size_small = rw text_is (omega (arith, length_is, small))

-- storing --------------------------------------------------------------------------------

decode_text : (o m : ℕ) (c c' b : List ℕ) (h : ℕ → ModeSet) → o < 2 →
    ((j : ℕ) → j < 4 → get_or c' j 0 ≡ get_or c j 0) → get_or c' (5 - o) 0 ≡ get_or c (5 - o) 0 →
    take 32 (drop (38 - 32 * o) c') ≡ take 32 (drop (38 - 32 * o) c) → stored o c' ≡ b → double_word c' 70 ≡ double_word c 70
    → decode m c' h ≡ with_text o b (decode m c h)
unfolding decode
decode_text zero m c c' b h l f y p e n = rw (f 0 (omega arith), f 1 (omega arith), f 2 (omega arith), f 3 (omega arith), y, p, e, n)
decode_text (suc zero) m c c' b h l f y p e n =
    rw (f 0 (omega arith), f 1 (omega arith), f 2 (omega arith), f 3 (omega arith), y, p, e, n, writer_update (get_or c 1 0) (stored 1 c))
decode_text (suc (suc o)) m c c' b h l f y p e n = absurd (omega arith)

sized_text : (o : ℕ) (c c' : List ℕ) → o < 2 → get_or c' 1 0 ≡ get_or c 1 0 → get_or c' (5 - o) 0 ≡ get_or c (5 - o) 0 → get_or c' (4 + o) 0 ≤ 32
    → Sized c → Sized c'
sized_text zero c c' l w y x z = record { now = x; saved = λ n. rw y (z.saved (λ e. n (w ∙ e))) }
sized_text (suc zero) c c' l w y x z = record { now = rw y z.now; saved = λ n. x }
sized_text (suc (suc o)) c c' l w y x z = absurd (omega arith)

-- the size x and n bytes by a rule are stored at the places p and q, the first bytes those of b
pub stored_kept : (s s'' : List ℕ) (i o k x p q n : ℕ) (v : ℕ → ℕ) (b : List ℕ) → k ≡ slot s i →
    Filled q n v (set s p x) s'' → p ≡ cell_at k + 4 + o → q ≡ cell_at k + 6 + 32 * o →
    Layout s → i < length (nodes s) → o < 2 → x ≡ length b → length b ≤ n → n ≤ 32 → ((j : ℕ) → j < length b → v j ≡ get_or b j 0) →
    Stored s s'' i o b
unfolding part
stored_kept s s'' i o k x p q n v b e f y w h l two a m n32 g =
    let r : k < 1024 = in_range s i o k e h l in
    let only : Only (cell_at k) cell_size s s'' =
    only_both (cell_at k) cell_size (only_set s p x) f.only (omega arith) (omega arith) (omega arith) (omega arith) in
    -- the other bytes of the cell
    let same : (j : ℕ) → j < cell_size → (j ≡ 4 + o → ⊥) → (6 + 32 * o ≤ j → 38 + 32 * o ≤ j) → get_or (cell s'' k) j 0 ≡ get_or (cell s k) j 0 =
    λ j c d z. sym (cell_byte s'' k j c) ∙ off f.only (cell_at k + j) (λ u. let t = z (omega arith) in omega arith)
    ∙ get_or-set_other s p (cell_at k + j) x 0 (λ u. d (omega arith)) ∙ cell_byte s k j c in
    let long : length (cell s k) ≡ cell_size = length_cell s k h.size r in
    let long'' : length (cell s'' k) ≡ cell_size = length_cell s'' k (rw only.long h.size) r in
    let at_size : cell_at k + (4 + o) ≡ p = omega arith in
    let size : get_or (cell s'' k) (4 + o) 0 ≡ length b =
    sym (cell_byte s'' k (4 + o) (omega arith)) ∙ rw at_size (f.only.low p (omega arith) ∙ get_or-set_same s p x 0
    (omega (arith, h.size)) ∙ a) in
    let is : stored o (cell s'' k) ≡ b =
    ext_get_or 0 (stored o (cell s'' k)) b (length_stored o (cell s'' k) two long'' (omega arith) ∙ size)
    (λ j z. let c : j < length b = omega (arith, length_stored o (cell s'' k) two long'' (omega arith), size) in
    let at : cell_at k + (6 + 32 * o + j) ≡ q + j = omega arith in
    let byte : get_or (cell s'' k) (6 + 32 * o + j) 0 ≡ get_or b j 0 =
    sym (cell_byte s'' k (6 + 32 * o + j) (omega arith)) ∙ rw at (f.bytes j (omega arith) ∙ g j c) in
    byte_stored o j (cell s'' k) two (omega arith) (omega arith) ∙ byte) in
    let there : slot s'' i ≡ k = (same_place only i (λ z. omega (arith, here s i o k e h l, h.room))).slot ∙ sym e in
    let first : (j : ℕ) → j < 4 → get_or (cell s'' k) j 0 ≡ get_or (cell s k) j 0 =
    λ j c. same j (omega arith) (λ u. omega arith) (λ u. omega arith) in
    let other : get_or (cell s'' k) (5 - o) 0 ≡ get_or (cell s k) (5 - o) 0 = same (5 - o) (omega arith) (λ u. omega arith) (λ u. omega arith) in
    record {
      kept = cell_kept only h i (sym e) (here s i o k e h l) (with_text o b)
          (λ m held t z. decode_text o m (cell s k) (cell s'' k) b held two first other
          (part_same (cell s k) (cell s'' k) (38 - 32 * o) 32 (long'' ∙ sym long)
          (λ j c d. same j (omega arith) (λ u. omega arith) (λ u. omega arith))) is
          (double_word_same (cell s k) (cell s'' k) 70 (λ j c d. same j (omega arith) (λ u. omega arith) (λ u. omega arith))))
          (λ z. sized_text o (cell s k) (cell s'' k) two (first 1 (omega arith)) other (omega arith) z);
      bytes = rw there is;
      size = rw there (omega arith);
    }

-- the content o of the node at i stored as its content o', from the places p and q
pub copied_kept : (s s'' : List ℕ) (i o o' k p q p' q' : ℕ) → k ≡ slot s i →
    Filled q' 32 (λ j. get_or (set s p' (get_or s p 0)) (q + j) 0) (set s p' (get_or s p 0)) s'' →
    p ≡ cell_at k + 4 + o → q ≡ cell_at k + 6 + 32 * o → p' ≡ cell_at k + 4 + o' → q' ≡ cell_at k + 6 + 32 * o' →
    Layout s → i < length (nodes s) → has_text o (get_or (nodes s) i no_entry).1 ≡ true → o' < 2
    → Stored s s'' i o' (text o (get_or (nodes s) i no_entry).1)
copied_kept s s'' i o o' k p q p' q' e f y z y' z' h l a c =
    let b : List ℕ = text o (get_or (nodes s) i no_entry).1 in
    stored_kept s s'' i o' k (get_or s p 0) p' q' 32 _ b e f y' z' h l c
    (ap (λ (m : ℕ). get_or s m 0) y ∙ size_at s i o k e h l a) (size_small s i o k e h l a) (omega arith)
    (λ j w. get_or-set_other s p' (q + j) (get_or s p 0) 0 (λ r. omega (arith, two s i o k e h l a))
    ∙ ap (λ (m : ℕ). get_or s (m + j) 0) z ∙ byte_at s i o k e h l a j w)

-- the saved content copied back
pub restored_kept : (s s' : List ℕ) (i : ℕ) → Stored s s' i 0 (text 1 (get_or (nodes s) i no_entry).1)
    → Kept s s' (modify i (second restored) (nodes s))
restored_kept s s' i t = kept_as _ _ (modify_same i _ (second restored) (nodes s) no_entry refl) t.kept

-- the writer stored ------------------------------------------------------------------------

-- where nobody wrote nothing is saved
pub not_written : (s : List ℕ) (i : ℕ) → i < length (nodes s) → writer_of (get_or (nodes s) i no_entry).1.update ≡ nobody
    → (get_or (nodes s) i no_entry).1.update ≡ unwritten
unfolding entry decode
not_written s i l h =
    let z = node_at s i (omega (arith, length_nodes s)) in
    let c : List ℕ = cell s (slot s i) in
    ap (λ (x : Entry). x.1.update) z ∙ go (get_or c 1 0) (stored 1 c) (sym (ap (λ (x : Entry). writer_of x.1.update) z) ∙ h)
  where
    go : (u : ℕ) (b : List ℕ) → writer_of (update_of u b) ≡ nobody → update_of u b ≡ unwritten
    go u b e = rw (eq-eqb u nobody (sym (writer_update u b) ∙ e))

-- t writes over the content c: what is saved then, where b were the saved bytes
saving_update : (t u : ℕ) (c b : List ℕ) → saving t 0 c (update_of u b) ≡ wrote t 0 (cond (eqb u nobody) c b) []
saving_update t u c b = go (eqb u nobody)
  where
    go : (x : Bool) → saving t 0 c (cond x unwritten (wrote u 0 b [])) ≡ wrote t 0 (cond x c b) []
    go true = refl
    go false = refl

-- t becomes the writer of the node at i, which u wrote
module _ (s : List ℕ) (i t u : ℕ) (e : u ≡ writer_of (get_or (nodes s) i no_entry).1.update) (l : i < length (nodes s)) where
  a : Marked
  a = (get_or (nodes s) i no_entry).1

  saving_node : (c : List ℕ) → saving t 0 c a.update ≡ wrote t 0 (cond (eqb u nobody) c (saved_bytes s i)) []
  unfolding a entry decode saved_bytes
  saving_node c =
      let z = node_at s i (omega (arith, length_nodes s)) in
      let w : u ≡ get_or (cell s (slot s i)) 1 0 = e ∙ ap (λ (x : Entry). writer_of x.1.update) z
      ∙ writer_update (get_or (cell s (slot s i)) 1 0) (stored 1 (cell s (slot s i))) in
      ap (λ (x : Entry). saving t 0 c x.1.update) z
      ∙ saving_update t (get_or (cell s (slot s i)) 1 0) c (stored 1 (cell s (slot s i))) ∙ rw w

  written : {s₁ : List ℕ} (g : Marked → Marked) → g a ≡ marked_written t a → Kept s s₁ (modify i (second g) (nodes s))
      → Kept s s₁ (modify i (second (marked_written t)) (nodes s))
  unfolding a
  written g q k =
      kept_as _ _ (modify_same i (second g) (second (marked_written t)) (nodes s) no_entry
      (ap (λ (b : Marked). ((get_or (nodes s) i no_entry).0, b)) q)) k

  -- what is saved stays
  module _ (h : Layout s) (n : u ≡ nobody → ⊥) where
    has_saved : has_text 1 a ≡ true
    unfolding a
    has_saved = rw (ne_eqb (writer_of a.update) nobody (λ q. n (e ∙ q)))

    pub over_size : saved_size s i ≤ 32
    unfolding a has_saved saved_size
    over_size = small s i 1 (slot s i) refl h l has_saved

    pub written_over : {s₁ : List ℕ} → Kept s s₁ (modify i (second (with_update (wrote t 0 (saved_bytes s i) []))) (nodes s))
        → Kept s s₁ (modify i (second (marked_written t)) (nodes s))
    unfolding a written saved_bytes saving_node
    written_over k =
        written (with_update (wrote t 0 (saved_bytes s i) []))
        (ap (λ (x : Update). with_update x a) (sym (saving_node a.now.content ∙ rw (ne_eqb u nobody n)))) k

  -- the content now is saved first
  pub written_first : {s₁ s₂ : List ℕ} → u ≡ nobody → Stored s s₁ i 1 (get_or (nodes s) i no_entry).1.now.content
      → Kept s₁ s₂ (modify i (second (with_update (wrote t 0 (saved_bytes s₁ i) []))) (nodes s₁))
      → Kept s s₂ (modify i (second (marked_written t)) (nodes s))
  unfolding a written saved_bytes saving_node
  written_first {s₁} n m k =
      let b : List ℕ = a.now.content in
      let f : Marked → Marked = with_update (wrote t 0 (saved_bytes s₁ i) []) in
      written (λ x. f (with_text 1 b x))
      (ap (λ (x : Update). with_update x a) (ap (λ (x : List ℕ). wrote t 0 x []) m.bytes ∙ sym (saving_node b ∙ rw (eq-eqb u nobody n))))
      (kept_as _ _ (modify_modify i (second f) (second (with_text 1 b)) (nodes s))
      (kept_then (modify i (second (with_text 1 b)) (nodes s)) (modify i (second f)) m.kept k))
