-- A place opened in the outline: the first free slot is used, the entries from the place on move up.
use Rattle.std.specs.Prelude.{◌≡◌, ℕ, ◌+◌, ◌-◌, ◌≤◌, ◌<◌, Bool, cond, List, length, get_or}
use Rattle.std.proofs.Math.Path.{refl, sym}
use Rattle.std.proofs.Common.{◌∙◌, add-one, add_assoc}
use Rattle.std.proofs.Math.Bool.{true, false}
use native.Mathlib.Omega.{arith}
use Rattle.std.proofs.Math.Dec.{eqb, ltb}
use borrow.Author.Tests.{ltb-true, ltb-false, lt-ltb, le-ltb, eqb-true, eqb-false, eq-eqb, ne_eqb}
use Rattle.protocol.specs.State.{Marked, inserted_by, deleted_by, unwritten, with_inserter, with_update, with_count}
use Rattle.table.specs.Lists.{modify, insert}
use Rattle.table.specs.Layout.{tabulate, count_at, entry_at, cell_size, cell_at, count, slot, depth, number, cell, held, decode, Entry}
use Rattle.table.specs.Layout.{entry, nodes, Sized, Layout, Left, Kept, header}
use Rattle.table.specs.Flat.{second}
use Rattle.table.specs.Fields.{with_kind, with_bytes, unlocked}
use Rattle.table.specs.Laws.Bytes.{Only, only_none, only_wider, only_both, only_word, put_word, word_put, Filled}
use Rattle.table.specs.Laws.Nodes.{Placed, Copy, placed_then, length_nodes, same_header, same_place, same_count, same_held}
use Rattle.table.specs.Laws.Nodes.{other_cell, left_none}
use Rattle.table.specs.Laws.Fields.{cell_byte}
use Rattle.table.specs.Laws.Kept.{left_then, left_as, then_left}
use Rattle.table.specs.Outline.{Entered, Shifted, Opened}
use Rattle.table.specs.Laws.ListInsertion.{insert_tabulate, modify_insert}
use Rattle.table.specs.Laws.Entries.{other_place, copied_entry, placed_entry, outline_left}

-- shifting, entry by entry from the last -----------------------------------------------------

pub shift_start : (s : List ℕ) (n : ℕ) → Shifted s s n n
shift_start s n = record {
  only = only_none (entry_at 0) 8192 s;
  low = λ i h. same i;
  moved = λ i h l. absurd (omega arith);
  high = λ i h l. same i;
}
  where
    same : (i : ℕ) → Copy s i s i
    same i = record { slot = refl; depth = refl; number = refl }

pub shift_turn : {s s' s'' : List ℕ} (k j n : ℕ) → Shifted s s' k n → Entered s' s'' (j + 1) (slot s' j) (depth s' j) (number s' j)
    → k ≡ j + 1 → k ≤ n
    → n < 1024 → Shifted s s'' j n
shift_turn {s} {s'} {s''} k j n f e z a b = record {
  only = only_both (entry_at 0) 8192 f.only e.only (omega arith) (omega arith) (omega arith) (omega arith);
  low = λ i h. placed_then (f.low i (omega arith)) (other_place i e (λ q. omega arith));
  moved = λ i h l. moved i h l (eqb i j) refl;
  high = λ i h l. placed_then (f.high i h l) (other_place i e (λ q. omega arith));
}
  where
    moved : (i : ℕ) → j ≤ i → i < n → (t : Bool) → eqb i j ≡ t → Copy s i s'' (i + 1)
    moved i h l true p = rw (eqb-true i j p) (placed_then (f.low j (omega arith)) e.is)
    moved i h l false p =
        let ne : i ≡ j → ⊥ = eqb-false i j p in
        placed_then (f.moved i (omega (arith, ne)) l) (other_place (i + 1) e (λ q. ne (omega arith)))

pub shift_done : {s s' : List ℕ} (k p n : ℕ) → Shifted s s' k n → p ≤ k → k ≤ p → Shifted s s' p n
shift_done {s} {s'} k p n f a b = let e : k ≡ p = omega arith in rw e at f

-- where the slot of a place goes
unfoldable back : ℕ → ℕ → ℕ → ℕ
back p n j = cond (ltb j p) j (cond (ltb j n) (j + 1) (cond (eqb j n) p j))

module _ (s s₁ s₂ s₃ s₄ : List ℕ) (n p k d m : ℕ) (h : Layout s) (c : count s ≡ n) (room : n < 1024) (l : p ≤ n) (e : k ≡ slot s n)
    (f : Filled (cell_at k + 4) 2 (λ j. 0) s s₁) (g : Shifted s₁ s₂ p n) (x : Entered s₂ s₃ p k d m)
    (y : s₄ ≡ put_word s₃ count_at (n + 1)) where
  in_range : k < 1024
  in_range = rw e (h.slots n room)

  one : Only (cell_at k) cell_size s s₁
  one = only_wider (cell_at k) cell_size f.only (omega arith) (omega arith)

  -- the free slot's cell is nobody's
  first_left : Left s s₁ (header s) (nodes s)
  first_left =
      left_none one h (omega arith) (omega (arith, in_range)) (λ z. omega arith) (λ z. omega arith)
      (same_header one (omega arith) (λ z. omega arith) (omega (arith, in_range)))
      (λ j b. (
        other_cell one (slot s j) (λ q. let z : j ≡ n = h.apart j n (omega arith) room (q ∙ e) in omega arith),
        same_held one (omega (arith, in_range)) (slot s j),
      ))

  no_size : (j : ℕ) → j < 2 → get_or (cell s₁ k) (4 + j) 0 ≡ 0
  no_size j b = sym (cell_byte s₁ k (4 + j) (omega arith)) ∙ rw (← add_assoc (cell_at k) 4 j) (f.bytes j b)

  sized : Sized (cell s₁ k)
  sized = record { now = rw (no_size 0 (omega arith)) (omega arith); saved = λ n. rw (no_size 1 (omega arith)) (omega arith) }

  four : Only count_at 2 s₃ s₄
  four = rw y (only_word s₃ count_at (n + 1))

  only : Only 10 8198 s₁ s₄
  only = only_both 10 8198 (only_both 10 8198 g.only x.only (omega arith) (omega arith) (omega arith) (omega arith)) four
      (omega arith) (omega arith) (omega arith) (omega arith)

  kept_header : header s₄ ≡ header s₁
  kept_header =
      same_header four (omega arith) (λ z. omega arith) (omega arith) ∙ same_header x.only (omega arith) (λ z. omega arith) (omega arith)
      ∙ same_header g.only (omega arith) (λ z. omega arith) (omega arith)

  counted : count s₄ ≡ n + 1
  unfolding count
  counted = rw y (word_put s₃ count_at (n + 1) (omega (arith, x.only.long, g.only.long, f.only.long, h.size)))

  last : (i : ℕ) → Copy s₃ i s₄ i
  last i = same_place four i (λ z. omega arith)

  here : Placed s₄ p k d m
  here = placed_then x.is (last p)

  low : (i : ℕ) → i < p → Copy s₁ i s₄ i
  low i b = placed_then (g.low i (omega arith)) (placed_then (other_place i x (λ q. omega arith)) (last i))

  moved : (i : ℕ) → p ≤ i → i < n → Copy s₁ i s₄ (i + 1)
  moved i a b = placed_then (g.moved i a b) (placed_then (other_place (i + 1) x (λ q. omega arith)) (last (i + 1)))

  high : (i : ℕ) → n < i → i < 1024 → Copy s₁ i s₄ i
  high i a b = placed_then (g.high i a b) (placed_then (other_place i x (λ q. omega arith)) (last i))

  kept_sized : (j : ℕ) → j < n → Sized (cell s₁ (slot s₁ j))
  kept_sized j a = first_left.layout.sizes j (rw (same_count one (λ z. omega arith), c) a)

  from : (i : ℕ) → i < 1024 → (j : ℕ) × (j < 1024) × (slot s₄ i ≡ slot s₁ j) × (back p n j ≡ i) × (i < n + 1 → Sized (cell s₁ (slot s₁ j)))
  unfolding back
  from i b = go (ltb i p) refl (eqb i p) refl (ltb n i) refl
    where
      go : (t : Bool) → ltb i p ≡ t → (u : Bool) → eqb i p ≡ u → (v : Bool) → ltb n i ≡ v
          → (j : ℕ) × (j < 1024) × (slot s₄ i ≡ slot s₁ j) × (back p n j ≡ i) × (i < n + 1 → Sized (cell s₁ (slot s₁ j)))
      go true q u r v w = let a : i < p = ltb-true i p q in (i, b, (low i a).slot, rw q, λ z. kept_sized i (omega arith))
      go false q true r v w =
          let a : k ≡ slot s₁ n = e ∙ sym (same_place one n (λ z. omega arith)).slot in (
            n,
            room,
            rw (eqb-true i p r) (here.slot ∙ a),
            rw (le-ltb n p l, le-ltb n n (omega arith), eq-eqb n n refl) (sym (eqb-true i p r)),
            λ z. rw (← a) sized,
          )
      go false q false r true w =
          let a : n < i = ltb-true n i w in
          (i, b, (high i a b).slot, rw (q, le-ltb i n (omega arith), ne_eqb i n (λ z. omega arith)), λ z. absurd (omega arith))
      go false q false r false w =
          let a : p ≤ i = ltb-false i p q in
          let ne : i ≡ p → ⊥ = eqb-false i p r in
          let t : i ≤ n = ltb-false n i w in
          let j : p ≤ i - 1 = omega (arith, ne) in
          let o : i - 1 < n = omega (arith, ne) in
          let z : i - 1 + 1 ≡ i = omega (arith, ne) in
          (i - 1, omega arith, rw z at (moved (i - 1) j o).slot, rw (le-ltb (i - 1) p j, lt-ltb (i - 1) n o) z, λ y. kept_sized (i - 1) o)

  new : Marked
  new = decode m (cell s₁ k) (held s₁ k)

  pub opened : Opened s s₄ p d m
  unfolding nodes decode new
  opened =
      let q : count s₁ ≡ n = same_count one (λ z. omega arith) ∙ c in
      let list : tabulate (n + 1) (entry s₄) ≡ insert p (d, new) (nodes s₁) =
      rw (add-one n, q) (insert_tabulate n p (entry s₁) (entry s₄) (d, new) l
      (λ i b. copied_entry only i i (low i b)) (placed_entry only p k d m here) (λ i a b. copied_entry only (i + 1) i (moved i a b))) in
      record {
        node = new;
        number = refl;
        level = refl;
        many = length_nodes s₄ ∙ counted ∙ omega (arith, length_nodes s);
        left = then_left (nodes s) (insert p (d, new)) first_left
            (outline_left only first_left.layout kept_header (n + 1) counted (omega arith) (omega arith) (back p n) from
            (insert p (d, new) (nodes s₁)) list);
      }

-- the fields of the new node
pub inserted : {s s₁ s₂ s₃ s₄ s₅ s₆ s₇ s₈ : List ℕ} (p d n kind t : ℕ) (b : List ℕ) → Opened s s₁ p d n →
    Kept s₁ s₂ (modify p (second (with_kind kind)) (nodes s₁)) → Kept s₂ s₃ (modify p (second (with_update unwritten)) (nodes s₂))
    → Kept s₃ s₄ (modify p (second (with_inserter t)) (nodes s₃)) →
    Kept s₄ s₅ (modify p (second (deleted_by 0 0)) (nodes s₄)) → Kept s₅ s₆ (modify p (second (with_bytes b)) (nodes s₅))
    → Kept s₆ s₇ (modify p (second (with_count 0)) (nodes s₆)) → Kept s₇ s₈ (modify p (second unlocked) (nodes s₇)) →
    p ≤ length (nodes s) → Left s s₈ (header s) (insert p (d, inserted_by t 0 (record { number = n; kind = kind; content = b })) (nodes s))
inserted {s} {s₁} {s₂} {s₃} {s₄} {s₅} {s₆} {s₇} {s₈} p d n kind t b o a₁ a₂ a₃ a₄ a₅ a₆ a₇ h =
    let step : (s' s'' : List ℕ) (x : Entry) (f : Marked → Marked) → Left s s' (header s) (insert p x (nodes s))
    → Kept s' s'' (modify p (second f) (nodes s')) → Left s s'' (header s) (insert p (second f x) (nodes s)) =
    λ s' s'' x f l k. left_as _ _ (modify_insert p (second f) x (nodes s) h) (left_then (insert p x (nodes s)) (modify p (second f)) l k) in
    let l =
    step s₇ s₈ _ unlocked (step s₆ s₇ _ (with_count 0) (step s₅ s₆ _ (with_bytes b)
    (step s₄ s₅ _ (deleted_by 0 0)
    (step s₃ s₄ _ (with_inserter t)
    (step s₂ s₃ _ (with_update unwritten) (step s₁ s₂ (d, o.node) (with_kind kind) o.left a₁) a₂) a₃) a₄) a₅) a₆) a₇
    in
    left_as _ _ (rw (o.number, o.level)) l
