-- Nodes taken out: entries exchanged, so that those kept come first, and the count cut down.
use Rattle.std.specs.Prelude.{◌≡◌, ℕ, ◌+◌, ◌≤◌, ◌<◌, Bool, true, false, cond, List, length, take, eqb}
use Rattle.std.proofs.Math.Path.{refl, sym, ap}
use Rattle.std.proofs.Common.{◌∙◌, arith}
use Rattle.std.proofs.Math.Numerals.{add-one}
use Rattle.std.proofs.Math.ListN.{get_or}
use borrow.Author.Tests.{eqb-true, eqb-false, eq-eqb, ne_eqb}
use Rattle.protocol.specs.State.{Marked}
use Rattle.table.specs.Lists.{modify}
use Rattle.table.specs.Passes.{left_out}
use Rattle.table.specs.Layout.{tabulate, count_at, count, slot, depth, number, cell, Entry, entry, nodes, no_entry, Sized, Layout}
use Rattle.table.specs.Layout.{Left, Kept, header}
use Rattle.table.specs.Laws.Lists.{modify_none, tabulate_same, modify_tabulate}
use Rattle.table.specs.Laws.Bytes.{Only, only_wider, only_both, only_word, put_word, word_put}
use Rattle.table.specs.Laws.Nodes.{Copy, placed_then, length_nodes, node_at, same_place, same_count, same_header}
use Rattle.table.specs.Laws.Kept.{kept_same, kept_as, kept_left}
use Rattle.table.specs.Outline.{Entered, exchange, next_below}
use Rattle.table.specs.Laws.ListInsertion.{take_tabulate}
use Rattle.table.specs.Laws.Entries.{other_place, copied_entry, outline_left}

-- two entries exchanged --------------------------------------------------------------------------

-- where the slot of a place goes
unfoldable swap : ℕ → ℕ → ℕ → ℕ
swap i j k = cond (eqb k i) j (cond (eqb k j) i k)

module _ (s s' s'' : List ℕ) (i j : ℕ) (h : Layout s) (l : i < j) (m : j < length (nodes s))
    (a : Entered s s' j (slot s i) (depth s i) (number s i)) (b : Entered s' s'' i (slot s j) (depth s j) (number s j)) where
  below : j < count s
  below = omega (arith, length_nodes s)

  first : Only 10 8198 s s'
  first = let r = h.room in only_wider 10 8198 a.only (omega arith) (omega (arith, below))

  later : Only 10 8198 s' s''
  later = let r = h.room in only_wider 10 8198 b.only (omega arith) (omega (arith, below))

  only : Only 10 8198 s s''
  only = only_both 10 8198 first later (omega arith) (omega arith) (omega arith) (omega arith)

  at_j : Copy s i s'' j
  at_j = placed_then a.is (other_place j b (λ q. omega arith))

  at_other : (k : ℕ) → (k ≡ i → ⊥) → (k ≡ j → ⊥) → Copy s k s'' k
  at_other k x y = placed_then (other_place k a y) (other_place k b x)

  from : (k : ℕ) → k < 1024 → (q : ℕ) × (q < 1024) × (slot s'' k ≡ slot s q) × (swap i j q ≡ k) × (k < count s → Sized (cell s (slot s q)))
  unfolding swap
  from k z = go (eqb k i) refl (eqb k j) refl
    where
      room : j < 1024
      room = omega (arith, below, h.room)

      go : (t : Bool) → eqb k i ≡ t → (u : Bool) → eqb k j ≡ u
          → (q : ℕ) × (q < 1024) × (slot s'' k ≡ slot s q) × (swap i j q ≡ k) × (k < count s → Sized (cell s (slot s q)))
      go true p u q =
          let e = eqb-true k i p in
          (j, room, rw e b.is.slot, rw (ne_eqb j i (λ w. omega arith), eq-eqb j j refl) (sym e), λ x. h.sizes j below)
      go false p true q =
          let e = eqb-true k j q in
          (i, omega (arith, room), rw e at_j.slot, rw (eq-eqb i i refl) (sym e), λ x. h.sizes i (omega (arith, below)))
      go false p false q = (k, z, (at_other k (eqb-false k i p) (eqb-false k j q)).slot, rw (p, q), λ x. h.sizes k x)

  kept_count : count s'' ≡ count s
  kept_count = same_count b.only (λ x. omega arith) ∙ same_count a.only (λ x. omega arith)

  kept_header : header s'' ≡ header s
  kept_header =
      same_header b.only (omega arith) (λ x. omega arith) (omega (arith, below, h.room))
      ∙ same_header a.only (omega arith) (λ x. omega arith) (omega (arith, below, h.room))

  entries : tabulate (count s) (entry s'') ≡ exchange i j (nodes s)
  unfolding exchange nodes
  entries =
      modify_tabulate (count s) i (entry s') (entry s'') (λ x. get_or (nodes s) j no_entry) (omega (arith, below))
      (copied_entry only i j b.is ∙ sym (node_at s j below)) (λ k x ne. copied_entry later k k (other_place k b ne))
      ∙ ap (modify i (λ x. get_or (nodes s) j no_entry))
      (modify_tabulate (count s) j (entry s) (entry s') (λ x. get_or (nodes s) i no_entry) below
      (copied_entry first j i a.is ∙ sym (node_at s i (omega (arith, below)))) (λ k x ne. copied_entry first k k (other_place k a ne)))

  pub exchanged : Kept s s'' (exchange i j (nodes s))
  exchanged =
      kept_left (outline_left only h kept_header (count s) kept_count h.some h.room (swap i j) from (exchange i j (nodes s)) entries)
      (length_nodes s'' ∙ kept_count ∙ sym (length_nodes s))

pub exchanged_none : (s : List ℕ) (i : ℕ) → Layout s → Kept s s (exchange i i (nodes s))
unfolding exchange
exchanged_none s i h =
    kept_as _ _ (sym (modify_none i _ (modify i (λ x. get_or (nodes s) i no_entry) (nodes s)) no_entry
    (rw (modify_none i (λ x. get_or (nodes s) i no_entry) (nodes s) no_entry refl))
    ∙ modify_none i (λ x. get_or (nodes s) i no_entry) (nodes s) no_entry refl)) (kept_same s h)

-- the count cut down
pub cut_left : (s s' : List ℕ) (k : ℕ) → s' ≡ put_word s count_at k → Layout s → 1 ≤ k → k ≤ length (nodes s)
    → Left s s' (header s) (take k (nodes s))
unfolding count nodes
cut_left s s' k e h a b =
    let o : Only count_at 2 s s' = rw e (only_word s count_at k) in
    let n : k ≤ count s = omega (arith, length_nodes s) in
    let w : Only 10 8198 s s' = only_wider 10 8198 o (omega arith) (omega arith) in
    let same : (i : ℕ) → Copy s i s' i = λ i. same_place o i (λ z. omega arith) in
    outline_left w h (same_header o (omega arith) (λ z. omega arith) (omega arith)) k
    (rw e (word_put s count_at k (omega (arith, h.size)))) a (omega (arith, h.room)) (λ i. i)
    (λ i z. (i, z, (same i).slot, refl, λ x. h.sizes i (omega arith))) (take k (nodes s))
    (tabulate_same k (entry s') (entry s) (λ i z. copied_entry w i i (same i)) ∙ take_tabulate (count s) k (entry s) n)

-- the tests of the loop
module _ (shown : Marked → Bool) (below : ℕ) (x : Entry) where
  pub below_out : shown x.1 ≡ false → x.0 + 1 ≡ next_below shown 0 x
  unfolding next_below
  below_out e = rw (e, add-one x.0)

  pub below_kept : shown x.1 ≡ true → 0 ≡ next_below shown 0 x
  unfolding next_below
  below_kept e = rw e

  pub below_deep : left_out below x.0 ≡ true → below ≡ next_below shown below x
  unfolding next_below
  below_deep e = rw e

  pub below_past : left_out below x.0 ≡ false → next_below shown 0 x ≡ next_below shown below x
  unfolding next_below
  below_past e = rw e
