-- Entries of the outline stored, and what that does to the nodes.
use Rattle.std.specs.Prelude.{◌≡◌, ℕ, ◌+◌, ◌≤◌, ◌<◌, List, length}
use Rattle.std.proofs.Common.{◌∙◌, arith}
use Rattle.table.specs.Layout.{tabulate, entry_at, word, double_word, count, slot, depth, number, cell, held, decode, Entry, entry}
use Rattle.table.specs.Layout.{Sized, Layout, Left, header}
use Rattle.table.specs.Laws.Bytes.{Only, only_both, only_word, put_word, word_put, word_off}
use Rattle.table.specs.Laws.Bytes.{only_double_word, put_double_word, double_word_put}
use Rattle.table.specs.Laws.Nodes.{Placed, Copy, placed_as, same_place, same_cell, same_held, left_of}
use Rattle.table.specs.Outline.{Entered}

-- another place
pub other_place : {s s' : List ℕ} {i k d n : ℕ} (j : ℕ) → Entered s s' i k d n → (j ≡ i → ⊥) → Copy s j s' j
other_place j e ne = same_place e.only j (λ z. omega (arith, ne))

pub entered_as : {s s' : List ℕ} {i k k' d d' n n' : ℕ} → Entered s s' i k d n → k ≡ k' → d ≡ d' → n ≡ n' → Entered s s' i k' d' n'
entered_as e a b c = record { only = e.only; is = placed_as e.is a b c }

-- two words and a double word stored
pub entered_of : (s s₁ s₂ s₃ : List ℕ) (i k d n p q r : ℕ) → s₁ ≡ put_word s p k → s₂ ≡ put_word s₁ q d → s₃ ≡ put_double_word s₂ r n →
    p ≡ entry_at i → q ≡ entry_at i + 2 → r ≡ entry_at i + 4 → entry_at i + 8 ≤ length s → Entered s s₃ i k d n
unfolding slot depth number
entered_of s s₁ s₂ s₃ i k d n p q r a b c x y z h =
    let o₁ : Only p 2 s s₁ = rw a (only_word s p k) in
    let o₂ : Only q 2 s₁ s₂ = rw b (only_word s₁ q d) in
    let o₃ : Only r 4 s₂ s₃ = rw c (only_double_word s₂ r n) in
    let w₁ : word s₁ p ≡ k = rw a (word_put s p k (omega arith)) in
    let w₂ : word s₂ q ≡ d = rw b (word_put s₁ q d (omega (arith, o₁.long))) in
    let w₃ : double_word s₃ r ≡ n = rw c (double_word_put s₂ r n (omega (arith, o₁.long, o₂.long))) in
    let first = only_both (entry_at i) 8 o₁ o₂ (omega arith) (omega arith) (omega arith) (omega arith) in
    record {
      only = only_both (entry_at i) 8 first o₃ (omega arith) (omega arith) (omega arith) (omega arith);
      is = record {
        slot = rw (← x) (word_off o₃ p (λ t. omega arith) ∙ word_off o₂ p (λ t. omega arith) ∙ w₁);
        depth = rw (← y) (word_off o₃ q (λ t. omega arith) ∙ w₂);
        number = rw (← z) w₃;
      };
    }

-- changes of the count and the outline alone --------------------------------------------------

module _ {s s' : List ℕ} (o : Only 10 8198 s s') where
  pub placed_entry : (i k d n : ℕ) → Placed s' i k d n → entry s' i ≡ (d, decode n (cell s k) (held s k))
  unfolding entry
  placed_entry i k d n c = rw (c.slot, c.depth, c.number, same_cell o k (λ z. omega arith), same_held o (omega arith) k)

  pub copied_entry : (i j : ℕ) → Copy s j s' i → entry s' i ≡ entry s j
  unfolding entry
  copied_entry i j c = placed_entry i _ _ _ c

  -- each place has the slot of one in s, and no two the same: `back` says where the slot of a place of s went
  pub outline_left :
      Layout s → header s' ≡ header s → (n : ℕ) → count s' ≡ n → 1 ≤ n → n ≤ 1024 → (back : ℕ → ℕ) →
      ((i : ℕ) → i < 1024 → (j : ℕ) × (j < 1024) × (slot s' i ≡ slot s j) × (back j ≡ i) × (i < n → Sized (cell s (slot s j)))) →
      (ns : List Entry) → tabulate n (entry s') ≡ ns → Left s s' (header s) ns
  outline_left h same n c a b back from ns e =
      left_of o (omega arith) (omega arith) h n c a b back (λ i l. let f = from i l in (f.0, f.1, f.2, f.3))
      (λ i l. let f = from i (omega arith) in rw (f.2, same_cell o (slot s f.0) (λ z. omega arith)) (f.4 l))
      same e
