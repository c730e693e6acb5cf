-- The lock words and the word of open transactions, read and stored.
use Rattle.std.specs.Prelude.{◌≡◌, ℕ, zero, suc, ◌+◌, ◌^◌, ◌≤◌, ◌<◌, Bool, List, length, get_or, set, ltb}
use Rattle.std.proofs.Math.Path.{refl, fun_ext}
use Rattle.std.proofs.Common.{sym, ap, ◌∙◌, arith, get_or-set_same, get_or-set_other, below_more}
use Rattle.std.proofs.Math.Nat.{zero-div}
use Rattle.std.proofs.Math.Bool.{true, false, cond}
use Rattle.std.proofs.Math.Dec.{eqb}
use borrow.Author.Tests.{ltb-true, ltb-false, lt-ltb, le-ltb, eqb-true, eqb-false}
use Rattle.tree.specs.Laws.Tests.{refuted}
use Rattle.locks.specs.Modes.{ModeSet, no_mode, in_word, index}
use Rattle.protocol.proofs.Laws.Transactions.{transaction_low, transaction_high, is_transaction_of}
use Rattle.protocol.specs.State.{is_transaction, Marked, released, with_held}
use Rattle.table.specs.Lists.{modify}
use Rattle.table.specs.Flat.{second}
use Rattle.table.specs.Layout.{lock_at, word, count, slot, cell, held, decode, entry, nodes, no_entry, Layout, Kept}
use Rattle.table.specs.Transaction.{Loaded}
use Rattle.table.specs.Fields.{with_modes, unlocked}
use Rattle.table.specs.Laws.Lists.{modify_modify, modify_same, modify_none}
use Rattle.table.specs.Laws.Bytes.{Only, only_none, only_wider, only_word, put_word, word_put, word_off}
use Rattle.table.specs.Laws.Kept.{kept_same, kept_then, kept_as}
use Rattle.table.specs.Laws.Nodes.{node_at, length_nodes, same_cell, kept_of}

-- the empty word
pub no_modes : in_word 0 ≡ no_mode
no_modes = fun_ext (λ a. rw (zero-div (2 ^ index a)))

-- the word of transaction t and the node at i, whose slot is k
pub held_at : (s : List ℕ) (t i k : ℕ) → k ≡ slot s i → 1 ≤ t → t ≤ 16 → i < length (nodes s)
    → in_word (word s (lock_at t k)) ≡ (get_or (nodes s) i no_entry).1.held t
unfolding entry decode held
held_at s t i k e a b l = rw (e, node_at s i (omega (arith, length_nodes s)), is_transaction_of t a b)

-- lock words of t changed
module _ {s s' : List ℕ} (t : ℕ) (o : Only (lock_at t 0) 2048 s s') (a : 1 ≤ t) (b : t ≤ 16) where
  held_after : (k : ℕ) → k < 1024 → held s' k ≡ (λ u. cond (eqb u t) (in_word (word s' (lock_at t k))) (held s k u))
  unfolding held
  held_after k l = fun_ext (λ u. go u (eqb u t) refl (is_transaction u) refl)
    where
      go : (u : ℕ) (x : Bool) → eqb u t ≡ x → (y : Bool) → is_transaction u ≡ y →
          cond (is_transaction u) (in_word (word s' (lock_at u k))) no_mode
          ≡ cond x (in_word (word s' (lock_at t k))) (cond (is_transaction u) (in_word (word s (lock_at u k))) no_mode)
      go u true p y q = rw (eqb-true u t p, is_transaction_of t a b)
      go u false p true q =
          let ne : u ≡ t → ⊥ = eqb-false u t p in
          rw (q, word_off o (lock_at u k) (λ z. omega (arith, ne, transaction_low u q)))
      go u false p false q = rw q

  lock_cell : (j : ℕ) → j < 1024 → cell s' j ≡ cell s j
  lock_cell j c = same_cell o j (λ z. omega arith)

-- one stored: k is the slot of the node at i
pub lock_kept : (s s' : List ℕ) (t i k w : ℕ) → s' ≡ put_word s (lock_at t k) w → k ≡ slot s i → Layout s → 1 ≤ t → t ≤ 16
    → i < length (nodes s)
    → Kept s s' (modify i (second (with_modes t w)) (nodes s))
unfolding decode
lock_kept s s' t i k w q e h a b l =
    let c : i < count s = omega (arith, length_nodes s) in
    let d : k < 1024 = rw e (h.slots i (omega (arith, h.room))) in
    let one : Only (lock_at t k) 2 s s' = rw q (only_word s (lock_at t k) w) in
    let all : Only (lock_at t 0) 2048 s s' = only_wider (lock_at t 0) 2048 one (omega arith) (omega arith) in
    let is : word s' (lock_at t k) ≡ w = rw q (word_put s (lock_at t k) w (omega (arith, h.size))) in
    kept_of one (omega arith) h (omega arith) i c (with_modes t w)
    (rw (← e, lock_cell t all a b k d, held_after t all a b k d, is))
    (λ j x ne. let m : slot s j < 1024 = h.slots j (omega (arith, h.room)) in
    let far : slot s j ≡ k → ⊥ = λ z. ne (h.apart j i (omega (arith, h.room)) (omega (arith, h.room)) (z ∙ e)) in (
      lock_cell t all a b (slot s j) m,
      held_after t all a b (slot s j) m ∙ rw (word_off one (lock_at t (slot s j)) (λ z. omega (arith, far)))
          (sym (held_after t (only_none (lock_at t 0) 2048 s) a b (slot s j) m)),
    ))
    (rw (← e, lock_cell t all a b k d) (rw (← e) at (h.sizes i c)))

-- the empty word stored: t holds nothing there
pub released_kept : {s s' : List ℕ} (t i : ℕ) → Kept s s' (modify i (second (with_modes t 0)) (nodes s))
    → Kept s s' (modify i (second (released t)) (nodes s))
released_kept {s} t i k = kept_as _ _ (modify_same i (second (with_modes t 0)) (second (released t)) (nodes s) no_entry (rw no_modes)) k

-- the words of t by slots
pub loaded_of : (s : List ℕ) (t : ℕ) (modes : List ℕ) → Layout s → 1 ≤ t → t ≤ 16
    → ((k : ℕ) → k < 1024 → get_or modes k 0 ≡ word s (lock_at t k))
    → Loaded s t modes
loaded_of s t modes h a b f = record {
  held = λ i l. rw (f (slot s i) (h.slots i (omega (arith, length_nodes s, h.room)))) (held_at s t i (slot s i) refl a b l);
}

pub loaded_more : (f : ℕ → ℕ) (l : List ℕ) (i v : ℕ) → i < length l → ((k : ℕ) → k < i → get_or l k 0 ≡ f k) → v ≡ f i → (k : ℕ) → k < i + 1
    → get_or (set l i v) k 0 ≡ f k
loaded_more f l i v h all here =
    below_more (λ (k : ℕ). get_or (set l i v) k 0 ≡ f k) i (λ k lt. get_or-set_other l i k v 0 (λ e. omega arith) ∙ all k lt)
    (get_or-set_same l i v 0 h ∙ here)

-- the words of one node cleared, transaction by transaction ------------------------------------

-- only transactions hold anything
pub held_none : (s : List ℕ) (i u : ℕ) → i < length (nodes s) → is_transaction u ≡ false → (get_or (nodes s) i no_entry).1.held u ≡ no_mode
unfolding entry decode held
held_none s i u l e = rw (node_at s i (omega (arith, length_nodes s)), e)

-- those below t hold nothing
unfoldable pub cleared : ℕ → Marked → Marked
cleared t a = with_held (λ u. cond (ltb u t) no_mode (a.held u)) a

same_sets : (a : Marked) (f g : ℕ → ModeSet) → ((u : ℕ) → f u ≡ g u) → with_held f a ≡ with_held g a
same_sets a f g h = ap (λ (q : ℕ → ModeSet). with_held q a) (fun_ext h)

cleared_none : (a : Marked) → a.held 0 ≡ no_mode → cleared 1 a ≡ a
unfolding cleared
cleared_none a h = same_sets a _ a.held go
  where
    go : (u : ℕ) → cond (ltb u 1) no_mode (a.held u) ≡ a.held u
    go zero = sym h
    go (suc u) = rw (le-ltb (suc u) 1 (omega arith))

cleared_more : (t : ℕ) (a : Marked) → with_modes t 0 (cleared t a) ≡ cleared (t + 1) a
unfolding cleared
cleared_more t a = same_sets a _ _ (λ u. go u (eqb u t) refl (ltb u t) refl)
  where
    go : (u : ℕ) (x : Bool) → eqb u t ≡ x → (y : Bool) → ltb u t ≡ y
        → cond x (in_word 0) (cond y no_mode (a.held u)) ≡ cond (ltb u (t + 1)) no_mode (a.held u)
    go u true p y q = rw (no_modes, lt-ltb u (t + 1) (omega (arith, eqb-true u t p)))
    go u false p true q = rw (lt-ltb u (t + 1) (omega (arith, ltb-true u t q)))
    go u false p false q = let ne : u ≡ t → ⊥ = eqb-false u t p in rw (le-ltb u (t + 1) (omega (arith, ltb-false u t q, ne)))

cleared_all : (a : Marked) → ((u : ℕ) → is_transaction u ≡ false → a.held u ≡ no_mode) → cleared 17 a ≡ unlocked a
unfolding cleared
cleared_all a h = same_sets a _ _ (λ u. go u (ltb u 17) refl)
  where
    go : (u : ℕ) (x : Bool) → ltb u 17 ≡ x → cond x no_mode (a.held u) ≡ no_mode
    go u true p = refl
    go u false p = h u (refuted (is_transaction u) (λ e. omega (arith, ltb-false u 17 p, transaction_high u e)))

-- the loop: start, a turn, the end
pub clear_start : (s : List ℕ) (i : ℕ) → Layout s → i < length (nodes s) → Kept s s (modify i (second (cleared 1)) (nodes s))
clear_start s i h l =
    kept_as _ _
    (sym (modify_none i (second (cleared 1)) (nodes s) no_entry (rw (cleared_none (get_or (nodes s) i no_entry).1
    (held_none s i 0 l refl)))))
    (kept_same s h)

pub clear_turn : {s s' s'' : List ℕ} (i t : ℕ) → Kept s s' (modify i (second (cleared t)) (nodes s))
    → Kept s' s'' (modify i (second (with_modes t 0)) (nodes s')) → Kept s s'' (modify i (second (cleared (t + 1))) (nodes s))
clear_turn {s} i t a b =
    kept_as _ _ (modify_modify i (second (with_modes t 0)) (second (cleared t)) (nodes s)
    ∙ modify_same i _ (second (cleared (t + 1))) (nodes s) no_entry (rw (cleared_more t (get_or (nodes s) i no_entry).1)))
    (kept_then (modify i (second (cleared t)) (nodes s)) (modify i (second (with_modes t 0))) a b)

pub clear_done : {s s' : List ℕ} (i t : ℕ) → i < length (nodes s) → t ≡ 17 → Kept s s' (modify i (second (cleared t)) (nodes s))
    → Kept s s' (modify i (second unlocked) (nodes s))
clear_done {s} {s'} i t l e a =
    let b : Kept s s' (modify i (second (cleared 17)) (nodes s)) = rw e at a in
    kept_as _ _ (modify_same i (second (cleared 17)) (second unlocked) (nodes s) no_entry
    (rw (cleared_all (get_or (nodes s) i no_entry).1 (λ u x. held_none s i u l x)))) b
