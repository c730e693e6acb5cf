-- A slot at a place from the count on is free: its lock words are nobody's, so that the end of a transaction need not clear them.
use Rattle.std.specs.Prelude.{◌≡◌, ℕ, ◌<◌, Bool, List}
use Rattle.std.proofs.Math.Path.{refl, fun_ext}
use Rattle.std.proofs.Math.Bool.{true, false, cond}
use Rattle.std.proofs.Common.{arith}
use Rattle.locks.specs.Modes.{no_mode, in_word}
use Rattle.protocol.specs.State.{is_transaction, State}
use Rattle.table.specs.Layout.{lock_at, word, count, slot, header, held, nodes, Layout, Left}
use Rattle.table.specs.Laws.Bytes.{Only}
use Rattle.table.specs.Laws.Nodes.{same_header, same_cell, left_none}
use Rattle.form.specs.Form.{Holds}
use Rattle.form.specs.Laws.Free.{holds_same}

-- only lock words of free slots may differ
pub record OnlyFreeLocks (s s' : List ℕ) : Type 0 where
  pub only : Only (lock_at 1 0) 32768 s s'
  pub used : (i : ℕ) → i < count s → (t : ℕ) → is_transaction t ≡ true → word s' (lock_at t (slot s i)) ≡ word s (lock_at t (slot s i))

module _ {s s' : List ℕ} (h : Layout s) (d : OnlyFreeLocks s s') where
  used_held : (i : ℕ) → i < count s → held s' (slot s i) ≡ held s (slot s i)
  unfolding held
  used_held i l = fun_ext (λ t. go t (is_transaction t) refl)
    where
      go : (t : ℕ) (b : Bool) → is_transaction t ≡ b
          → cond b (in_word (word s' (lock_at t (slot s i)))) no_mode ≡ cond b (in_word (word s (lock_at t (slot s i)))) no_mode
      go t true p = rw (d.used i l t p)
      go t false p = refl

  left : Left s s' (header s) (nodes s)
  left =
      left_none d.only h (omega arith) (omega arith) (λ x. omega arith) (λ x. omega arith)
      (same_header d.only (omega arith) (λ x. omega arith) (omega arith))
      (λ j x. let m : slot s j < 1024 = h.slots j (omega (arith, h.room)) in
      (same_cell d.only (slot s j) (λ z. omega arith), used_held j x))

-- bytes that differ only there hold the same state
pub free_locks : {s s' : List ℕ} {M : State} → OnlyFreeLocks s s' → Holds s M → Holds s' M
free_locks d h = holds_same (left h.layout d) h
