-- The numbers of transactions, and their sets as words.
use Rattle.std.specs.Prelude.{◌≡◌, refl, ℕ, ◌-◌, ◌^◌, ◌≤◌, Bool, true, false, cond, leb}
use Rattle.std.proofs.Math.Path.{fun_ext}
use Rattle.std.proofs.Math.Nat.{zero-div}
use Rattle.std.proofs.Common.{leb-true, le-leb}
use Rattle.tree.specs.Laws.Tests.{and_left, and_right}
use Rattle.protocol.specs.State.{is_transaction, in_set}

-- 1 to 16
pub transaction_low : (t : ℕ) → is_transaction t ≡ true → 1 ≤ t
transaction_low t h = leb-true 1 t (and_left (leb 1 t) (leb t 16) h)

pub transaction_high : (t : ℕ) → is_transaction t ≡ true → t ≤ 16
transaction_high t h = leb-true t 16 (and_right (leb 1 t) (leb t 16) h)

pub is_transaction_of : (t : ℕ) → 1 ≤ t → t ≤ 16 → is_transaction t ≡ true
is_transaction_of t a b = rw (le-leb 1 t a, le-leb t 16 b)

-- the empty word is the empty set
pub empty_set : in_set 0 ≡ (λ u. false)
empty_set = fun_ext (λ u. rw (zero-div (2 ^ (u - 1))) (go (is_transaction u)))
  where
    go : (x : Bool) → cond x false false ≡ false
    go true = refl
    go false = refl
