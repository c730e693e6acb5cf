-- The bits of a wait set are the transactions that block; lists of transactions.
use Rattle.std.specs.Prelude.{ℕ, zero, suc, ◌+◌, ◌-◌, ◌*◌, ◌/◌, ◌%◌, ◌^◌, ◌<◌, ◌≤◌, ◌≡◌, refl, Bool, true, false, cond, eqb, leb}
use Rattle.std.proofs.Common.{sym, ap, ◌∙◌, true≢false, arith, mul-zero, mul-add, mul_assoc, mul_left_comm, eqb-true, leb-true}
use mathlib.Core.List.{List, [], ◌∷◌, Memᴰ}
use Rattle.std.proofs.Math.Nat.{zero-div, pow-succ'}
use Rattle.std.proofs.lemmas.Bool.{eqb-false}
use Rattle.tree.specs.Lists.{has, keep, distinct}
use Rattle.tree.specs.Laws.Tests.{and_left, and_right, refuted}
use Rattle.tree.specs.Laws.Lists.{has_in, in_has, in_keep, keep_in, map_self}
use Rattle.tree.specs.Laws.Distinct.{distinct_keep}
use Rattle.locks.specs.Words.{word}
use Rattle.locks.specs.Modes.{bit}
use Rattle.locks.proofs.Laws.Words.{word_small}
use Rattle.locks.proofs.Laws.Sets.{word_bit}
use Rattle.serializability.proofs.Laws.Tests.{by_test}
use Rattle.protocol.specs.State.{transactions, is_transaction}
use Rattle.protocol.specs.Calls.{sum_of_bits}

-- i, i + 1, .. , n of them
abbrev numbers_from : ℕ → ℕ → List ℕ
numbers_from i zero = []
numbers_from i (suc n) = i ∷ numbers_from (suc i) n

-- the sum is the word of these bits
sum_from : (q : ℕ → Bool) (n i : ℕ) → sum_of_bits q (numbers_from (suc i) n) ≡ 2 ^ i * word q n (suc i)
unfolding word
sum_from q zero i = sym (mul-zero (2 ^ i))
sum_from q (suc n) i =
    let w = word q n (suc (suc i)) in
    let e : suc i - 1 ≡ i = omega arith in
    rw (
      sum_from q n (suc i),
      pow-succ' 2 i,
      e,
      mul-add (2 ^ i) (cond (q (suc i)) 1 0) (2 * w),
      mul_left_comm (2 ^ i) 2 w,
      mul_assoc 2
          (2 ^ i) w,
    )
    (by_test (q (suc i)) (λ t. rw t (omega arith)) (λ t. rw t (omega arith)))

sum_word : (q : ℕ → Bool) → sum_of_bits q transactions ≡ word q 16 1
sum_word q = sum_from q 16 0 ∙ omega arith

-- bit t-1 tells whether t passes
pub sum_bit : (q : ℕ → Bool) (u : ℕ) → is_transaction u ≡ true → bit (sum_of_bits q transactions) (u - 1) ≡ q u
sum_bit q u h =
    let low : 1 ≤ u = leb-true 1 u (and_left (leb 1 u) (leb u 16) h) in
    let high : u ≤ 16 = leb-true u 16 (and_right (leb 1 u) (leb u 16) h) in
    rw (sum_word q) (word_bit q 16 1 (u - 1) (omega arith) ∙ ap q (omega arith))

pub sum_bound : (q : ℕ → Bool) → sum_of_bits q transactions < 2 ^ 16
sum_bound q = rw (sum_word q) (word_small q 16 1)

-- the empty set: nobody passes
pub sum_empty : (q : ℕ → Bool) → sum_of_bits q transactions ≡ 0 → (u : ℕ) → is_transaction u ≡ true → q u ≡ false
sum_empty q e u h = sym (sum_bit q u h) ∙ rw e (none (2 ^ (u - 1)))
  where
    none : (c : ℕ) → eqb (0 / c % 2) 1 ≡ false
    none c = rw (zero-div c)

-- nobody passes: the empty set
pub sum_none : (q : ℕ → Bool) (ts : List ℕ) → ((u : ℕ) → Memᴰ u ts → q u ≡ false) → sum_of_bits q ts ≡ 0
sum_none q [] h = refl
sum_none q (t ∷ ts) h = rw (h t (Memᴰ.head refl), sum_none q ts (λ u i. h u (Memᴰ.tail i)))

in_numbers_from : (n i u : ℕ) → i ≤ u → u < i + n → Memᴰ u (numbers_from i n)
in_numbers_from zero i u l h = absurd (omega arith)
in_numbers_from (suc n) i u l h = by_test (eqb u i) (λ e. Memᴰ.head (eqb-true u i e))
    (λ e. Memᴰ.tail (in_numbers_from n (suc i) u (omega (arith, eqb-false u i e)) (omega arith)))

-- the numbers 1 to 16 are all listed
pub transaction_in : (u : ℕ) → is_transaction u ≡ true → Memᴰ u transactions
transaction_in u h =
    let low : 1 ≤ u = leb-true 1 u (and_left (leb 1 u) (leb u 16) h) in
    let high : u ≤ 16 = leb-true u 16 (and_right (leb 1 u) (leb u 16) h) in
    in_numbers_from 16 1 u low (omega arith)

-- those of a set of transactions, listed
pub has_kept : (S : ℕ → Bool) (u : ℕ) → (S u ≡ true → is_transaction u ≡ true) → has u (keep S transactions) ≡ S u
has_kept S u h = by_test (S u) (λ e. rw e (in_has u (keep S transactions) (keep_in S transactions (transaction_in u (h e)) e)))
    (λ e. rw e (refuted _ (λ i. true≢false (sym (in_keep S transactions (has_in u (keep S transactions) i)).1 ∙ e))))

pub kept_distinct : (S : ℕ → Bool) → distinct (keep S transactions) ≡ true
kept_distinct S = ap distinct (sym (map_self (λ n. n) (keep S transactions) (λ a m. refl))) ∙ distinct_keep (λ n. n) S transactions refl
