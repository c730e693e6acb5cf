-- Laws of words: the table by places is the table, a word's bits, the turns of the loops that go through them. Assumes nothing.
use Prim.Native.Nat.{ℕ, zero, suc, ◌+◌, ◌*◌, ◌-◌, ◌/◌, ◌%◌, ◌^◌, ◌≤◌, ◌<◌, max}
use Rattle.std.specs.Prelude.{◌≡◌, refl, Bool, true, false, cond, ◌&&◌, ◌||◌}
use Rattle.std.proofs.Math.Path.{sym}
use Rattle.std.proofs.Common.{◌∙◌, lt_of_lt_of_le, pow_mono}
use native.Mathlib.Omega.{arith}
use Rattle.std.proofs.Math.Nat.{pow-succ'}
use Rattle.std.specs.Int.Bits.{bit_or, or_step}
use Rattle.locks.specs.Words.{clash_at, word, some_place, meets, mask_of}
use Rattle.locks.specs.Modes.{bit}

-- building a word from its highest bit down
pub word_turn : (q : ℕ → Bool) (n i : ℕ) → 0 < i → i ≤ n → word q (n - (i - 1)) (i - 1) ≡ cond (q (i - 1)) 1 0 + 2 * word q (n - i) i
unfolding word
word_turn q n i h k =
    let e : n - (i - 1) ≡ suc (n - i) = omega arith in
    let z : suc (i - 1) ≡ i = omega arith in
    rw (e, z)

pub word_none : (q : ℕ → Bool) (n : ℕ) → word q (n - n) n ≡ 0
unfolding word
word_none q n = let e : n - n ≡ 0 = omega arith in rw e

pub word_small : (q : ℕ → Bool) (n i : ℕ) → word q n i < 2 ^ n
unfolding word
word_small q zero i = omega arith
word_small q (suc n) i = go (q i) (word_small q n (suc i))
  where
    go : (b : Bool) → word q n (suc i) < 2 ^ n → cond b 1 0 + 2 * word q n (suc i) < 2 ^ suc n
    go true h = omega (arith, pow-succ' 2 n)
    go false h = omega (arith, pow-succ' 2 n)

-- of at most 12 bits
pub word_below : (q : ℕ → Bool) (i : ℕ) → word q (12 - i) i < 4096
word_below q i = lt_of_lt_of_le (word_small q (12 - i) i) (pow_mono {j = 12} (omega arith))

-- masks --------------------------------------------------------------------------------

halved : (a : Bool) (x : ℕ) → (cond a 1 0 + 2 * x) / 2 ≡ x
halved true x = omega arith
halved false x = omega arith

odd : (a : Bool) (x : ℕ) → (cond a 1 0 + 2 * x) % 2 ≡ cond a 1 0
odd true x = omega arith
odd false x = omega arith

-- the word of what passes either of two tests
word_or : (p q : ℕ → Bool) (n u : ℕ) → word (λ i. p i || q i) n u ≡ bit_or (word p n u) (word q n u)
unfolding word
word_or p q zero u = refl
word_or p q (suc n) u =
    sym (or_step (cond (p u) 1 0 + 2 * word p n (suc u)) (cond (q u) 1 0 + 2 * word q n (suc u))
    ∙ rw (halved, halved, odd, odd, ← word_or p q n (suc u)) (go (p u) (q u) (word (λ i. p i || q i) n (suc u))))
  where
    go : (a b : Bool) (x : ℕ) → x * 2 + max (cond a 1 0) (cond b 1 0) ≡ cond (a || b) 1 0 + 2 * x
    go true true x = omega arith
    go true false x = omega arith
    go false true x = omega arith
    go false false x = omega arith

-- the modes that clash with some mode of the word w at place b or behind, as a word
unfoldable pub mask_from : ℕ → ℕ → ℕ
mask_from w b = word (λ a. some_place (λ b. bit w b && clash_at a b) (12 - b) b) 12 0

pub mask_none : (w : ℕ) → 0 ≡ mask_from w 12
unfolding mask_from word some_place
mask_none w = refl

pub mask_whole : (w b m : ℕ) → b ≡ 0 → m ≡ mask_from w b → m ≡ mask_of w
unfolding mask_from mask_of meets
mask_whole w b m z e = rw z at e

module _ (w b : ℕ) (h : 0 < b) (k : b ≤ 12) where
  -- the modes that clash with the one before b come to them, if the set has it
  mask_turn : mask_from w (b - 1) ≡ word (λ a. (bit w (b - 1) && clash_at a (b - 1)) || some_place (λ b. bit w b && clash_at a b)
      (12 - b) b) 12 0
  unfolding mask_from some_place
  mask_turn =
      let e : 12 - (b - 1) ≡ suc (12 - b) = omega arith in
      let z : suc (b - 1) ≡ b = omega arith in
      rw (e, z)

  pub mask_passed : (m : ℕ) → bit w (b - 1) ≡ false → m ≡ mask_from w b → m ≡ mask_from w (b - 1)
  unfolding mask_from
  mask_passed m n e = e ∙ sym (mask_turn ∙ rw n)

  pub mask_more : (m r x : ℕ) → bit w (b - 1) ≡ true → m ≡ mask_from w b → r ≡ word (λ a. clash_at a (b - 1)) 12 0 → x ≡ bit_or r m
      → x ≡ mask_from w (b - 1)
  unfolding mask_from
  mask_more m r x i e f g =
      g ∙ rw (e, f) (sym (mask_turn ∙ rw i (word_or (λ a. clash_at a (b - 1))
      (λ a. some_place (λ b. bit w b && clash_at a b) (12 - b) b) 12 0)))
