-- One bit of a word changed.
use Rattle.std.specs.Prelude.{◌≡◌, refl, ℕ, zero, suc, ◌+◌, ◌*◌, ◌-◌, ◌/◌, ◌%◌, ◌^◌, ◌<◌, Bool, true, false, cond, not, eqb, ltb}
use Rattle.std.proofs.Common.{ap, ◌∙◌, arith, pow-suc, pow_pos, pow-add, eqb-true, ltb-true, ltb-false}
use Rattle.std.proofs.Math.Nat.{div-eq_of_lt, div_self}
use Rattle.std.proofs.Math.Pow.{pow-lt}
use Rattle.std.proofs.lemmas.Nat.{shl-shr, xor_shr}
use Rattle.std.specs.Int.Bits.{bit_xor, differ, xor_step}
use Rattle.std.proofs.lemmas.Bool.{eqb-false}
use Rattle.locks.specs.Modes.{bit}

-- a power of two has one bit
pub bit_power : (m n : ℕ) → 2 ^ m / 2 ^ n % 2 ≡ cond (eqb m n) 1 0
bit_power m n = go (eqb m n) refl (ltb m n) refl
  where
    go : (x : Bool) → eqb m n ≡ x → (y : Bool) → ltb m n ≡ y → 2 ^ m / 2 ^ n % 2 ≡ cond x 1 0
    go true p y q = rw (eqb-true m n p, div_self (pow_pos n))
    go false p true q = rw (div-eq_of_lt (pow-lt (ltb-true m n q)))
    go false p false q =
        let ne : m ≡ n → ⊥ = eqb-false m n p in
        let e : m ≡ suc (m - n - 1) + n = omega (arith, ltb-false m n q, ne) in
        ap (λ (j : ℕ). 2 ^ j / 2 ^ n % 2) e ∙ rw (pow-add 2 (suc (m - n - 1)) n, shl-shr (2 ^ suc (m - n - 1)) n, pow-suc 2 (m - n - 1))
        (omega arith)

xor_digit : (a b n : ℕ) → bit_xor a b / 2 ^ n % 2 ≡ differ (a / 2 ^ n % 2) (b / 2 ^ n % 2)
xor_digit a b n =
    rw (xor_shr a b n, xor_step (a / 2 ^ n) (b / 2 ^ n))
    (digit (bit_xor (a / 2 ^ n / 2) (b / 2 ^ n / 2)) (a / 2 ^ n % 2) (b / 2 ^ n % 2) (omega arith) (omega arith))
  where
    digit : (q x y : ℕ) → x < 2 → y < 2 → (q * 2 + differ x y) % 2 ≡ differ x y
    digit q zero y h k = omega arith
    digit q (suc zero) zero h k = omega arith
    digit q (suc zero) (suc zero) h k = omega arith
    digit q (suc zero) (suc (suc y)) h k = absurd (omega arith)
    digit q (suc (suc x)) y h k = absurd (omega arith)

-- bit m turned over
pub bit_of_xor : (w m n : ℕ) → bit (bit_xor w (2 ^ m)) n ≡ cond (eqb m n) (not (bit w m)) (bit w n)
bit_of_xor w m n = rw (xor_digit w (2 ^ m) n, bit_power m n) (go (eqb m n) refl)
  where
    turned : (x : ℕ) → x < 2 → eqb (differ x 1) 1 ≡ not (eqb x 1)
    turned zero h = refl
    turned (suc zero) h = refl
    turned (suc (suc x)) h = absurd (omega arith)

    left : (x : ℕ) → differ x 0 ≡ x
    left zero = refl
    left (suc x) = refl

    go : (x : Bool) → eqb m n ≡ x → eqb (differ (w / 2 ^ n % 2) (cond x 1 0)) 1
        ≡ cond x (not (eqb (w / 2 ^ m % 2) 1)) (eqb (w / 2 ^ n % 2) 1)
    go true p = rw (eqb-true m n p) (turned (w / 2 ^ n % 2) (omega arith))
    go false p = rw (left (w / 2 ^ n % 2))
