-- Words of the same bits are the same; two have a mode in common exactly if the bits of both do. Assumes nothing.
use Rattle.std.specs.Prelude.{ℕ, zero, suc, ◌+◌, ◌*◌, ◌/◌, ◌%◌, ◌^◌, ◌<◌, min, ◌≡◌, refl, Bool, true, false, not, ◌&&◌, ◌||◌, eqb}
use Rattle.std.proofs.Common.{sym, ap, ◌∙◌, arith, lt_of_le_of_lt, eqb-true, eq-eqb, ne_eqb}
use Rattle.std.proofs.Math.Nat.{pow-succ', div-div-eq-div-mul}
use Rattle.std.specs.Int.Bits.{bit_and, and_step}
use Rattle.std.proofs.lemmas.Nat.{and_shr, and_le_r}
use Rattle.std.proofs.lemmas.Bool.{eqb-false}
use Rattle.locks.specs.Words.{some_place, meets, mask_of, in_common}
use Rattle.locks.specs.Modes.{bit}
use Rattle.locks.proofs.Laws.Words.{word_small}

-- the bits of what both have
low : (q m : ℕ) → m < 2 → (q * 2 + m) % 2 ≡ m
low q m h = omega arith

bits_and : (x y : ℕ) → x < 2 → y < 2 → eqb (min x y) 1 ≡ (eqb x 1 && eqb y 1)
bits_and x y h k = go (eqb x 1) refl (eqb y 1) refl
  where
    go : (a : Bool) → eqb x 1 ≡ a → (b : Bool) → eqb y 1 ≡ b → eqb (min x y) 1 ≡ (a && b)
    go true e true f = let p = eqb-true x 1 e in let q = eqb-true y 1 f in eq-eqb (min x y) 1 (omega arith)
    go true e false f = ne_eqb (min x y) 1 (λ (m : min x y ≡ 1). let q = eqb-false y 1 f in omega arith)
    go false e b f = ne_eqb (min x y) 1 (λ (m : min x y ≡ 1). let p = eqb-false x 1 e in omega arith)

pub bit_of_and : (v w i : ℕ) → bit (bit_and v w) i ≡ (bit v i && bit w i)
bit_of_and v w i =
    let x = v / 2 ^ i in
    let y = w / 2 ^ i in
    let h : x % 2 < 2 = omega arith in
    let k : y % 2 < 2 = omega arith in
    rw (and_shr v w i, and_step x y, low (bit_and (x / 2) (y / 2)) (min (x % 2) (y % 2)) (omega arith)) (bits_and (x % 2) (y % 2) h k)

-- a number is 0 exactly if it has no bit
bit_next : (x i : ℕ) → bit x (suc i) ≡ bit (x / 2) i
bit_next x i = rw (pow-succ' 2 i, ← div-div-eq-div-mul x 2 (2 ^ i))

places_next : (x n i : ℕ) → some_place (bit x) n (suc i) ≡ some_place (bit (x / 2)) n i
unfolding some_place
places_next x zero i = refl
places_next x (suc n) i = rw (bit_next x i, places_next x n (suc i))

bit_first : (x : ℕ) → bit x 0 ≡ eqb (x % 2) 1
bit_first x = let e : x / 2 ^ 0 ≡ x = omega arith in rw e

-- words of the same bits are the same
pub same_bits : (n x y : ℕ) → x < 2 ^ n → y < 2 ^ n → ((i : ℕ) → i < n → bit x i ≡ bit y i) → x ≡ y
same_bits zero x y a b h = omega arith
same_bits (suc n) x y a b h =
    let high : x / 2 ≡ y / 2 = same_bits n (x / 2) (y / 2) (omega (arith, pow-succ' 2 n)) (omega (arith, pow-succ' 2 n))
    (λ i k. sym (bit_next x i) ∙ h (suc i) (omega arith) ∙ bit_next y i) in
    let low : eqb (x % 2) 1 ≡ eqb (y % 2) 1 = sym (bit_first x) ∙ h 0 (omega arith) ∙ bit_first y in
    go (eqb (y % 2) 1) refl low high
  where
    go : (e : Bool) → eqb (y % 2) 1 ≡ e → eqb (x % 2) 1 ≡ e → x / 2 ≡ y / 2 → x ≡ y
    go true q p r = omega (arith, eqb-true (x % 2) 1 p, eqb-true (y % 2) 1 q)
    go false q p r =
        let m : x % 2 ≡ 1 → ⊥ = eqb-false (x % 2) 1 p in
        let n : y % 2 ≡ 1 → ⊥ = eqb-false (y % 2) 1 q in
        omega arith

pub no_bit : (n x : ℕ) → x < 2 ^ n → not (eqb x 0) ≡ some_place (bit x) n 0
unfolding some_place
no_bit zero x h = let e : x ≡ 0 = omega arith in rw (eq-eqb x 0 e)
no_bit (suc n) x h =
    let k : x / 2 < 2 ^ n = omega (arith, pow-succ' 2 n) in
    rw (bit_first x, places_next x n 0, ← no_bit n (x / 2) k) (go (eqb (x % 2) 1) refl (eqb (x / 2) 0) refl)
  where
    go : (a : Bool) → eqb (x % 2) 1 ≡ a → (b : Bool) → eqb (x / 2) 0 ≡ b → not (eqb x 0) ≡ (a || not b)
    go true e b f = let p = eqb-true (x % 2) 1 e in ap not (ne_eqb x 0 (λ (z : x ≡ 0). omega arith))
    go false e true f = let p = eqb-false (x % 2) 1 e in let q = eqb-true (x / 2) 0 f in ap not (eq-eqb x 0 (omega arith))
    go false e false f = let q = eqb-false (x / 2) 0 f in ap not (ne_eqb x 0 (λ (z : x ≡ 0). q (omega arith)))

pub and_common : (v w : ℕ) → w < 4096 → not (eqb (bit_and v w) 0) ≡ in_common v w
unfolding some_place in_common
and_common v w h = no_bit 12 (bit_and v w) (lt_of_le_of_lt (and_le_r v w) h) ∙ same
  where
    same : some_place (bit (bit_and v w)) 12 0 ≡ in_common v w
    same = rw (
      bit_of_and v w 0,
      bit_of_and v w 1,
      bit_of_and v w 2,
      bit_of_and v w 3,
      bit_of_and v w 4,
      bit_of_and v w 5,
      bit_of_and v w 6,
      bit_of_and v w 7,
      bit_of_and v w 8,
      bit_of_and v w 9,
      bit_of_and v w 10,
      bit_of_and v w 11,
    )

pub mask_small : (w : ℕ) → mask_of w < 4096
unfolding mask_of
mask_small w = word_small (meets w) 12 0
