-- Bytes stored one behind the other.
use Rattle.std.specs.Prelude.{◌≡◌, refl, ℕ, zero, suc, ◌+◌, ◌-◌, ◌*◌, ◌/◌, ◌%◌, ◌≤◌, ◌<◌, Bool, true, false, List, [], ◌∷◌, ◌++◌, length, get_or, set, replicate, ltb, leb}
use Rattle.std.proofs.Common.{sym, ◌∙◌, arith, add-zero, zero-add, add-one, length-append, length-set, ext_get_or, get_or-set_same, get_or-set_other, ltb-true, ltb-false, leb-true, leb-false}
use Rattle.std.proofs.Math.Arith.{mod-mul}
use Rattle.std.proofs.lemmas.List.{append-nil, drop_all, length-replicate, get_or-replicate}
use Rattle.std.proofs.lemmas.List.Edits.{sets, sets-eq}
use Rattle.std.proofs.Math.Seq.{length-sets}
use Rattle.protocol.specs.Lent.{number_bytes, cell, filled}
use Rattle.table.specs.Laws.Bytes.{Filled, put_word, put_double_word}
use Rattle.node_reading.specs.Stored.{Stored}

-- two pieces
pub sets_append : (o : List ℕ) (k : ℕ) (a b : List ℕ) → sets o k (a ++ b) ≡ sets (sets o k a) (k + length a) b
sets_append o k [] b = rw add-zero
sets_append o k (x ∷ a) b = let e : suc k + length a ≡ k + suc (length a) = omega arith in sets_append (set o k x) (suc k) a b ∙ rw e

-- from the front on
pub sets_front : (o b : List ℕ) → length b ≤ length o → sets o 0 b ≡ filled b o
sets_front o b h = sets-eq b o 0 (omega arith) ∙ rw zero-add

pub double_word_sets : (o : List ℕ) (k v : ℕ) → put_double_word o k v ≡ sets o k (number_bytes v)
unfolding put_double_word put_word
double_word_sets o k v =
    let low : v % 65536 ≡ (v / 256 % 256) * 256 + v % 256 = mod-mul v (omega arith) (omega arith) in
    let a : v % 65536 % 256 ≡ v % 256 = omega arith in
    let b : v % 65536 / 256 ≡ v / 256 % 256 = omega (arith, low) in
    let c : v / 65536 / 256 ≡ v / 16777216 = omega arith in
    let p : k + 1 ≡ suc k = omega arith in
    let q : k + 2 ≡ suc (suc k) = omega arith in
    let r : suc (suc k) + 1 ≡ suc (suc (suc k)) = omega arith in
    rw (a, b, c, q, p, r)

-- what stands where
pub sets_low : (o : List ℕ) (k : ℕ) (b : List ℕ) (i : ℕ) → i < k → get_or (sets o k b) i 0 ≡ get_or o i 0
sets_low o k [] i h = refl
sets_low o k (x ∷ b) i h = sets_low (set o k x) (suc k) b i (omega arith) ∙ get_or-set_other o k i x 0 (λ e. omega arith)

pub sets_high : (o : List ℕ) (k : ℕ) (b : List ℕ) (i : ℕ) → k + length b ≤ i → get_or (sets o k b) i 0 ≡ get_or o i 0
sets_high o k [] i h = refl
sets_high o k (x ∷ b) i h = sets_high (set o k x) (suc k) b i (omega arith) ∙ get_or-set_other o k i x 0 (λ e. omega arith)

pub sets_at : (o : List ℕ) (k : ℕ) (b : List ℕ) (j : ℕ) → j < length b → k + length b ≤ length o → get_or (sets o k b) (k + j) 0 ≡ get_or b j 0
sets_at o k [] j h n = absurd (omega arith)
sets_at o k (x ∷ b) zero h n = rw add-zero (sets_low (set o k x) (suc k) b k (omega arith) ∙ get_or-set_same o k x 0 (omega arith))
sets_at o k (x ∷ b) (suc j) h n =
    let e : k + suc j ≡ suc k + j = omega arith in
    rw e (sets_at (set o k x) (suc k) b j (omega arith) (rw length-set (omega arith)))

-- what a loop over bytes leaves
pub filled_sets : {k n : ℕ} {v : ℕ → ℕ} {o o' : List ℕ} (b : List ℕ) → Filled k n v o o' → length b ≡ n
    → ((j : ℕ) → j < n → get_or b j 0 ≡ v j)
    → k + n ≤ length o → o' ≡ sets o k b
filled_sets {k} {n} {v} {o} {o'} b f e h m = ext_get_or 0 o' (sets o k b) (f.only.long
    ∙ sym (length-sets o k b)) (λ i l. go i (ltb i k) refl)
  where
    middle : (i : ℕ) → k ≤ i → (t : Bool) → leb (k + n) i ≡ t → get_or o' i 0 ≡ get_or (sets o k b) i 0
    middle i q true p = let z = leb-true (k + n) i p in f.only.high i z ∙ sym (sets_high o k b i (omega (arith, e)))
    middle i q false p =
        let z = leb-false (k + n) i p in
        let y : i ≡ k + (i - k) = omega arith in
        rw y (f.bytes (i - k) (omega arith) ∙ sym (h (i - k) (omega arith))
        ∙ sym (sets_at o k b (i - k) (omega (arith, e)) (omega (arith, e))))

    go : (i : ℕ) (t : Bool) → ltb i k ≡ t → get_or o' i 0 ≡ get_or (sets o k b) i 0
    go i true p = let z = ltb-true i k p in f.only.low i z ∙ sym (sets_low o k b i z)
    go i false p = middle i (ltb-false i k p) (leb (k + n) i) refl

pub copied : {k n : ℕ} {o o' : List ℕ} (b : List ℕ) → Filled k n (λ j. get_or b j 0) o o' → n ≡ length b → k + n ≤ length o → Stored k b o o'
copied b f e m = record { long = f.only.long; bytes = filled_sets b f (sym e) (λ j h. refl) m }

pub stored_front : {b o o' : List ℕ} → Stored 0 b o o' → length b ≤ length o → o' ≡ filled b o
stored_front {b} {o} c h = c.bytes ∙ sets_front o b h

-- a cell: the length, the content, then zeros
cell_sets : (o : List ℕ) (k : ℕ) (b : List ℕ)
    → sets (sets (set o k (length b)) (k + 1) b) (k + 1 + length b) (replicate (32 - length b) 0) ≡ sets o k (cell b)
cell_sets o k b = rw (add-one k) (sym (sets_append (set o k (length b)) (suc k) b (replicate (32 - length b) 0)))

length_cell : {n : ℕ} (b : List ℕ) → n ≡ length b → n ≤ 32 → length (cell b) ≡ 33
length_cell b e h = simp (length-append, length-replicate) (omega arith)

pub cell_stored : {k n : ℕ} {b o o' o'' : List ℕ} → n ≡ length b → n ≤ 32 → Stored (k + 1) b (set o k n) o'
    → Filled (k + 1 + n) (32 - n) (λ j. 0) o' o'' → k + 33 ≤ length o
    → Stored k (cell b) o o'' × (length (cell b) ≡ 33)
cell_stored {k} {n} {b} {o} {o'} {o''} e h c f m =
    let l : length o' ≡ length o = c.long ∙ length-set o k n in (
      record {
        long = f.only.long ∙ l;
        bytes = filled_sets (replicate (32 - n) 0) f (length-replicate (32 - n) 0) (λ j q. get_or-replicate (32 - n) j 0 0 q) (omega arith)
            ∙ rw (c.bytes, e) (cell_sets o k b);
      },
      length_cell b e h,
    )

-- a buffer as long as what is stored from the front on is that
pub stored_whole : {b o o' : List ℕ} {n : ℕ} → Stored 0 b o o' → length b ≡ n → length o ≡ n → o' ≡ b
stored_whole {b} {o} c e h = stored_front c (omega (arith, e, h)) ∙ rw (drop_all (length b) o (omega (arith, e, h))) (append-nil b)
