-- The bytes of the beginning, store by store: the mark and zeros, the count, the entries of the outline, the document's kind.
use Rattle.std.specs.Prelude.{◌≡◌, refl, ℕ, ◌+◌, ◌-◌, ◌*◌, ◌/◌, ◌%◌, ◌≤◌, ◌<◌, Bool, true, false, List, length, get_or, set, eqb, ltb}
use Rattle.std.proofs.Common.{sym, ◌∙◌, subst, arith, zero-add, get_or-set_same, get_or-set_other, eqb-true, ltb-true, ltb-false}
use Rattle.std.proofs.lemmas.Bool.{eqb-false}
use Rattle.table.specs.Layout.{state_size, format_mark, entry_at}
use Rattle.table.specs.Laws.Bytes.{Only, off, only_both, only_word, only_set, put_word, Filled}
use Rattle.form.specs.Start.{start_byte}
use Rattle.form.specs.Laws.Start.{byte_mark, byte_count, byte_padding, byte_outline, byte_kind, outline_low, outline_high, outline_zero}

-- the two bytes of a word that was stored
module _ (s : List ℕ) (k v : ℕ) (h : k + 1 < length s) where
  low_byte : get_or (put_word s k v) k 0 ≡ v % 256
  unfolding put_word
  low_byte = get_or-set_other (set s k (v % 256)) (k + 1) k (v / 256) 0 (λ e. omega arith) ∙ get_or-set_same s k (v % 256) 0 (omega arith)

  high_byte : get_or (put_word s k v) (k + 1) 0 ≡ v / 256
  unfolding put_word
  high_byte = get_or-set_same (set s k (v % 256)) (k + 1) (v / 256) 0 (omega (arith, (only_set s k (v % 256)).long))

other_byte : (s : List ℕ) (k v j : ℕ) → (j ≡ k → ⊥) → (j ≡ k + 1 → ⊥) → get_or (put_word s k v) j 0 ≡ get_or s j 0
other_byte s k v j a b = off (only_word s k v) j (λ l. omega (arith, a, b))

-- the entries of the places below i are set, and the others are zeros
pub record Begun (i : ℕ) (s s' : List ℕ) : Type 0 where
  pub only : Only 0 8208 s s'
  pub done : (j : ℕ) → j < 16 + 8 * i → get_or s' j 0 ≡ start_byte j
  pub rest : (j : ℕ) → 16 + 8 * i ≤ j → j < 8208 → get_or s' j 0 ≡ 0

-- the mark, zeros, and the count
pub begun_start : {s s₁ s₂ s₃ : List ℕ} → state_size ≤ length s → Filled 0 8 (λ j. get_or format_mark j 0) s s₁
    → Filled 8 8200 (λ j. 0) s₁ s₂ → s₃ ≡ put_word s₂ 10 1 → Begun 0 s s₃
begun_start {s} {s₁} {s₂} {s₃} h a b e = record {
  only = only_both 0 8208 (only_both 0 8208 a.only b.only (omega arith) (omega arith) (omega arith) (omega arith)) count (omega arith)
      (omega arith) (omega arith) (omega arith);
  done = λ j l. done j (omega (arith, l));
  rest = λ j l m. rw e (other_byte s₂ 10 1 j (λ q. omega arith) (λ q. omega arith) ∙ zero j (omega arith) m);
}
  where
    count : Only 10 2 s₂ s₃
    count = rw e (only_word s₂ 10 1)

    long : 11 < length s₂
    long = omega (arith, h, a.only.long, b.only.long)

    zero : (j : ℕ) → 8 ≤ j → j < 8208 → get_or s₂ j 0 ≡ 0
    zero j l m =
        let p : 8 + (j - 8) ≡ j = omega arith in
        subst (λ (k : ℕ). get_or s₂ k 0 ≡ 0) p (b.bytes (j - 8) (omega arith))

    mark : (j : ℕ) → j < 8 → get_or s₂ j 0 ≡ start_byte j
    mark j l =
        b.only.low j l ∙ subst (λ (k : ℕ). get_or s₁ k 0 ≡ get_or format_mark j 0) (zero-add j) (a.bytes j l) ∙ sym (byte_mark j l)

    done : (j : ℕ) → j < 16 → get_or s₃ j 0 ≡ start_byte j
    done j l = go (eqb j 10) refl (eqb j 11) refl (ltb j 8) refl
      where
        go : (t : Bool) → eqb j 10 ≡ t → (u : Bool) → eqb j 11 ≡ u → (v : Bool) → ltb j 8 ≡ v → get_or s₃ j 0 ≡ start_byte j
        go true p u q v r =
            let k : j ≡ 10 = eqb-true j 10 p in rw (e, k) (low_byte s₂ 10 1 long ∙ byte_count 10 refl)
        go false p true q v r =
            let k : j ≡ 11 = eqb-true j 11 q in
            rw (e, k) (high_byte s₂ 10 1 long ∙ byte_padding 11 (omega arith) (omega arith) (λ z. omega arith))
        go false p false q true r =
            rw e (other_byte s₂ 10 1 j (eqb-false j 10 p) (eqb-false j 11 q) ∙ mark j (ltb-true j 8 r))
        go false p false q false r =
            let m : 8 ≤ j = ltb-false j 8 r in
            rw e (other_byte s₂ 10 1 j (eqb-false j 10 p) (eqb-false j 11 q) ∙ zero j m (omega arith)
            ∙ byte_padding j m l (eqb-false j 10 p))

-- the entry of place i
pub begun_next : {s s' s'' : List ℕ} (i : ℕ) → state_size ≤ length s → i < 1024 → Begun i s s' → s'' ≡ put_word s' (entry_at i) i
    → Begun (i + 1) s s''
begun_next {s} {s'} {s''} i h m f e = record {
  only = only_both 0 8208 f.only slot (omega arith) (omega arith) (omega arith) (omega arith);
  done = λ j l. go j l (ltb j (entry_at i)) refl (eqb j (entry_at i)) refl (eqb j (entry_at i + 1)) refl;
  rest = λ j l k. rw e (other_byte s' (entry_at i) i j (λ q. omega arith) (λ q. omega arith) ∙ f.rest j (omega arith) k);
}
  where
    slot : Only (entry_at i) 2 s' s''
    slot = rw e (only_word s' (entry_at i) i)

    long : entry_at i + 1 < length s'
    long = omega (arith, h, f.only.long)

    go : (j : ℕ) → j < 16 + 8 * (i + 1) → (t : Bool) → ltb j (entry_at i) ≡ t → (u : Bool) → eqb j (entry_at i) ≡ u → (v : Bool)
        → eqb j (entry_at i + 1) ≡ v → get_or s'' j 0 ≡ start_byte j
    go j l true p u q v r =
        let a : j < entry_at i = ltb-true j (entry_at i) p in
        rw e (other_byte s' (entry_at i) i j (λ z. omega arith) (λ z. omega arith) ∙ f.done j a)
    go j l false p true q v r =
        let k : j ≡ entry_at i = eqb-true j (entry_at i) q in
        let x : entry_at i - 16 ≡ 8 * i = omega arith in
        let y : 8 * i % 8 ≡ 0 = omega arith in
        let z : 8 * i / 8 % 256 ≡ i % 256 = omega arith in
        rw (e, k) (low_byte s' (entry_at i) i long ∙ sym (byte_outline (entry_at i) (omega arith) (omega arith)
        ∙ rw x (outline_low (8 * i) y ∙ z)))
    go j l false p false q true r =
        let k : j ≡ entry_at i + 1 = eqb-true j (entry_at i + 1) r in
        let x : entry_at i + 1 - 16 ≡ 8 * i + 1 = omega arith in
        let y : (8 * i + 1) % 8 ≡ 1 = omega arith in
        let z : (8 * i + 1) / 8 / 256 ≡ i / 256 = omega arith in
        rw (e, k) (high_byte s' (entry_at i) i long ∙ sym (byte_outline (entry_at i + 1) (omega arith) (omega arith)
        ∙ rw x (outline_high (8 * i + 1) y ∙ z)))
    go j l false p false q false r =
        let a : entry_at i ≤ j = ltb-false j (entry_at i) p in
        let b : j ≡ entry_at i → ⊥ = eqb-false j (entry_at i) q in
        let c : j ≡ entry_at i + 1 → ⊥ = eqb-false j (entry_at i + 1) r in
        let inside : j < 8208 = omega arith in
        rw e (other_byte s' (entry_at i) i j b c ∙ f.rest j a inside
        ∙ sym (byte_outline j (omega arith) inside
        ∙ outline_zero (j - 16) (λ z. b (omega arith)) (λ z. c (omega arith))))

-- the kind of the document
pub begun_end : {s s' : List ℕ} (i : ℕ) → state_size ≤ length s → 1024 ≤ i → Begun i s s' → Filled 0 8209 start_byte s (set s' 8208 1)
begun_end {s} {s'} i h m f = record {
  only = only_both 0 8209 f.only (only_set s' 8208 1) (omega arith) (omega arith) (omega arith) (omega arith);
  bytes = λ j l. subst (λ (k : ℕ). get_or (set s' 8208 1) k 0 ≡ start_byte j) (sym (zero-add j)) (go j l (eqb j 8208) refl);
}
  where
    go : (j : ℕ) → j < 8209 → (t : Bool) → eqb j 8208 ≡ t → get_or (set s' 8208 1) j 0 ≡ start_byte j
    go j l true p =
        let k : j ≡ 8208 = eqb-true j 8208 p in
        rw k (get_or-set_same s' 8208 1 0 (omega (arith, h, f.only.long)) ∙ byte_kind 8208 (omega arith) (omega arith))
    go j l false p =
        let n : j ≡ 8208 → ⊥ = eqb-false j 8208 p in
        get_or-set_other s' 8208 j 1 0 n ∙ f.done j (omega (arith, n))
