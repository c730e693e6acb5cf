-- The check of the wait sets: of one word, and the loop over all.
use Rattle.std.specs.Prelude.{◌≡◌, Bool, ◌&&◌, ◌||◌, List}
use Rattle.std.proofs.Math.Path.{refl, sym, ap}
use Rattle.std.proofs.Common.{◌∙◌}
use Prim.Native.Nat.{ℕ, suc, ◌+◌, ◌-◌, ◌^◌, ◌≤◌, ◌<◌}
use Rattle.std.proofs.Math.Bool.{true, false, not, false≢true}
use native.Mathlib.Omega.{arith}
use Rattle.std.proofs.Math.Nat.{zero-div}
use Rattle.std.specs.Int.Bits.{bit_or}
use Rattle.std.proofs.lemmas.Nat.{or_lt}
use Rattle.std.proofs.Math.Dec.{eqb}
use borrow.Author.Tests.{eqb-true, eqb-false, eq-eqb}
use Rattle.tree.specs.Lists.{every}
use Rattle.tree.specs.Laws.Tests.{refuted, both_ways}
use Rattle.locks.specs.Modes.{bit}
use Rattle.locks.proofs.Laws.Sets.{bit_of_or}
use Rattle.locks.proofs.Laws.Common.{same_bits}
use Rattle.protocol.specs.State.{transactions, in_set}
use Rattle.table.specs.Layout.{open_at, set_at, word, is_open, remembered, header}
use Rattle.protocol.proofs.Laws.Transactions.{is_transaction_of}
use Rattle.table.specs.Laws.Sets.{set_word}
use Rattle.form.specs.Form.{sets_open}
use Rattle.form.specs.Check.{set_open}
use Rattle.form.specs.Laws.Holds.{of_sixteen, all_sixteen}

-- one set ----------------------------------------------------------------------------------------

in_bit : (w u : ℕ) → 1 ≤ u → u ≤ 16 → in_set w u ≡ bit w (u - 1)
in_bit w u a b = rw (is_transaction_of u a b)

-- the test of a transaction by its bits in the set and in the word of those open
passes : Bool → Bool → Bool → Bool
passes t x y = not x || (t && y)

module _ (opens t w : ℕ) where
  bits_of : set_open opens t w ≡ true → (i : ℕ) → i < 16 → passes (in_set opens t) (bit w i) (bit opens i) ≡ true
  unfolding set_open passes
  bits_of h i k =
      let e : suc i - 1 ≡ i = omega arith in
      rw (in_bit w (suc i) (omega arith) (omega arith), in_bit opens (suc i) (omega arith) (omega arith), e) at
      (of_sixteen (λ u. not (in_set w u) || (in_set opens t && in_set opens u)) h (suc i) (omega arith) (omega arith))

  of_bits : ((i : ℕ) → i < 16 → passes (in_set opens t) (bit w i) (bit opens i) ≡ true) → set_open opens t w ≡ true
  unfolding set_open passes
  of_bits f = all_sixteen (λ u. not (in_set w u) || (in_set opens t && in_set opens u))
      (λ u a b. rw (in_bit w u a b, in_bit opens u a b) (f (u - 1) (omega arith)))

  pub set_empty : w ≡ 0 → true ≡ set_open opens t w
  unfolding passes
  set_empty e = sym (of_bits (λ i k. rw (e, zero-div (2 ^ i))))

  pub set_refused : w < 65536 → (w ≡ 0 → ⊥) → in_set opens t ≡ false → false ≡ set_open opens t w
  unfolding passes
  set_refused small some e = sym (refuted (set_open opens t w)
      (λ h. some (same_bits 16 w 0 small (omega arith) (λ i k. go (bit w i) (rw e at (bits_of h i k)) ∙ rw (zero-div (2 ^ i))))))
    where
      go : (x : Bool) → passes false x true ≡ true → x ≡ false
      go true h = absurd (false≢true h)
      go false h = refl

  pub set_within : w < 65536 → opens < 65536 → in_set opens t ≡ true → eqb (bit_or w opens) opens ≡ set_open opens t w
  unfolding passes
  set_within a b e = both_ways (eqb (bit_or w opens) opens) (set_open opens t w)
      (λ h. let z : bit_or w opens ≡ opens = eqb-true (bit_or w opens) opens h in
      of_bits (λ i k. rw e (in_both (bit w i) (bit opens i) (sym (bit_of_or w opens i) ∙ ap (λ (v : ℕ). bit v i) z))))
      (λ h. eq-eqb (bit_or w opens) opens (same_bits 16 (bit_or w opens) opens (or_lt 16 w opens a b) b
      (λ i k. bit_of_or w opens i ∙ both_in (bit w i) (bit opens i) (rw e at (bits_of h i k)))))
    where
      in_both : (x y : Bool) → (x || y) ≡ y → passes true x y ≡ true
      in_both true y h = sym h
      in_both false y h = refl

      both_in : (x y : Bool) → passes true x y ≡ true → (x || y) ≡ y
      both_in true y h = sym h
      both_in false y h = refl

-- all sets ---------------------------------------------------------------------------------------

-- those below t pass
pub PassedBelow : List ℕ → ℕ → Type 0
PassedBelow s t = (v : ℕ) → 1 ≤ v → v < t → set_open (word s open_at) v (word s (set_at v)) ≡ true

module _ (s : List ℕ) where
  pub below_none : PassedBelow s 1
  unfolding PassedBelow
  below_none v a b = absurd (omega arith)

  pub below_more : (t : ℕ) → PassedBelow s t → set_open (word s open_at) t (word s (set_at t)) ≡ true → PassedBelow s (t + 1)
  unfolding PassedBelow
  below_more t p e v a b = go (eqb v t) refl
    where
      go : (x : Bool) → eqb v t ≡ x → set_open (word s open_at) v (word s (set_at v)) ≡ true
      go true q = rw (eqb-true v t q) e
      go false q = let n : v ≡ t → ⊥ = eqb-false v t q in p v a (omega (arith, n))

  -- the set of t, as the form asks
  row : ℕ → Bool
  row t = every (λ u. not (remembered s t u) || (is_open s t && is_open s u)) transactions

  row_is : (t : ℕ) → 1 ≤ t → t ≤ 16 → row t ≡ set_open (word s open_at) t (word s (set_at t))
  unfolding row set_open is_open
  row_is t a b = let o = word s open_at in
      ap (λ (S : ℕ → Bool). every (λ u. not (S u) || (in_set o t && in_set o u)) transactions) (sym (set_word s t a b))

  pub below_all : (t : ℕ) → t ≡ 17 → PassedBelow s t → true ≡ sets_open (header s)
  unfolding PassedBelow row sets_open
  below_all t e p = sym (all_sixteen row (λ v a b. row_is v a b ∙ p v a (omega arith)))

  pub one_fails : (t : ℕ) → 1 ≤ t → t ≤ 16 → set_open (word s open_at) t (word s (set_at t)) ≡ false → false ≡ sets_open (header s)
  unfolding row sets_open
  one_fails t a b e = sym (refuted (sets_open (header s)) (λ h. false≢true (sym (row_is t a b ∙ e) ∙ of_sixteen row h t a b)))
