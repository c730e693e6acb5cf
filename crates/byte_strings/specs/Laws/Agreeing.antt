-- The loop that compares two byte strings.
use Prim.Native.Nat.{ℕ, suc, ◌+◌, ◌-◌, ◌≤◌, ◌<◌, min}
use Rattle.std.specs.Prelude.{◌≡◌, refl, Bool, true, false, cond, List, [], ◌∷◌, eqb, leb, length, get_or, drop}
use native.Mathlib.Omega.{arith}
use Rattle.std.proofs.Math.Numerals.{add-one}
use Rattle.std.proofs.Math.ListN.{drop_of_length-le}
use Rattle.std.proofs.Math.Seq.{drop-cons}
use borrow.Author.Tests.{eq-eqb, ne_eqb, leb-true, leb-false}
use Rattle.xml.specs.Laws.Fixed.{agree}
use Rattle.byte_strings.specs.Agreement.{Agreement}

pub agree_most : (w l : List ℕ) → agree w l ≤ length l
unfolding agree
agree_most [] l = omega arith
agree_most (x ∷ w) [] = omega arith
agree_most (x ∷ w) (b ∷ l) = go (eqb b x) (agree_most w l)
  where
    go : (t : Bool) → agree w l ≤ length l → cond t (suc (agree w l)) 0 ≤ suc (length l)
    go true h = omega arith
    go false h = omega arith

-- n bytes agree so far
unfoldable pub Agreeing : List ℕ → List ℕ → ℕ → ℕ → Type 0
Agreeing w s at n = agree w (drop at s) ≡ n + agree (drop n w) (drop (at + n) s)

pub agree_start : (w s : List ℕ) (at : ℕ) → Agreeing w s at 0
unfolding Agreeing
agree_start w s at = let p : at + 0 ≡ at = omega arith in rw p (omega arith)

module _ (w s : List ℕ) (at n : ℕ) (r : Agreeing w s at n) where
  pub agree_turn : n < length w → at + n < length s → get_or s (at + n) 0 ≡ get_or w n 0 → Agreeing w s at (n + 1)
  unfolding Agreeing agree
  agree_turn h k e =
      let p : at + (n + 1) ≡ suc (at + n) = omega arith in
      let q : agree (drop n w) (drop (at + n) s) ≡ suc (agree (drop (suc n) w) (drop (suc (at + n)) s)) =
      rw (drop-cons w n 0 h, drop-cons s (at + n) 0 k, eq-eqb (get_or s (at + n) 0) (get_or w n 0) e) in
      rw (p, add-one n) (omega (arith, r))

  pub agree_differ : n < length w → at + n < length s → (get_or s (at + n) 0 ≡ get_or w n 0 → ⊥) → Agreement w s at n
  unfolding Agreeing agree
  agree_differ h k e =
      let q : agree (drop n w) (drop (at + n) s) ≡ 0 =
      rw (drop-cons w n 0 h, drop-cons s (at + n) 0 k, ne_eqb (get_or s (at + n) 0) (get_or w n 0) e) in
      record { agrees = omega (arith, r); inside = omega arith; most = omega arith }

  short : n < length w → length s ≤ at + n → at + n ≤ length s → Agreement w s at n
  unfolding Agreeing agree
  short h k l =
      let q : agree (drop n w) (drop (at + n) s) ≡ 0 = rw (drop-cons w n 0 h, drop_of_length-le s k) in
      record { agrees = omega (arith, r); inside = l; most = omega arith }

  whole : n ≤ length w → length w ≤ n → at + n ≤ length s → Agreement w s at n
  unfolding Agreeing agree
  whole m h l =
      let q : agree (drop n w) (drop (at + n) s) ≡ 0 = rw (drop_of_length-le w h) in
      record { agrees = omega (arith, r); inside = l; most = m }

  -- the word is at its end, or the input
  pub agree_end : n ≡ min (length w) (length s - at) → at ≤ length s → Agreement w s at n
  agree_end e k = go (leb (length w) n) refl
    where
      go : (t : Bool) → leb (length w) n ≡ t → Agreement w s at n
      go true p = whole (omega arith) (leb-true (length w) n p) (omega arith)
      go false p = let h = leb-false (length w) n p in short h (omega arith) (omega arith)
