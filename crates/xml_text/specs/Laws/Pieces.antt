-- What stands for a byte: one to six bytes, and in the room of one only itself.
use Rattle.std.specs.Prelude.{◌≡◌, ℕ, ◌≤◌, length, Bool, cond, ◌&&◌, List, [], ◌∷◌}
use Rattle.std.proofs.Math.Path.{refl}
use Rattle.std.proofs.Common.{arith}
use Rattle.std.proofs.Math.Bool.{true, false}
use Rattle.std.proofs.Math.Dec.{eqb}
use Rattle.xml.specs.Bytes.{ampersand, amp, gt, lt, quot, tab_reference, line_feed_reference}
use Rattle.xml.specs.Writing.{escape}

-- what stands for a byte, by the six tests
abbrev chosen : ℕ → Bool → Bool → Bool → Bool → Bool → Bool → List ℕ
chosen b p q r s t u =
    cond p (ampersand ∷ amp)
    (cond q (ampersand ∷ lt)
    (cond r (ampersand ∷ gt)
    (cond s (ampersand ∷ quot) (cond t (ampersand ∷ tab_reference) (cond u (ampersand ∷ line_feed_reference) (b ∷ []))))))

chosen_some : (b : ℕ) (p q r s t u : Bool) → 1 ≤ length (chosen b p q r s t u)
chosen_some b true q r s t u = omega arith
chosen_some b false true r s t u = omega arith
chosen_some b false false true s t u = omega arith
chosen_some b false false false true t u = omega arith
chosen_some b false false false false true u = omega arith
chosen_some b false false false false false true = omega arith
chosen_some b false false false false false false = omega arith

chosen_same : (b : ℕ) (p q r s t u : Bool) → length (chosen b p q r s t u) ≡ 1 → chosen b p q r s t u ≡ b ∷ []
chosen_same b true q r s t u e = absurd (omega arith)
chosen_same b false true r s t u e = absurd (omega arith)
chosen_same b false false true s t u e = absurd (omega arith)
chosen_same b false false false true t u e = absurd (omega arith)
chosen_same b false false false false true u e = absurd (omega arith)
chosen_same b false false false false false true e = absurd (omega arith)
chosen_same b false false false false false false e = refl

chosen_short : (b : ℕ) (p q r s t u : Bool) → length (chosen b p q r s t u) ≤ 6
chosen_short b true q r s t u = omega arith
chosen_short b false true r s t u = omega arith
chosen_short b false false true s t u = omega arith
chosen_short b false false false true t u = omega arith
chosen_short b false false false false true u = omega arith
chosen_short b false false false false false true = omega arith
chosen_short b false false false false false false = omega arith

module _ (v : Bool) (b : ℕ) where
  pub escape_some : 1 ≤ length (escape v b)
  escape_some = chosen_some b (eqb b 38) (eqb b 60) (eqb b 62) (eqb b 34) (v && eqb b 9) (v && eqb b 10)

  -- nothing else stands for a byte in the room of one
  pub escape_same : length (escape v b) ≡ 1 → escape v b ≡ b ∷ []
  escape_same e = chosen_same b (eqb b 38) (eqb b 60) (eqb b 62) (eqb b 34) (v && eqb b 9) (v && eqb b 10) e

  pub escape_short : length (escape v b) ≤ 6
  escape_short = chosen_short b (eqb b 38) (eqb b 60) (eqb b 62) (eqb b 34) (v && eqb b 9) (v && eqb b 10)
