-- The loops over runs of bytes and over words.
use Rattle.std.specs.Prelude.{ℕ, suc, ◌+◌, ◌≤◌, ◌<◌, ◌≡◌, refl, Bool, true, false, cond, List, [], ◌∷◌, get_or, take, drop, Result, Ok, Err}
use Rattle.std.proofs.Common.{◌∙◌}
use native.Mathlib.Omega.{arith}
use Rattle.std.proofs.Math.Numerals.{add-one}
use Rattle.std.proofs.Math.ListN.{length}
use Rattle.std.proofs.Math.Seq.{get_or-drop}
use Rattle.tree.specs.Lists.{every}
use Rattle.xml.specs.Bytes.{amp, apos, gt, lt, quot, tab_reference, line_feed_reference}
use borrow.Author.Tests.{eq-eqb, ne_eqb}
use Rattle.xml.specs.Laws.Tokens.{span}
use Rattle.xml.proofs.Laws.Tokens.{span_end, span_stop, span_go}
use Rattle.xml.specs.Laws.Fixed.{agree, word_at, reference_at}
use Rattle.xml_tokens.specs.declared.Cursor.{Cursor}
use Rattle.xml_tokens.specs.declared.Reference.{Reference}
use Rattle.byte_strings.specs.Agreement.{Agreement}
use Rattle.xml_tokens.specs.Steps.{Run, Refers, refers, no_reference}
use Rattle.xml_tokens.specs.Values.{mismatch, reference}
use Rattle.xml_tokens.specs.declared.Mismatch.{Mismatch}

-- a run: i is where the loop stands, from where it began
unfoldable pub Running : (ℕ → Bool) → List ℕ → ℕ → ℕ → Type 0
Running t s from i = from + span t (drop from s) ≡ i + span t (drop i s)

pub run_start : (t : ℕ → Bool) (s : List ℕ) (from : ℕ) → Running t s from from
unfolding Running
run_start t s from = refl

module _ (t : ℕ → Bool) (s : List ℕ) (from i : ℕ) (r : Running t s from i) where
  pub run_turn : i < length s → t (get_or s i 0) ≡ true → Running t s from (i + 1)
  unfolding Running
  run_turn h e = r ∙ rw add-one (omega (arith, span_go t s i h e))

  pub run_stop : i < length s → t (get_or s i 0) ≡ false → Run t s from i
  unfolding Running
  run_stop h e = record { ends = omega (arith, r, span_stop t s i h e); inside = omega arith }

  pub run_end : i ≤ length s → length s ≤ i → Run t s from i
  unfolding Running
  run_end l h = record { ends = omega (arith, r, span_end t s i h); inside = l }

-- the bytes of a run pass the test
pub run_passes : (t : ℕ → Bool) (l : List ℕ) → every t (take (span t l) l) ≡ true
unfolding span
run_passes t [] = refl
run_passes t (b ∷ l) = go (t b) refl (run_passes t l)
  where
    go : (x : Bool) → t b ≡ x → every t (take (span t l) l) ≡ true → every t (take (cond x (suc (span t l)) 0) (b ∷ l)) ≡ true
    go true e h = rw (e, h)
    go false e h = refl

-- a reference
module _ (w s : List ℕ) (value at n : ℕ) (a : Agreement w s at n) where
  pub word_whole : (c : Cursor) → n ≡ length w → c.at ≡ at + n → Refers s at (word_at w value (drop at s)) (Ok (reference value c))
  unfolding word_at
  word_whole c h e =
      let p : agree w (drop at s) ≡ length w = omega (arith, a.agrees) in
      rw (p, eq-eqb (length w) (length w) refl) (refers {n = length w} {c = c} (omega arith) (omega (arith, a.inside)))

  pub word_part : (n ≡ length w → ⊥) → Refers s at (word_at w value (drop at s)) (Err (mismatch (at + n)))
  unfolding word_at
  word_part h = rw (← a.agrees, ne_eqb n (length w) h) (no_reference refl)

-- which reference it can be, by the first two bytes
module _ (s : List ℕ) (at : ℕ) (x : Result Reference Mismatch) where
  abbrev Is : List ℕ → ℕ → Type 0
  Is w value = Refers s at (word_at w value (drop at s)) x → Refers s at (reference_at (drop at s)) x

  byte_here : get_or (drop at s) 0 0 ≡ get_or s at 0
  byte_here = let p : at + 0 ≡ at = omega arith in get_or-drop at s 0 0 ∙ rw p

  module _ (first : get_or s at 0 ≡ 97) where
    pub is_amp : get_or s (at + 1) 0 ≡ 109 → Is amp 38
    unfolding reference_at
    is_amp e r = rw (byte_here, first, get_or-drop at s 1 0, e) r

    pub is_apos : (get_or s (at + 1) 0 ≡ 109 → ⊥) → Is apos 39
    unfolding reference_at
    is_apos e r = rw (byte_here, first, get_or-drop at s 1 0, ne_eqb (get_or s (at + 1) 0) 109 e) r

  pub is_gt : get_or s at 0 ≡ 103 → Is gt 62
  unfolding reference_at
  is_gt e r = rw (byte_here, e) r

  pub is_lt : get_or s at 0 ≡ 108 → Is lt 60
  unfolding reference_at
  is_lt e r = rw (byte_here, e) r

  module _ (first : get_or s at 0 ≡ 35) where
    pub is_line_feed : get_or s (at + 1) 0 ≡ 49 → Is line_feed_reference 10
    unfolding reference_at
    is_line_feed e r = rw (byte_here, first, get_or-drop at s 1 0, e) r

    pub is_tab : (get_or s (at + 1) 0 ≡ 49 → ⊥) → Is tab_reference 9
    unfolding reference_at
    is_tab e r = rw (byte_here, first, get_or-drop at s 1 0, ne_eqb (get_or s (at + 1) 0) 49 e) r

  pub is_quot : (get_or s at 0 ≡ 97 → ⊥) → (get_or s at 0 ≡ 103 → ⊥) → (get_or s at 0 ≡ 108 → ⊥) → (get_or s at 0 ≡ 35 → ⊥) → Is quot 34
  unfolding reference_at
  is_quot e f g h r =
      rw (byte_here, ne_eqb (get_or s at 0) 97 e, ne_eqb (get_or s at 0) 103 f, ne_eqb (get_or s at 0) 108 g, ne_eqb (get_or s at 0) 35 h) r
