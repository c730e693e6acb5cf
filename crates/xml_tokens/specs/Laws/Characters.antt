-- The loop over the characters of a value or a text.
use Prim.Native.Nat.{ℕ, ◌+◌, ◌-◌, ◌≤◌, ◌<◌}
use Rattle.std.specs.Prelude.{◌≡◌, Bool, cond, ◌||◌, List, [], ◌∷◌, ltb, length, Ok, Err}
use Rattle.std.proofs.Math.Path.{refl}
use Rattle.std.proofs.Common.{sym, ap, ◌∙◌, subst, arith, ne_eqb, ltb-true}
use Rattle.std.proofs.Math.Bool.{true, false}
use Rattle.std.proofs.lemmas.Bool.{false≢true, eqb-false, not-true}
use Rattle.std.proofs.Math.Dec.{eqb}
use Rattle.std.proofs.Math.ListN.{get_or}
use Rattle.tree.specs.Content.{content_limit, text_byte}
use Rattle.tree.specs.Laws.Tests.{and_left, and_right}
use Rattle.xml.specs.Bytes.{ampersand, less_than, brackets, blank, normalized}
use Rattle.xml.specs.Laws.Words.{Words}
use Rattle.xml.specs.Laws.Automaton.{Config, byte, stuck, move, step}
use Rattle.xml.specs.Laws.Counts.{births, tail, peak}
use Rattle.xml.specs.Laws.Monitor.{seen, see_byte}
use Rattle.xml.proofs.Laws.Monitor.{monitor_byte}
use Rattle.xml.specs.Laws.Scan.{scan_at}
use Rattle.xml.proofs.Laws.Scan.{scan_end, scan_stuck}
use Rattle.xml.proofs.Laws.Goes.{scan_quiet, scan_byte, scan_full}
use Rattle.xml_tokens.specs.declared.Cursor.{Cursor}
use Rattle.xml_tokens.specs.Classes.{literal, begins, alone, reads_as}
use Rattle.xml_tokens.specs.Steps.{text_monitor, Characters, SpecialRead, special_taken, special_unfit, CharactersRead}
use Rattle.xml_tokens.specs.Steps.{characters_past, characters_refused}
use Rattle.xml_tokens.specs.Laws.Classes.{literal_text, space_text}
use Rattle.xml_tokens.specs.Laws.Spelling.{text_seen}
use Rattle.xml_tokens.specs.Laws.Specials.{reads_ascii}
use Rattle.protocol.specs.declared.causes.Cause.{Cause}
use Rattle.protocol.specs.declared.causes.Cause.TheVariants.{NotOfGrammar, ContentOverLimit}
use Rattle.xml_tokens.specs.Values.{refusal, read, piece}

-- a byte that stands for itself and is a character by itself
pub literal_seen : (stop k b : ℕ) → literal stop k b ≡ true → b < 128 → see_byte text_monitor (reads_as stop b) ≡ seen text_monitor
unfolding reads_as normalized
literal_seen stop k b h l =
    text_seen (reads_as stop b) (go (eqb stop less_than) (blank b) (literal_text stop k b h)) (reads_ascii stop b l)
  where
    go : (t u : Bool) → text_byte b ≡ true → text_byte (cond t b (cond u 32 b)) ≡ true
    go true u e = e
    go false true e = space_text
    go false false e = e

alone_low : (b : ℕ) → alone b ≡ true → (b < 128) × (b ≡ ampersand → ⊥)
unfolding alone
alone_low b h = (
  ltb-true b 128 (and_left (ltb b 128) _ h),
  eqb-false b ampersand (not-true (eqb b ampersand) (and_right (ltb b 128) _ h)),
)

-- the loop has come to i, with k bytes ] just before and a content of so many bytes
pub record CharactersTo (s : List ℕ) (stop spare at k count i : ℕ) : Type 0 where
  pub comes : (C : ℕ → Config) (R : Words → Config) (D : Config) → Characters stop C R D
      → scan_at s (C 0) text_monitor spare 0 at ≡ scan_at s (C k) text_monitor spare count i

pub characters_start : (s : List ℕ) (stop spare at : ℕ) → CharactersTo s stop spare at 0 0 at
characters_start s stop spare at = record { comes = λ C R D x. refl }

module _ (s : List ℕ) (stop spare at k count i : ℕ) (t : CharactersTo s stop spare at k count i) where
  pub characters_end : length s ≤ i → CharactersRead s stop at spare (Err (refusal NotOfGrammar i))
  characters_end h =
      characters_refused {x = NotOfGrammar} {j = i} (λ C R D x. t.comes C R D x ∙ scan_end s (C k) text_monitor spare count i h ∙ rw (x.going k))

  -- a reference or bytes from 128 on
  pub characters_unfit : {x : Cause} {j : ℕ} → SpecialRead s i count (Err (refusal x j)) → CharactersRead s stop at spare (Err (refusal x j))
  characters_unfit {x} {j} (special_unfit f) =
      characters_refused {x = x} {j = j} (λ C R D y. t.comes C R D y ∙ f stop C R D y k spare)

  pub characters_special : {c : Cursor} {n : ℕ} → SpecialRead s i count (Ok (piece c n)) → CharactersTo s stop spare at 0 n c.at
  characters_special (special_taken a b d f) = record { comes = λ C R D y. t.comes C R D y ∙ f stop C R D y k spare }

  module _ (h : i < length s) where
    pub characters_stop : (c : Cursor) → at ≤ i → get_or s i 0 ≡ stop → count ≤ content_limit → c.at ≡ i + 1
        → CharactersRead s stop at spare (Ok (read c spare))
    characters_stop c m e q p =
        let u : c.at - 1 ≡ i = omega arith in
        characters_past {c = c} (omega arith) (omega arith) (rw u e)
        (λ C R D x v y. t.comes C R D x ∙ scan_quiet s (C k) spare i h D (ap (step true (C k)) e ∙ x.stops k) text_monitor refl count
        (omega (arith, x.behind))
        ∙ subst (λ (j : ℕ). scan_at s D text_monitor spare count j ≡ v) p (y.leads text_monitor refl refl count q))

    module _ (other : get_or s i 0 ≡ stop → ⊥) where
      pub characters_wrong : begins stop k (get_or s i 0) ≡ false → CharactersRead s stop at spare (Err (refusal NotOfGrammar i))
      unfolding begins
      characters_wrong e = characters_refused (λ C R D x.
          t.comes C R D x ∙ scan_stuck s (C k) text_monitor spare count i h (go x (eqb (get_or s i 0) ampersand) refl e))
        where
          go : {C : ℕ → Config} {R : Words → Config} {D : Config} → Characters stop C R D → (y : Bool) → eqb (get_or s i 0) ampersand ≡ y
              → (y || literal stop k (get_or s i 0)) ≡ false → step true (C k) (get_or s i 0) ≡ stuck
          go x true p q = absurd (false≢true (sym q))
          go x false p q = x.no_other k (get_or s i 0) other (eqb-false (get_or s i 0) ampersand p) q

      -- a byte that stands for itself
      module _ (e : begins stop k (get_or s i 0) ≡ true) (a : alone (get_or s i 0) ≡ true) where
        itself : literal stop k (get_or s i 0) ≡ true
        unfolding begins
        itself = rw (ne_eqb (get_or s i 0) ampersand (alone_low (get_or s i 0) a).1) at e

        is_seen : see_byte text_monitor (reads_as stop (get_or s i 0)) ≡ seen text_monitor
        is_seen = literal_seen stop k (get_or s i 0) itself (alone_low (get_or s i 0) a).0

        begun : {C : ℕ → Config} {R : Words → Config} {D : Config} → Characters stop C R D
            → step true (C k) (get_or s i 0) ≡ move (C (brackets k (get_or s i 0))) (byte (reads_as stop (get_or s i 0)) ∷ [])
        begun x = x.plainly k (get_or s i 0) other itself

        pub characters_full : count ≡ content_limit → CharactersRead s stop at spare (Err (refusal ContentOverLimit i))
        unfolding births tail peak
        characters_full q = characters_refused {x = ContentOverLimit} {j = i} (λ C R D x.
            let b = get_or s i 0 in
            t.comes C R D x
            ∙ scan_full s (C k) spare i h (C (brackets k b)) (byte (reads_as stop b) ∷ []) (begun x) text_monitor text_monitor
            (monitor_byte text_monitor (reads_as stop b) ∙ is_seen) refl count (omega arith))

        pub characters_byte : count < content_limit → CharactersTo s stop spare at (brackets k (get_or s i 0)) (count + 1) (i + 1)
        characters_byte room = record {
          comes = λ C R D x. t.comes C R D x
              ∙ scan_byte s (C k) spare i h (C (brackets k (get_or s i 0))) (reads_as stop (get_or s i 0)) (begun x) text_monitor text_monitor
              is_seen (x.calm (brackets k (get_or s i 0))) count room;
        }

-- behind a reference or bytes from 128 on
pub special_inside : {s : List ℕ} {at count n : ℕ} {c : Cursor} → SpecialRead s at count (Ok (piece c n))
    → (at < c.at) × (c.at ≤ length s) × (n ≤ content_limit)
special_inside (special_taken a b d f) = (a, b, d)
