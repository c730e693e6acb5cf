-- What may stand in a value or a text besides bytes that are characters by themselves: bytes from 128 on, and references.
use Prim.Native.Nat.{ℕ, ◌+◌, ◌-◌, ◌≤◌, ◌<◌}
use Rattle.std.specs.Prelude.{◌≡◌, Bool, ◌&&◌, leb, length, get_or, take, Result, Ok, Err}
use Rattle.std.proofs.Math.Path.{refl}
use Rattle.std.proofs.Common.{sym, ap, ◌∙◌, subst, true≢false, arith, add-one, take-append-drop, length-take-le}
use Rattle.std.proofs.Math.Bool.{true, false, cond, not}
use mathlib.Core.List.{List, [], ◌∷◌, ◌++◌}
use Rattle.std.proofs.Math.Dec.{eqb}
use Rattle.std.proofs.Math.ListN.{drop}
use borrow.Author.Tests.{leb-true, leb-false, le-leb, lt-ltb, eqb-true, eqb-false, ne_eqb}
use Rattle.tree.specs.Lists.{every}
use Rattle.tree.specs.Content.{content_limit, text_byte}
use Rattle.tree.specs.Spelling.{start_of, Fault, fault_in}
use Rattle.tree.specs.Laws.Tests.{and_left, and_right}
use Rattle.tree.specs.Laws.Spelling.{spell_cut}
use Rattle.xml.specs.Bytes.{blank, ampersand, less_than, greater_than, right_bracket, brackets, normalized, amp, apos, gt, lt}
use Rattle.xml.specs.Bytes.{quot, tab_reference, line_feed_reference}
use Rattle.xml.specs.Laws.Words.{Words, references}
use Rattle.xml.specs.Laws.Automaton.{Config, byte, move, to, step}
use Rattle.xml.specs.Laws.Counts.{births, tail, peak}
use Rattle.xml.specs.Laws.Monitor.{Monitor, off, on, unspelled, seen, at_rest, seen_as, see_byte, FaultAt}
use Rattle.xml.proofs.Laws.Monitor.{monitor_byte, monitor_quiet}
use Rattle.xml.proofs.Laws.Monitor.{fault_seen}
use Rattle.xml.specs.Laws.Judge.{bad}
use Rattle.xml.specs.Laws.Scan.{scan_at}
use Rattle.xml.proofs.Laws.Scan.{scan_end, scan_stuck}
use Rattle.xml.proofs.Laws.Goes.{scan_quiet, scan_full, scan_cut, scan_misspelled}
use Rattle.xml.specs.Laws.Tokens.{span, Reach, got, lost, reach, Landed}
use Rattle.xml.proofs.Laws.Tokens.{span_length, span_go, span_behind, word_scan}
use Rattle.xml.specs.Laws.Fixed.{word_at, agree, reference_at}
use Rattle.xml.proofs.Laws.Fixed.{references_at}
use Rattle.xml.proofs.Laws.Taken.{Follows, follows_none, follows_byte}
use Rattle.xml_tokens.specs.declared.Cursor.{Cursor}
use Rattle.xml_tokens.specs.declared.Piece.{Piece}
use Rattle.xml_tokens.specs.Classes.{literal, alone, reads_as}
use Rattle.xml_tokens.specs.Steps.{Run, Refers, refers, no_reference, Fits, fits, too_long, late_fault, early_fault, text_monitor}
use Rattle.xml_tokens.specs.Steps.{Characters, SpecialRead, special_taken, special_unfit}
use Rattle.xml_tokens.specs.Laws.Runs.{run_passes}
use Rattle.xml_tokens.specs.Laws.Spelling.{text_seen, text_again}
use Rattle.xml_tokens.specs.Laws.Letters.{all_taken, too_many, too_late, cut_off}
use Rattle.protocol.specs.declared.causes.Cause.TheVariants.{NotOfGrammar, ContentOverLimit}
use Rattle.xml_tokens.specs.Values.{refusal, mismatch, reference, piece}
use Rattle.xml_tokens.specs.declared.Refusal.{Refusal}

-- bytes from 128 on --------------------------------------------------------------------------

module _ (stop b : ℕ) (h : 128 ≤ b) where
  high_literal : (k : ℕ) → literal stop k b ≡ true
  unfolding literal text_byte
  high_literal k =
      rw (
        ne_eqb b 9 (λ e. omega arith),
        ne_eqb b 10 (λ e. omega arith),
        le-leb 32 b (omega arith),
        ne_eqb b less_than (λ e. omega arith),
        ne_eqb b ampersand (λ e. omega arith),
        ne_eqb b greater_than (λ e. omega arith),
      )
      (go (eqb stop less_than))
    where
      go : (t : Bool) → not (t && false && eqb k 2) ≡ true
      go true = refl
      go false = refl

  pub high_reads : reads_as stop b ≡ b
  unfolding reads_as normalized blank
  high_reads = rw (ne_eqb b 9 (λ e. omega arith), ne_eqb b 10 (λ e. omega arith), ne_eqb b 32 (λ e. omega arith)) (go (eqb stop less_than))
    where
      go : (t : Bool) → cond t b b ≡ b
      go true = refl
      go false = refl

  high_brackets : (k : ℕ) → brackets k b ≡ 0
  unfolding brackets
  high_brackets k = rw (ne_eqb b right_bracket (λ e. omega arith))

pub reads_ascii : (stop b : ℕ) → b < 128 → reads_as stop b < 128
unfolding reads_as normalized
reads_ascii stop b h = go (eqb stop less_than) (blank b)
  where
    go : (t u : Bool) → cond t b (cond u 32 b) < 128
    go true u = h
    go false true = omega arith
    go false false = h

module _ {stop : ℕ} {C : ℕ → Config} {R : Words → Config} {D : Config} (x : Characters stop C R D) where
  high_step : (k b : ℕ) → 128 ≤ b → step true (C k) b ≡ move (C 0) (byte b ∷ [])
  high_step k b h =
      x.plainly k b (λ e. omega (arith, x.ascii)) (high_literal stop b h k) ∙ rw (high_brackets stop b h k, high_reads stop b h)

  high_follows : (k : ℕ) (l : List ℕ) → every (leb 128) l ≡ true → 1 ≤ length l → Follows (C k) l (C 0)
  high_follows k [] e h = absurd (omega arith)
  high_follows k (b ∷ []) e h =
      follows_byte (high_step k b (leb-true 128 b (and_left (leb 128 b) _ e))) (x.calm 0) follows_none
  high_follows k (b ∷ a ∷ l) e h =
      follows_byte (high_step k b (leb-true 128 b (and_left (leb 128 b) _ e))) (x.calm 0)
      (high_follows 0 (a ∷ l) (and_right (leb 128 b) _ e) (omega arith))

  -- behind them no character goes on
  cut_text : (s : List ℕ) (n j k i : ℕ) (z : Monitor) → (i < length s → get_or s i 0 < 128) → at_rest z ≡ false
      → scan_at s (C k) z n j i ≡ bad 4 i
  cut_text s n j k i z f r = go (leb (length s) i) refl
    where
      none : (z : Monitor) → at_rest z ≡ false → (a : ℕ) → a < 128 → see_byte z a ≡ unspelled
      none off e a h = absurd (true≢false e)
      none (on y) e a h = ap seen_as (spell_cut y a e h)

      other : (h : i < length s) → (get_or s i 0 ≡ stop → ⊥) → (get_or s i 0 ≡ ampersand → ⊥) → (t : Bool) → literal stop k (get_or s i 0) ≡ t
          → scan_at s (C k) z n j i ≡ bad 4 i
      other h u v true e =
          let b = get_or s i 0 in
          scan_misspelled s (C k) n i h (C (brackets k b)) (reads_as stop b) (x.plainly k b u e) z
          (none z r (reads_as stop b) (reads_ascii stop b (f h))) j
      other h u v false e = scan_stuck s (C k) z n j i h (x.no_other k (get_or s i 0) u v e)

      here : (h : i < length s) → (t u : Bool) → eqb (get_or s i 0) stop ≡ t → eqb (get_or s i 0) ampersand ≡ u
          → scan_at s (C k) z n j i ≡ bad 4 i
      here h true u e a = scan_cut s (C k) n i h D (ap (step true (C k)) (eqb-true (get_or s i 0) stop e) ∙ x.stops k) z r j
      here h false true e a =
          scan_cut s (C k) n i h (R references) (ap (step true (C k)) (eqb-true (get_or s i 0) ampersand a) ∙ x.refers_to k) z r j
      here h false false e a = let b = get_or s i 0 in other h (eqb-false b stop e) (eqb-false b ampersand a) (literal stop k b) refl

      go : (t : Bool) → leb (length s) i ≡ t → scan_at s (C k) z n j i ≡ bad 4 i
      go true e = scan_end s (C k) z n j i (leb-true (length s) i e) ∙ rw (x.going k)
      go false e = here (leb-false (length s) i e) (eqb (get_or s i 0) stop) (eqb (get_or s i 0) ampersand) refl refl

module _ (s : List ℕ) (at end count : ℕ) (inside : at < length s) (high : 128 ≤ get_or s at 0) (r : Run (leb 128) s at end)
    (m : count ≤ content_limit) where
  abbrev l : List ℕ
  l = take (end - at) (drop at s)

  spanned : end - at ≡ span (leb 128) (drop at s)
  spanned = omega (arith, r.ends)

  some : at < end
  some = omega (arith, r.ends, span_go (leb 128) s at inside (le-leb 128 (get_or s at 0) high))

  long : length l ≡ end - at
  long = length-take-le (end - at) (drop at s) (omega (arith, spanned, span_length (leb 128) (drop at s)))

  there : drop at s ≡ l ++ drop (end - at) (drop at s)
  there = sym (take-append-drop (end - at) (drop at s))

  abbrev spelled : Fault
  spelled = fault_in (start_of true) l

  faults : {f : Fault} → spelled ≡ f → FaultAt text_monitor l f
  faults q = subst (FaultAt text_monitor l) q (fault_seen (start_of true) l)

  module _ {stop : ℕ} {C : ℕ → Config} {R : Words → Config} {D : Config} (x : Characters stop C R D) where
    follows : (k : ℕ) → Follows (C k) l (C 0)
    follows k = high_follows x k l (rw spanned (run_passes (leb 128) (drop at s))) (omega (arith, long, some))

    cut : (n : ℕ) (z : Monitor) → at_rest z ≡ false → scan_at s (C 0) z n (count + length l) (at + length l) ≡ bad 4 (at + length l)
    cut n z h =
        let q : at + length l ≡ end = omega (arith, long, some) in
        rw q (cut_text x s n (count + length l) 0 end z
        (λ i. leb-false 128 (get_or s end 0) (rw r.ends (span_behind (leb 128) s at (omega (arith, r.ends))))) h)

  pub special_fits : {y : Result Piece Refusal} (f : Fault) → spelled ≡ f → Fits at end count f y → SpecialRead s at count y
  special_fits f q (fits {c = c} {n = n} e a o) = special_taken {c = c} {n = n} (omega (arith, some)) (omega (arith, r.inside)) o
      (λ stop C R D x k m.
      all_taken s m l _ at count text_monitor (follows x k) there (faults q) (omega (arith, long))
      (λ z i j w.
      let u : count + length l ≡ n = omega (arith, long) in
      let v : at + length l ≡ c.at = omega (arith, long, some) in
      rw (u, v, text_again l z i j)))
  special_fits f q (too_long {j = j} o e) = special_unfit {x = ContentOverLimit} {j = j} (λ stop C R D x k n.
      too_many s n l _ at count text_monitor (follows x k) there m (faults q) (omega (arith, long)) ∙ ap (bad 5) (sym e))
  special_fits f q (late_fault {n = a} {j = j} o e) = special_unfit {x = ContentOverLimit} {j = j} (λ stop C R D x k n.
      too_late s n l _ at count text_monitor (follows x k) there m (faults q) o ∙ ap (bad 5) (sym e))
  special_fits f q (early_fault {n = a} {j = j} o e) = special_unfit {x = NotOfGrammar} {j = j} (λ stop C R D x k n.
      cut_off s n l _ at count text_monitor (follows x k) there (faults q) o (cut x n) ∙ ap (bad 4) (sym e))

-- references ---------------------------------------------------------------------------------

-- a word's value is a character of a text by itself
data Known : Reach → Type 0 where
  known_value : {b n : ℕ} → see_byte text_monitor b ≡ seen text_monitor → Known (got b n)
  no_value : {n : ℕ} → Known (lost n)

known_word : (w : List ℕ) (b : ℕ) (l : List ℕ) → text_byte b ≡ true → b < 128 → Known (word_at w b l)
unfolding word_at
known_word w b l h k = go (eqb (agree w l) (length w))
  where
    go : (t : Bool) → Known (cond t (got b (length w)) (lost (agree w l)))
    go true = known_value (text_seen b h k)
    go false = no_value

either : {x y : Reach} (t : Bool) → Known x → Known y → Known (cond t x y)
either true p q = p
either false p q = q

known : (l : List ℕ) → Known (reference_at l)
unfolding reference_at text_byte
known l =
    let a = get_or l 0 0 in
    let b = get_or l 1 0 in
    either (eqb a 97) (either (eqb b 109) (known_word amp 38 l refl (omega arith)) (known_word apos 39 l refl (omega arith)))
    (either (eqb a 103) (known_word gt 62 l refl (omega arith))
    (either (eqb a 108) (known_word lt 60 l refl (omega arith))
    (either (eqb a 35)
    (either (eqb b 49) (known_word line_feed_reference 10 l refl (omega arith)) (known_word tab_reference 9 l refl (omega arith)))
    (known_word quot 34 l refl (omega arith)))))

-- a reference ends behind its ampersand and inside the input
pub reference_inside : {s : List ℕ} {i b : ℕ} {c : Cursor} {q : Reach} → Refers s (i + 1) q (Ok (reference b c)) → (i < c.at) × (c.at ≤ length s)
reference_inside (refers o m) = (omega arith, m)

not_alone : (b : ℕ) → alone b ≡ false → b < 128 → b ≡ ampersand
unfolding alone
not_alone b e h = go (eqb b ampersand) refl (rw (lt-ltb b 128 h) at e)
  where
    go : (t : Bool) → eqb b ampersand ≡ t → not t ≡ false → b ≡ ampersand
    go true p q = eqb-true b ampersand p
    go false p q = absurd (true≢false q)

module _ (s : List ℕ) (i count : ℕ) (h : i < length s) (other : alone (get_or s i 0) ≡ false) (low : get_or s i 0 < 128) where
  referring : {stop : ℕ} {C : ℕ → Config} {R : Words → Config} {D : Config} → Characters stop C R D → (k : ℕ)
      → step true (C k) (get_or s i 0) ≡ to (R references)
  referring {C = C} x k = ap (step true (C k)) (not_alone (get_or s i 0) other low) ∙ x.refers_to k

  pub special_full : count ≡ content_limit → SpecialRead s i count (Err (refusal ContentOverLimit i))
  unfolding births tail peak
  special_full q = special_unfit {x = ContentOverLimit} {j = i} (λ stop C R D x k n.
      scan_full s (C k) n i h (R references) [] (referring x k) text_monitor text_monitor (monitor_quiet text_monitor refl) refl count
      (omega (arith, x.due references)))

  module _ (room : count < content_limit) where
    -- as far as it goes
    landed : {stop : ℕ} {C : ℕ → Config} {R : Words → Config} {D : Config} → Characters stop C R D → (k n : ℕ)
        → scan_at s (C k) text_monitor n count i
        ≡ Landed s (C 0) (λ b. byte b ∷ []) (λ b. text_monitor) n count (i + 1) (reference_at (drop (i + 1) s))
    unfolding births tail peak
    landed {C = C} {R = R} x k n =
        let l = drop (i + 1) s in
        scan_quiet s (C k) n i h (R references) (referring x k) text_monitor refl count (omega (arith, x.due references))
        ∙ go x n (reference_at l) (references_at l) (known l)
      where
        go : {stop : ℕ} {C : ℕ → Config} {R : Words → Config} {D : Config} → Characters stop C R D → (n : ℕ) (r : Reach)
            → reach references (drop (i + 1) s) ≡ r → Known r
            → scan_at s (R references) text_monitor n count (i + 1)
            ≡ Landed s (C 0) (λ b. byte b ∷ []) (λ b. text_monitor) n count (i + 1) r
        go {C = C} {R = R} x n (got b m) e (known_value v) =
            word_scan s R (C 0) (λ b. byte b ∷ []) n count x.words text_monitor (λ b. text_monitor) refl (λ y. omega (arith, x.due y))
            (λ b. omega (arith, x.calm 0)) (drop (i + 1) s) references (i + 1) refl (rw e (monitor_byte text_monitor b ∙ v))
            ∙ rw e
        go {C = C} {R = R} x n (lost m) e no_value =
            word_scan s R (C 0) (λ b. byte b ∷ []) n count x.words text_monitor (λ b. text_monitor) refl (λ y. omega (arith, x.due y))
            (λ b. omega (arith, x.calm 0)) (drop (i + 1) s) references (i + 1) refl (rw e tt)
            ∙ rw e

    pub special_lost : {j : ℕ} → Refers s (i + 1) (reference_at (drop (i + 1) s)) (Err (mismatch j))
        → SpecialRead s i count (Err (refusal NotOfGrammar j))
    special_lost {j} r = special_unfit {x = NotOfGrammar} {j = j} (λ stop C R D x k n. landed x k n ∙ go (reference_at (drop (i + 1) s)) r C n)
      where
        go : (q : Reach) → Refers s (i + 1) q (Err (mismatch j)) → (C : ℕ → Config) (n : ℕ)
            → Landed s (C 0) (λ b. byte b ∷ []) (λ b. text_monitor) n count (i + 1) q ≡ bad 4 j
        go q (no_reference o) C n = ap (bad 4) (sym o)

    pub special_reference : {b : ℕ} {c : Cursor} → Refers s (i + 1) (reference_at (drop (i + 1) s)) (Ok (reference b c))
        → SpecialRead s i count (Ok (piece c (count + 1)))
    unfolding tail
    special_reference {b} {c} r =
        let t = reference_inside r in
        special_taken {c = c} {n = count + 1} t.0 t.1 (omega arith)
        (λ stop C R D x k n. landed x k n ∙ go (reference_at (drop (i + 1) s)) r C n)
      where
        go : (q : Reach) → Refers s (i + 1) q (Ok (reference b c)) → (C : ℕ → Config) (n : ℕ)
            → Landed s (C 0) (λ b. byte b ∷ []) (λ b. text_monitor) n count (i + 1) q ≡ scan_at s (C 0) text_monitor n (count + 1) c.at
        go q (refers {n = m} o a) C n = rw o (ap (λ (j : ℕ). scan_at s (C 0) text_monitor n j (i + 1 + m)) (sym (add-one count)))
