-- Values and texts, decoded character by character.
use Prim.Native.Nat.{ℕ, ◌+◌, ◌≤◌, ◌<◌, max}
use Rattle.std.specs.Prelude.{◌≡◌, refl, Bool, true, false, cond, not, ◌&&◌, ◌||◌, eqb, leb, length, get_or, take, drop, set, Ok, Err}
use Rattle.std.proofs.Common.{sym, subst, ◌∙◌, arith, add-one, drop-cons, take-suc-set, eq-eqb, ne_eqb, eqb-true, leb-true, leb-false}
use Rattle.std.proofs.Math.Path.{ap}
use Rattle.std.proofs.lemmas.Bool.{false≢true, eqb-false, lt-leb}
use mathlib.Core.List.{List, [], ◌∷◌, ◌++◌}
use Rattle.std.proofs.Math.Seq.{length-take-le}
use Rattle.tree.specs.Content.{content_limit, text_kind, text_byte}
use Rattle.tree.specs.Laws.Tests.{and_left}
use Rattle.xml.specs.Bytes.{tab, line_feed, space, less_than, ampersand, blank, normalized, brackets}
use Rattle.xml.specs.Laws.Words.{Words, references}
use Rattle.xml.specs.Laws.Automaton.{Config, Event, born, byte, step, tell_bytes}
use Rattle.xml.specs.Laws.Complete.{Accepts}
use Rattle.xml.specs.Laws.Counts.{births, tail, peak}
use Rattle.xml.proofs.Laws.Counts.{peak_bytes}
use Rattle.xml.specs.Laws.Monitor.{off}
use Rattle.xml.proofs.Laws.Monitor.{monitor_off}
use Rattle.xml.specs.Laws.Judge.{bad}
use Rattle.xml.specs.Laws.Scan.{scan_at}
use Rattle.xml.proofs.Laws.Goes.{scan_full}
use Rattle.xml.specs.Laws.Tokens.{Reach}
use Rattle.xml.specs.Laws.Fixed.{reference_at}
use Rattle.xml.proofs.Laws.Fixed.{references_at}
use Rattle.xml.specs.Laws.Tells.{Tells}
use Rattle.xml.proofs.Laws.Tells.{no_step, tells_then, tells_step, tells_word, no_word_read, tells_born, not_refused_at}
use Rattle.xml.proofs.Laws.Behind.{some_byte}
use Rattle.xml_tokens.specs.Classes.{literal, reads_as}
use Rattle.xml_tokens.specs.declared.Cursor.{Cursor}
use Rattle.xml_tokens.specs.Steps.{Refers, refers, no_reference, Characters, Contents}
use Rattle.xml_tokens.specs.Laws.Contents.{begun_by}
use Rattle.xml_filling.specs.Fill.{least, Decodes}
use Rattle.xml_tokens.specs.Values.{mismatch, reference}

told_more : (b : List ℕ) (v : ℕ) (l : List Event) → tell_bytes (b ++ (v ∷ [])) l ≡ tell_bytes b (byte v ∷ l)
unfolding tell_bytes
told_more [] v l = refl
told_more (x ∷ b) v l = ap (λ (t : List Event). byte x ∷ t) (told_more b v l)

-- below a space there are only a tab and a line feed
below_space : (b : ℕ) → text_byte b ≡ true → b < space → (b ≡ tab → ⊥) → b ≡ line_feed
unfolding text_byte
below_space b h l n = go (eqb b 10) refl (rw (ne_eqb b 9 n, lt-leb 32 b l) at h)
  where
    go : (t : Bool) → eqb b 10 ≡ t → (t || false) ≡ true → b ≡ line_feed
    go true e k = eqb-true b 10 e
    go false e k = absurd (false≢true k)

-- the larger of a byte that stands for itself and the least is what it is read as
larger_read : (stop k b : ℕ) → literal stop k b ≡ true → max b (least stop) ≡ reads_as stop b
unfolding least reads_as normalized blank literal
larger_read stop k b h = go (eqb stop less_than) (leb space b) refl
  where
    text : text_byte b ≡ true
    text = and_left (text_byte b) _ (and_left (text_byte b && not (eqb b less_than)) _ (and_left _ _ h))

    value : (t : Bool) → leb space b ≡ t → max b space ≡ cond (eqb b tab || eqb b line_feed || eqb b space) space b
    value true e =
        let l = leb-true space b e in
        rw (ne_eqb b tab (λ z. omega arith), ne_eqb b line_feed (λ z. omega arith)) (equal (eqb b space) refl l)
      where
        equal : (t : Bool) → eqb b space ≡ t → space ≤ b → max b space ≡ cond t space b
        equal true z l = let p = eqb-true b space z in omega arith
        equal false z l = omega arith
    value false e = let l = leb-false space b e in low (eqb b tab) refl l
      where
        low : (t : Bool) → eqb b tab ≡ t → b < space → max b space ≡ cond (t || eqb b line_feed || eqb b space) space b
        low true z l = omega arith
        low false z l = rw (eq-eqb b line_feed (below_space b text l (eqb-false b tab z))) (omega arith)

    go : (s t : Bool) → leb space b ≡ t
        → max b (cond s 0 space) ≡ cond s b (cond (eqb b tab || eqb b line_feed || eqb b space) space b)
    go true t e = omega arith
    go false t e = value t e

-- what is read behind the bytes b of a content, k bytes ] just before
pub record Decoded (x : List ℕ) (i : ℕ) (b : List ℕ) (C : ℕ → Config) (e : List Event) : Type 0 where
  pub k : ℕ
  pub later : List Event
  pub tells : e ≡ tell_bytes b later
  pub rest : Accepts true (C k) (drop i x) later

-- the loop has come to i, with the content b
pub record Decoding (x : List ℕ) (stop at i : ℕ) (b : List ℕ) : Type 0 where
  pub comes : (C : ℕ → Config) (R : Words → Config) (D : Config) → Characters stop C R D → {e : List Event}
      → Accepts true (C 0) (drop at x) e → Decoded x i b C e

pub decode_start : (x : List ℕ) (stop at : ℕ) → Decoding x stop at at []
unfolding tell_bytes
decode_start x stop at = record { comes = λ C R D k {e} r. record { k = 0; later = e; tells = refl; rest = r } }

module _ (x : List ℕ) (stop at i n : ℕ) (b : List ℕ) (g : Decoding x stop at i (take n b)) (first : at ≤ i) (few : n ≤ content_limit)
    (long : length b ≡ content_limit) where
  pub decode_end : (c : Cursor) → length x ≤ i → Decodes x stop at b n c
  decode_end c h = record {
    few = few;
    tells = λ C R D k m r. let y = g.comes C R D k r in absurd (omega (arith, some_byte x (C y.k) i (k.going y.k) y.rest));
  }

  module _ (h : i < length x) where
    pub decode_stop : (c : Cursor) → get_or x i 0 ≡ stop → c.at ≡ i + 1 → Decodes x stop at b n c
    decode_stop c e p = record {
      few = few;
      tells = λ C R D k m r.
          let y = g.comes C R D k r in
          let z = (tells_step x (C y.k) i h D [] (ap (step true (C y.k)) e ∙ k.stops y.k)).told y.later y.rest in
          (omega arith, omega arith, (z.0, y.tells ∙ ap (tell_bytes (take n b)) z.1, rw p z.2));
    }

    module _ (other : get_or x i 0 ≡ stop → ⊥) where
      -- a byte that stands for itself may stand there
      itself : {C : ℕ → Config} {R : Words → Config} {D : Config} → Characters stop C R D → (k : ℕ) {e : List Event}
          → (get_or x i 0 ≡ ampersand → ⊥) → Accepts true (C k) (drop i x) e → literal stop k (get_or x i 0) ≡ true
      itself {C} q k a r = go (literal stop k (get_or x i 0)) refl
        where
          go : (t : Bool) → literal stop k (get_or x i 0) ≡ t → literal stop k (get_or x i 0) ≡ true
          go true p = p
          go false p = absurd (no_step (q.no_other k (get_or x i 0) other a p) (rw (drop-cons x i 0 h) at r))

      -- an ampersand
      referring : (C : ℕ → Config) (R : Words → Config) (D : Config) → Characters stop C R D → (k : ℕ) {e : List Event}
          → get_or x i 0 ≡ ampersand → Accepts true (C k) (drop i x) e
          → (l : List Event) × (e ≡ l) × Accepts true (R references) (drop (i + 1) x) l
      referring C R D q k {e} a r =
          (tells_step x (C k) i h (R references) [] (ap (step true (C k)) a ∙ q.refers_to k)).told e r

      pub decode_full : (c : Cursor) → n ≡ content_limit → Decodes x stop at b n c
      unfolding births tail peak
      decode_full c f = record { few = few; tells = λ C R D k m r. absurd (never C R D k m (g.comes C R D k r)) }
        where
          never : (C : ℕ → Config) (R : Words → Config) (D : Config) → Characters stop C R D → {e : List Event} → peak 0 e ≤ content_limit
              → Decoded x i (take n b) C e → ⊥
          never C R D q {e} m y = not_refused_at x (C y.k) (births y.later) content_limit i
              (go (eqb (get_or x i 0) ampersand) refl) y.rest (omega arith) (omega (arith, more))
            where
              more : peak 0 e ≡ peak content_limit y.later
              more = ap (peak 0) y.tells ∙ peak_bytes 0 (take n b) y.later
                  ∙ ap (λ (j : ℕ). peak j y.later) (omega (arith, length-take-le n b (omega arith)))

              go : (t : Bool) → eqb (get_or x i 0) ampersand ≡ t → scan_at x (C y.k) off (births y.later) content_limit i ≡ bad 5 i
              go true p =
                  scan_full x (C y.k) (births y.later) i h (R references) []
                  (ap (step true (C y.k)) (eqb-true (get_or x i 0) ampersand p)
                  ∙ q.refers_to y.k) off off (monitor_off []) refl content_limit
                  (omega (arith, q.due references))
              go false p =
                  let a = get_or x i 0 in
                  let o = eqb-false a ampersand p in
                  scan_full x (C y.k) (births y.later) i h (C (brackets y.k a)) (byte (reads_as stop a) ∷ [])
                  (q.plainly y.k a other (itself q y.k o y.rest)) off off (monitor_off (byte
                  (reads_as stop a) ∷ [])) refl content_limit
                  (omega arith)

      -- a reference that goes wrong
      pub decode_lost : (c : Cursor) {j : ℕ} → get_or x i 0 ≡ ampersand → Refers x (i + 1) (reference_at (drop (i + 1) x)) (Err (mismatch j))
          → Decodes x stop at b n c
      decode_lost c {j} a r = record {
        few = few;
        tells = λ C R D k m u. let y = g.comes C R D k u in
            let z = referring C R D k y.k a y.rest in absurd (never k z.2 (reference_at (drop (i + 1) x)) refl r);
      }
        where
          never : {C : ℕ → Config} {R : Words → Config} {D : Config} → Characters stop C R D → {l : List Event}
              → Accepts true (R references) (drop (i + 1) x) l → (q : Reach) → reference_at (drop (i + 1) x) ≡ q
              → Refers x (i + 1) q (Err (mismatch j)) → ⊥
          never {C} {R} k u q p (no_reference o) =
              no_word_read x R (C 0) (λ b. byte b ∷ []) k.words references (i + 1) (references_at (drop (i + 1) x) ∙ p) u

      -- one character more
      module _ (room : n < content_limit) where
        grown : (v : ℕ) → take (n + 1) (set b n v) ≡ take n b ++ (v ∷ [])
        grown v = rw (add-one n) (take-suc-set b n v (omega arith))

        decoded : {C : ℕ → Config} {e : List Event} (v : ℕ) (y : Decoded x i (take n b) C e) (k j : ℕ)
            → Tells x (C y.k) i (byte v ∷ []) (C k) j → Decoded x j (take (n + 1) (set b n v)) C e
        decoded v y k j t =
            let z = t.told y.later y.rest in record {
              k = k;
              later = z.0;
              tells = y.tells ∙ ap (tell_bytes (take n b)) z.1 ∙ sym (told_more (take n b) v z.0)
                  ∙ ap (λ (a : List ℕ). tell_bytes a z.0) (sym (grown v));
              rest = z.2;
            }

        -- a byte that stands for itself
        pub decode_byte : (v : ℕ) → (get_or x i 0 ≡ ampersand → ⊥) → v ≡ max (get_or x i 0) (least stop)
            → Decoding x stop at (i + 1) (take (n + 1) (set b n v))
        decode_byte v o p = record {
          comes = λ C R D q r.
              let y = g.comes C R D q r in
              let a = get_or x i 0 in
              let z = itself q y.k o y.rest in
              decoded v y (brackets y.k a) (i + 1) (rw (p ∙ larger_read stop y.k a z) (tells_step x (C y.k) i h
              (C (brackets y.k a)) (byte (reads_as stop a) ∷ []) (q.plainly y.k a other z)));
        }

        -- a reference
        pub decode_reference : {v : ℕ} {c : Cursor} → get_or x i 0 ≡ ampersand → Refers x (i + 1) (reference_at (drop (i + 1) x)) (Ok (reference v c))
            → Decoding x stop at c.at (take (n + 1) (set b n v))
        decode_reference {v} {c} a r = record {
          comes = λ C R D q u.
              let y = g.comes C R D q u in
              decoded v y 0 c.at (tells_then [] (tells_step x (C y.k) i h (R references) []
              (ap (step true (C y.k)) a ∙ q.refers_to y.k)) (word q (reference_at (drop (i + 1) x)) refl r));
        }
          where
            word : {C : ℕ → Config} {R : Words → Config} {D : Config} → Characters stop C R D → (q : Reach)
                → reference_at (drop (i + 1) x) ≡ q → Refers x (i + 1) q (Ok (reference v c))
                → Tells x (R references) (i + 1) (byte v ∷ []) (C 0) c.at
            word {C} {R} k q p (refers {n = m} o l) =
                rw o (tells_word x R (C 0) (λ b. byte b ∷ []) k.words references (i + 1) (references_at (drop (i + 1) x) ∙ p))

-- the first character, with which a node is born -------------------------------------------------

module _ (x : List ℕ) (at : ℕ) {stop : ℕ} {S : Config} {C : ℕ → Config} {R : Words → Config} {D : Config} (q : Contents stop S C R D)
    {e : List Event} (r : Accepts true S (drop at x) e) where
  pub content_inside : at < length x
  content_inside = some_byte x S at q.starting r

  pub none_told : get_or x at 0 ≡ stop → Accepts true D (drop (at + 1) x) e
  none_told p =
      let y = (tells_step x S at content_inside D [] (ap (step true S) p ∙ q.nothing)).told e r in
      subst (λ (l : List Event). Accepts true D (drop (at + 1) x) l) (sym y.1) y.2

  pub born_told : (get_or x at 0 ≡ stop → ⊥) → (l : List Event) × (e ≡ born q.depth text_kind ∷ l) × Accepts true (C 0) (drop at x) l
  born_told other =
      let y = begun_by x at q other itself in
      (tells_born x S (C 0) at content_inside y.next q.depth text_kind y.rest y.born_so y.plainly).told e r
    where
      itself : (get_or x at 0 ≡ ampersand → ⊥) → literal stop 0 (get_or x at 0) ≡ true
      itself a = go (literal stop 0 (get_or x at 0)) refl
        where
          go : (t : Bool) → literal stop 0 (get_or x at 0) ≡ t → literal stop 0 (get_or x at 0) ≡ true
          go true p = p
          go false p = absurd (no_step (q.no_first (get_or x at 0) other a p) (rw (drop-cons x at 0 content_inside) at r))
