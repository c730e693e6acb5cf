-- A value or a text, which may be empty.
use Prim.Native.Nat.{ℕ, ◌+◌, ◌-◌, ◌≤◌, ◌<◌}
use Rattle.std.specs.Prelude.{◌≡◌, Bool, ◌||◌, List, [], ◌∷◌, leb, length, get_or, Result, Ok, Err}
use Rattle.std.proofs.Math.Path.{refl}
use Rattle.std.proofs.Common.{sym, ap, ◌∙◌, arith, ne_eqb, eqb-true, leb-true, leb-false}
use Rattle.std.proofs.Math.Bool.{true, false}
use Rattle.std.proofs.lemmas.Bool.{false≢true, eqb-false}
use Rattle.std.proofs.Math.Dec.{eqb}
use Rattle.tree.specs.Content.{content_limit, text_byte, text_kind}
use Rattle.tree.specs.Spelling.{Spelling, broken, spelling, spell, start_of}
use Rattle.xml.specs.Bytes.{ampersand, brackets}
use Rattle.xml.specs.Reading.{node_offset}
use Rattle.xml.specs.Laws.Words.{Words, references}
use Rattle.xml.specs.Laws.Automaton.{Config, Event, born, byte, stuck, move, step}
use Rattle.xml.specs.Laws.Counts.{births, tail, peak}
use Rattle.xml.specs.Laws.Monitor.{Monitor, on, seen, at_rest, is_on, seen_as, monitor}
use Rattle.xml.proofs.Laws.Monitor.{monitor_quiet, monitor_byte}
use Rattle.xml.specs.Laws.Scan.{scan_at}
use Rattle.xml.proofs.Laws.Scan.{scan_unspelled}
use Rattle.xml.proofs.Laws.Goes.{goes_step, stops_end, stops_stuck, scan_plain, scan_born, scan_too_many}
use Rattle.xml.specs.Laws.Forces.{extent}
use Rattle.xml_tokens.specs.declared.Cursor.{Cursor}
use Rattle.xml_tokens.specs.declared.Read.{Read}
use Rattle.xml_tokens.specs.Classes.{literal, begins, reads_as}
use Rattle.xml_tokens.specs.Steps.{text_monitor, CharactersRead, characters_past, characters_refused, Contents, TextRead, text_past}
use Rattle.xml_tokens.specs.Steps.{text_refused}
use Rattle.xml_tokens.specs.Laws.Classes.{literal_text, ampersand_text}
use Rattle.xml_tokens.specs.Laws.Spelling.{monitor_born, text_seen}
use Rattle.xml_tokens.specs.Laws.Specials.{high_reads}
use Rattle.xml_tokens.specs.Laws.Characters.{literal_seen}
use Rattle.protocol.specs.declared.causes.Cause.TheVariants.{NotOfGrammar, NodesOverLimit}
use Rattle.xml_tokens.specs.Values.{refusal, read}
use Rattle.xml_tokens.specs.declared.Refusal.{Refusal}

-- the first character is read as any other, and a node is born
pub record Begun (s : List ℕ) (at : ℕ) {stop : ℕ} {S : Config} {C : ℕ → Config} {R : Words → Config} {D : Config}
    (x : Contents stop S C R D) : Type 0 where
  pub next : Config
  pub rest : List Event
  pub calm : births rest ≡ 0
  pub short : extent 0 rest next ≤ content_limit
  pub born_so : step true S (get_or s at 0) ≡ move next (born x.depth text_kind ∷ rest)
  pub plainly : step true (C 0) (get_or s at 0) ≡ move next rest
  pub refers_there : get_or s at 0 ≡ ampersand → rest ≡ []
  pub stands_there : (get_or s at 0 ≡ ampersand → ⊥) → rest ≡ byte (reads_as stop (get_or s at 0)) ∷ []

pub begun_by : (s : List ℕ) (at : ℕ) {stop : ℕ} {S : Config} {C : ℕ → Config} {R : Words → Config} {D : Config} (x : Contents stop S C R D)
    → (get_or s at 0 ≡ stop → ⊥) → ((get_or s at 0 ≡ ampersand → ⊥) → literal stop 0 (get_or s at 0) ≡ true) → Begun s at x
unfolding births tail peak
begun_by s at {stop} {S} {C} {R} x other itself = go (eqb (get_or s at 0) ampersand) refl
  where
    go : (y : Bool) → eqb (get_or s at 0) ampersand ≡ y → Begun s at x
    go true a = let u = eqb-true (get_or s at 0) ampersand a in record {
      next = R references;
      rest = [];
      calm = refl;
      short = omega (arith, x.inner.due references);
      born_so = ap (step true S) u ∙ x.first_refers;
      plainly = ap (step true (C 0)) u ∙ x.inner.refers_to 0;
      refers_there = λ e. refl;
      stands_there = λ n. absurd (n u);
    }
    go false a =
        let c = get_or s at 0 in
        let i = itself (eqb-false c ampersand a) in record {
          next = C (brackets 0 c);
          rest = byte (reads_as stop c) ∷ [];
          calm = refl;
          short = omega (arith, x.inner.calm (brackets 0 c));
          born_so = x.first c other i;
          plainly = x.inner.plainly 0 c other i;
          refers_there = λ e. absurd (eqb-false c ampersand a e);
          stands_there = λ n. refl;
        }

module _ (s : List ℕ) (stop at spare : ℕ) where
  pub text_end : length s ≤ at → TextRead s stop at spare (Err (refusal NotOfGrammar at))
  text_end h = text_refused {x = NotOfGrammar} {j = at} (λ S C R D x. stops_end s S spare at h x.starting)

  module _ (h : at < length s) where
    pub text_empty : (c : Cursor) → get_or s at 0 ≡ stop → c.at ≡ at + 1 → TextRead s stop at spare (Ok (read c spare))
    text_empty c e p =
        let u : c.at - 1 ≡ at = omega arith in
        text_past {c = c} {m = spare} (omega arith) (omega arith) (rw u e) (omega arith)
        (λ S C R D x. rw p (goes_step s S spare at h D (ap (step true S) e ∙ x.nothing) x.inner.behind))

    module _ (other : get_or s at 0 ≡ stop → ⊥) where
      pub text_wrong : begins stop 0 (get_or s at 0) ≡ false → TextRead s stop at spare (Err (refusal NotOfGrammar at))
      unfolding begins
      text_wrong e = text_refused {x = NotOfGrammar} {j = at} (λ S C R D x. stops_stuck s S spare at h (go x (eqb (get_or s at 0) ampersand) refl e))
        where
          go : {S : Config} {C : ℕ → Config} {R : Words → Config} {D : Config} → Contents stop S C R D → (y : Bool)
              → eqb (get_or s at 0) ampersand ≡ y
              → (y || literal stop 0 (get_or s at 0)) ≡ false → step true S (get_or s at 0) ≡ stuck
          go x true p q = absurd (false≢true (sym q))
          go x false p q = x.no_first (get_or s at 0) other (eqb-false (get_or s at 0) ampersand p) q

      module _ (e : begins stop 0 (get_or s at 0) ≡ true) where
        itself : (get_or s at 0 ≡ ampersand → ⊥) → literal stop 0 (get_or s at 0) ≡ true
        unfolding begins
        itself n = rw (ne_eqb (get_or s at 0) ampersand n) at e

        begun : {S : Config} {C : ℕ → Config} {R : Words → Config} {D : Config} (x : Contents stop S C R D) → Begun s at x
        begun x = begun_by s at x other itself

        -- no character begins with it
        broken_high : spell (start_of true) (get_or s at 0) ≡ broken → 128 ≤ get_or s at 0
        broken_high q = go (leb 128 (get_or s at 0)) refl
          where
            text : (t : Bool) → eqb (get_or s at 0) ampersand ≡ t → text_byte (get_or s at 0) ≡ true
            text true a = rw (eqb-true (get_or s at 0) ampersand a) ampersand_text
            text false a = literal_text stop 0 (get_or s at 0) (itself (eqb-false (get_or s at 0) ampersand a))

            go : (t : Bool) → leb 128 (get_or s at 0) ≡ t → 128 ≤ get_or s at 0
            go true a = leb-true 128 (get_or s at 0) a
            go false a =
                let b = get_or s at 0 in
                let p : seen_as broken ≡ seen text_monitor =
                ap seen_as (sym q) ∙ text_seen b (text (eqb b ampersand) refl) (leb-false 128 b a) in
                absurd (let z : ◌≡◌ {A = ℕ} 0 1 = cc in omega arith)

        pub text_broken : spell (start_of true) (get_or s at 0) ≡ broken → TextRead s stop at spare (Err (refusal NotOfGrammar at))
        text_broken q =
            let high = broken_high q in
            text_refused {x = NotOfGrammar} {j = at} (λ S C R D x. record {
              leads = λ w o r k m.
                  let y = begun x in
                  scan_unspelled s S w spare k at h y.next (born x.depth text_kind ∷ y.rest) y.born_so
                  (monitor_born w o r x.depth text_kind y.rest
                  ∙ rw (y.stands_there (λ a. omega (arith, high)), high_reads stop (get_or s at 0) high)
                  (monitor_byte text_monitor (get_or s at 0) ∙ ap seen_as q));
            })

        module _ {y : Spelling} (spelled : spell (start_of true) (get_or s at 0) ≡ spelling y) where
          first_seen : {S : Config} {C : ℕ → Config} {R : Words → Config} {D : Config} (x : Contents stop S C R D)
              → (z : Monitor) × (monitor text_monitor (begun x).rest ≡ seen z)
          first_seen x = go (eqb (get_or s at 0) ampersand) refl (leb 128 (get_or s at 0)) refl
            where
              go : (t : Bool) → eqb (get_or s at 0) ampersand ≡ t → (u : Bool) → leb 128 (get_or s at 0) ≡ u
                  → (z : Monitor) × (monitor text_monitor (begun x).rest ≡ seen z)
              go true e u a = (
                text_monitor,
                rw ((begun x).refers_there (eqb-true (get_or s at 0) ampersand e))
                    (monitor_quiet text_monitor refl),
              )
              go false e true a =
                  let b = get_or s at 0 in (
                    on y,
                    rw ((begun x).stands_there (eqb-false b ampersand e), high_reads stop b (leb-true 128 b a))
                        (monitor_byte text_monitor b ∙ ap seen_as spelled),
                  )
              go false e false a =
                  let b = get_or s at 0 in (
                    text_monitor,
                    rw ((begun x).stands_there (eqb-false b ampersand e))
                        (monitor_byte text_monitor (reads_as stop b)
                        ∙ literal_seen stop 0 b (itself (eqb-false b ampersand e)) (leb-false 128 b a)),
                  )

          pub text_many : spare ≡ 0 → (begin : ℕ) → begin ≡ node_offset s at → TextRead s stop at spare (Err (refusal NodesOverLimit begin))
          text_many q begin p = text_refused {x = NodesOverLimit} {j = begin} (λ S C R D x. record {
            leads = λ w o r k m.
                let y = begun x in
                let z = first_seen x in
                rw p (scan_too_many s S spare at h y.next x.depth text_kind y.rest y.born_so w z.0
                (monitor_born w o r x.depth text_kind y.rest ∙ z.1) q k m y.short);
          })

          module _ (room : 1 ≤ spare) where
            begins_so : {S : Config} {C : ℕ → Config} {R : Words → Config} {D : Config} → Contents stop S C R D
                → (w : Monitor) → is_on w ≡ true → at_rest w ≡ true → (k : ℕ) → k ≤ content_limit
                → scan_at s S w spare k at ≡ scan_at s (C 0) text_monitor (spare - 1) 0 at
            begins_so {S} {C} x w o r k m =
                let y = begun x in
                let z = first_seen x in
                scan_born s S spare at h y.next x.depth text_kind y.rest y.born_so w z.0
                (monitor_born w o r x.depth text_kind y.rest ∙ z.1) y.calm room k m y.short
                ∙ sym (scan_plain s (C 0) (spare - 1) at h y.next y.rest y.plainly text_monitor z.0 z.1 y.calm y.short)

            pub text_rest : {r : Result Read Refusal} → CharactersRead s stop at (spare - 1) r → TextRead s stop at spare r
            text_rest (characters_past {c = c} a b d f) =
                text_past {c = c} {m = spare - 1} a b d (omega arith)
                (λ S C R D x. record { back = λ v y. record { leads = λ w o r k m. begins_so x w o r k m ∙ f C R D x.inner v y } })
            text_rest (characters_refused {x = x} {j = j} f) =
                text_refused {x = x} {j = j}
                (λ S C R D y. record { leads = λ w o r k m. begins_so y w o r k m ∙ f C R D y.inner })
