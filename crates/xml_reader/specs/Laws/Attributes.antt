-- Names compared with each other, and an attribute from its name to its value.
use Rattle.std.specs.Prelude.{ℕ, ◌+◌, ◌-◌, ◌≤◌, ◌<◌, ◌≡◌, Bool, eqb, length, get_or, Result, Ok, Err}
use Rattle.std.proofs.Math.Path.{refl, ap}
use Rattle.std.proofs.Common.{sym, ◌∙◌, true≢false, arith}
use Rattle.std.proofs.Math.Bool.{true, false}
use Rattle.std.proofs.lemmas.Bool.{false≢true}
use mathlib.Core.List.{List, [], ◌∷◌}
use Rattle.std.proofs.Math.Dec.{leb}
use borrow.Author.Tests.{leb-true, leb-false}
use Rattle.tree.specs.Content.{content_limit, attribute_kind, name_byte}
use Rattle.tree.specs.Spelling.{Spelling, broken, spelling, spell, start_of}
use Rattle.xml.specs.Bytes.{blank, equals_sign, used}
use Rattle.xml.specs.Grammar.{Name}
use Rattle.xml.specs.Reading.{node_offset}
use Rattle.xml.specs.Laws.Automaton.{in_tag, before_equals, attribute_name, born, byte, depth, move, step}
use Rattle.xml.specs.Laws.Counts.{births, tail, peak}
use Rattle.xml.specs.Laws.Monitor.{Monitor, on, at_rest, is_on, seen_as, monitor}
use Rattle.xml.specs.Laws.Monitor as Monitores
use Rattle.xml.specs.Laws.Judge.{Verdict, bad}
use Rattle.xml.specs.Laws.Scan.{scan_at}
use Rattle.xml.proofs.Laws.Scan.{scan_end, scan_stuck, scan_unspelled, scan_alike}
use Rattle.xml.specs.Laws.Goes.{Leads, Goes}
use Rattle.xml.proofs.Laws.Goes.{goes_then, scan_born, scan_too_many}
use Rattle.xml.specs.Laws.Tokens.{name_at, Naming}
use Rattle.xml_tokens.specs.declared.Cursor.{Cursor}
use Rattle.xml_tokens.specs.declared.Read.{Read}
use Rattle.xml_tokens.specs.Steps.{no_step, quiet_step, NamePlace, NameRead, EqualsRead, quoted, no_quote, TextRead, text_past}
use Rattle.xml_tokens.specs.Steps.{text_refused}
use Rattle.xml_tokens.specs.Laws.Spelling.{monitor_name}
use Rattle.xml_tokens.specs.Laws.Letters.{name_run, name_scan, name_stops, name_ended, quiet_either}
use Rattle.byte_strings.specs.Sorted.{Among}
use Rattle.byte_strings.specs.Laws.Sorted.{among_seen}
use Rattle.xml_reader.specs.Elements.{Attributed, AttributeRead, attribute_past, attribute_refused, Kept, attribute_names, Entered}
use Rattle.xml_reader.specs.Elements.{EnterRead, is_entered, is_repeated, NamesRead, names_past, names_refused, AttributeEnters}
use Rattle.xml_reader.specs.Laws.Configurations.{value_contents}
use Rattle.protocol.specs.declared.causes.Cause.{Cause}
use Rattle.protocol.specs.declared.causes.Cause.TheVariants.{NotOfGrammar, NodesOverLimit}
use Rattle.xml_tokens.specs.Values.{refusal, mismatch, piece, opening}
use Rattle.xml_tokens.specs.declared.Refusal.{Refusal}

module _ {s os os' : List ℕ} {lo count at : ℕ} where
  repeated_of : {b : Bool} → EnterRead s os os' lo count at b → b ≡ false → Among (attribute_names s os lo) count (name_at s at)
  repeated_of (is_repeated a) h = a
  repeated_of (is_entered a) h = absurd (true≢false h)

  entered_of : {b : Bool} → EnterRead s os os' lo count at b → b ≡ true → Entered s os os' lo count at
  entered_of (is_repeated a) h = absurd (false≢true h)
  entered_of (is_entered a) h = a

  names_behind : Entered s os os' lo count at → (y : Result Read Refusal) → NamesRead s os os' lo count at y
  names_behind e (Ok r) = names_past e
  names_behind e (Err r) = names_refused

-- an attribute ---------------------------------------------------------------------------------

-- an attribute's name, as the automaton carries it
pub naming : (n : Name) (ns seen : List Name) → Naming (attribute_name n ns seen)
unfolding step
naming n ns seen = record { next = λ p b e. rw e; calm = λ p. refl }

pub attribute_place : (n : Name) (ns seen : List Name) → NamePlace (attribute_name n ns seen)
unfolding step
attribute_place n ns seen = record {
  naming = naming n ns seen;
  quiet = λ p b e. rw e (quiet_either (used seen p) no_step
      (quiet_either (blank b) quiet_step (quiet_either (eqb b equals_sign) quiet_step no_step)));
  going = λ p. refl;
}

module _ (s : List ℕ) (at spare : ℕ) (x : Attributed s at) where
  abbrev b : ℕ
  b = get_or s at 0

  born_step : (n : Name) (ns seen : List Name)
      → step true (in_tag n ns seen) b ≡ move (attribute_name n ns seen (b ∷ [])) (born (depth (n ∷ ns)) attribute_kind ∷ byte b ∷ [])
  unfolding step
  born_step n ns seen = rw x.starts

  attribute_broken : (seen : List Name) → spell (start_of false) b ≡ broken → AttributeRead s seen at spare (Err (refusal NotOfGrammar at))
  attribute_broken seen e = attribute_refused {x = NotOfGrammar} {j = at} (λ n ns. record {
    leads = λ w o r k m.
        scan_unspelled s (in_tag n ns seen) w spare k at x.inside (attribute_name n ns seen (b ∷ []))
        (born (depth (n ∷ ns)) attribute_kind ∷ byte b ∷ []) (born_step n ns seen)
        (monitor_name w o r (depth (n ∷ ns)) attribute_kind b refl ∙ ap seen_as e);
  })

  module _ {y : Spelling} (e : spell (start_of false) b ≡ spelling y) where
    first_seen : (n : Name) (ns : List Name) (w : Monitor) → is_on w ≡ true → at_rest w ≡ true
        → monitor w (born (depth (n ∷ ns)) attribute_kind ∷ byte b ∷ []) ≡ Monitores.seen (on y)
    first_seen n ns w o r = monitor_name w o r (depth (n ∷ ns)) attribute_kind b refl ∙ ap seen_as e

    attribute_many : (seen : List Name) → spare ≡ 0 → AttributeRead s seen at spare (Err (refusal NodesOverLimit at))
    unfolding births tail peak
    attribute_many seen l = attribute_refused {x = NodesOverLimit} {j = at} (λ n ns. record {
      leads = λ w o r k m.
          scan_too_many s (in_tag n ns seen) spare at x.inside (attribute_name n ns seen (b ∷ [])) (depth (n ∷ ns)) attribute_kind
          (byte b ∷ []) (born_step n ns seen) w (on y) (first_seen n ns w o r) l k m (omega arith)
          ∙ ap (bad 6) x.begins_here;
    })

    module _ (room : 1 ≤ spare) where
      -- behind the first byte
      named : (n : Name) (ns seen : List Name) (w : Monitor) → is_on w ≡ true → at_rest w ≡ true → (k : ℕ) → k ≤ content_limit
          → scan_at s (in_tag n ns seen) w spare k at ≡ scan_at s (attribute_name n ns seen (b ∷ [])) (on y) (spare - 1) 1 (at + 1)
      unfolding births tail peak
      named n ns seen w o r k h =
          scan_born s (in_tag n ns seen) spare at x.inside (attribute_name n ns seen (b ∷ [])) (depth (n ∷ ns)) attribute_kind
          (byte b ∷ [])
          (born_step n ns seen) w (on y) (first_seen n ns w o r) refl room k h (omega arith)

      attribute_unfit : {a : Cause} {j : ℕ} (seen : List Name) → NameRead s at (Err (refusal a j)) → AttributeRead s seen at spare (Err (refusal a j))
      attribute_unfit {a} {j} seen f = attribute_refused {x = a} {j = j} (λ n ns. record {
        leads = λ w o r k m. named n ns seen w o r k m ∙ name_stops f (attribute_place n ns seen) (spare - 1) e;
      })

      module _ {end : Cursor} {count : ℕ} (f : NameRead s at (Ok (piece end count))) where
        abbrev to : ℕ
        to = end.at

        -- behind the name
        whole : (n : Name) (ns seen : List Name) {v : Verdict}
            → ((z : Monitor) → is_on z ≡ true → at_rest z ≡ true
            → scan_at s (attribute_name n ns seen (name_at s at)) z (spare - 1) (to - at) to ≡ v)
            → Leads true s (in_tag n ns seen) spare at v
        whole n ns seen g = record {
          leads = λ w o r k m. named n ns seen w o r k m ∙ name_scan f (attribute_place n ns seen) (spare - 1) e g;
        }

        ended : to < length s → name_byte (get_or s to 0) ≡ false
        ended h = name_ended (name_run f).0 h

        attribute_repeated : (seen : List Name) → used seen (name_at s at) ≡ true → AttributeRead s seen at spare (Err (refusal NotOfGrammar to))
        unfolding step
        attribute_repeated seen q =
            attribute_refused {x = NotOfGrammar} {j = to} (λ n ns. whole n ns seen (λ z o r. go n ns z (leb (length s) to) refl))
          where
            go : (n : Name) (ns : List Name) (z : Monitor) (t : Bool) → leb (length s) to ≡ t
                → scan_at s (attribute_name n ns seen (name_at s at)) z (spare - 1) (to - at) to ≡ bad 4 to
            go n ns z true l = scan_end s (attribute_name n ns seen (name_at s at)) z (spare - 1) (to - at) to (leb-true (length s) to l)
            go n ns z false l =
                let h = leb-false (length s) to l in
                scan_stuck s (attribute_name n ns seen (name_at s at)) z (spare - 1) (to - at) to h (rw (ended h, q))

        module _ (seen : List Name) (q : used seen (name_at s at) ≡ false) where
          to_sign : (n : Name) (ns : List Name)
              → Goes true s (in_tag n ns seen) spare at (before_equals n ns (name_at s at ∷ seen)) (spare - 1) to
          unfolding step
          to_sign n ns = record {
            back = λ v g. whole n ns seen (λ z o r.
                scan_alike s (attribute_name n ns seen (name_at s at)) (before_equals n ns (name_at s at ∷ seen)) z (spare - 1) (to - at) to
                (λ h. rw (ended h, q)) refl
                ∙ g.leads z o r (to - at) (name_run f).1);
          }

          attribute_unquoted : {j : ℕ} → EqualsRead s to (Err (mismatch j)) → AttributeRead s seen at spare (Err (refusal NotOfGrammar j))
          attribute_unquoted {j} (no_quote g) =
              attribute_refused {x = NotOfGrammar} {j = j} (λ n ns. (to_sign n ns).back _ (g true n ns (name_at s at ∷ seen) (spare - 1)))

          attribute_valued : {q : ℕ} {c : Cursor} {z : Result Read Refusal} → EqualsRead s to (Ok (opening q c)) → TextRead s q c.at (spare - 1) z
              → AttributeRead s seen at spare z
          attribute_valued (quoted q a b d g) (text_past {c = c} {m = m} h i j k u) =
              attribute_past {c = c} {m = m} (omega (arith, (name_run f).0.ends)) i (omega arith)
              (λ n ns. goes_then (to_sign n ns)
              (goes_then ((g n ns (name_at s at ∷ seen)).goes (spare - 1)) (u _ _ _ _ (value_contents n ns (name_at s at ∷ seen) q))))
          attribute_valued (quoted q a b d g) (text_refused {x = x} {j = j} u) =
              attribute_refused {x = x} {j = j}
              (λ n ns. (to_sign n ns).back _
              (((g n ns (name_at s at ∷ seen)).goes (spare - 1)).back _ (u _ _ _ _ (value_contents n ns (name_at s at ∷ seen) q))))

-- with the names of the attributes before it, os before and os' behind it
module _ {s os : List ℕ} {lo count at spare : ℕ} (x : Attributed s at) where
  nothing_entered : {a : Cause} {j : ℕ} → ((seen : List Name) → AttributeRead s seen at spare (Err (refusal a j)))
      → AttributeEnters s os os lo count at spare (Err (refusal a j))
  nothing_entered f = record {
    reads = λ seen l. f seen;
    names = names_refused;
    kept = record { as_long = refl; kept = λ i h. refl };
  }

  pub enters_broken : spell (start_of false) (get_or s at 0) ≡ broken → AttributeEnters s os os lo count at spare (Err (refusal NotOfGrammar at))
  enters_broken e = nothing_entered (λ seen. attribute_broken s at spare x seen e)

  module _ {y : Spelling} (e : spell (start_of false) (get_or s at 0) ≡ spelling y) where
    pub enters_many : spare ≡ 0 → AttributeEnters s os os lo count at spare (Err (refusal NodesOverLimit at))
    enters_many h = nothing_entered (λ seen. attribute_many s at spare x e seen h)

    module _ (room : 1 ≤ spare) where
      pub enters_unfit : {a : Cause} {j : ℕ} → NameRead s at (Err (refusal a j)) → AttributeEnters s os os lo count at spare (Err (refusal a j))
      enters_unfit f = nothing_entered (λ seen. attribute_unfit s at spare x e room seen f)

      module _ {end : Cursor} {long : ℕ} (f : NameRead s at (Ok (piece end long))) {os' : List ℕ} {b : Bool}
          (g : EnterRead s os os' lo count at b) (k : Kept lo os os') where
        pub enters_repeated : b ≡ false → AttributeEnters s os os' lo count at spare (Err (refusal NotOfGrammar end.at))
        enters_repeated h = record {
          reads = λ seen l. attribute_repeated s at spare x e room f seen (among_seen l (repeated_of g h));
          names = names_refused;
          kept = k;
        }

        module _ (h : b ≡ true) where
          pub enters_unquoted : {j : ℕ} → EqualsRead s end.at (Err (mismatch j))
              → AttributeEnters s os os' lo count at spare (Err (refusal NotOfGrammar j))
          enters_unquoted q = record {
            reads = λ seen l. attribute_unquoted s at spare x e room f seen ((entered_of g h).added.unseen seen l) q;
            names = names_refused;
            kept = k;
          }

          pub enters_valued : {q : ℕ} {c : Cursor} {z : Result Read Refusal} → EqualsRead s end.at (Ok (opening q c))
              → TextRead s q c.at (spare - 1) z
              → AttributeEnters s os os' lo count at spare z
          enters_valued {z = z} q v = record {
            reads = λ seen l. attribute_valued s at spare x e room f seen ((entered_of g h).added.unseen seen l) q v;
            names = names_behind (entered_of g h) z;
            kept = k;
          }

pub quoted_inside : {s : List ℕ} {at q : ℕ} {c : Cursor} → EqualsRead s at (Ok (opening q c))
    → (1 ≤ c.at) × (c.at ≤ length s) × (c.at - 1 ≡ node_offset s c.at)
quoted_inside (quoted q a b d f) = (omega arith, b, sym d)
