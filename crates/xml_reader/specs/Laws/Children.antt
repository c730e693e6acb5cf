-- Tags and texts in the content of the open elements.
use Prim.Native.Nat.{ℕ, zero, suc, ◌+◌, ◌-◌, ◌≤◌, ◌<◌}
use Rattle.std.specs.Prelude.{◌≡◌, Bool, false, List, [], ◌∷◌, length, eqb, Result, Ok, Err}
use Rattle.std.proofs.Math.Path.{refl, ap}
use Rattle.std.proofs.Common.{sym, ◌∙◌, add-one, eqb-true}
use Rattle.std.proofs.Math.Bool.{true}
use native.Mathlib.Omega.{arith}
use Rattle.std.proofs.Math.ListN.{get_or}
use Rattle.std.proofs.lemmas.Bool.{eqb-false}
use Rattle.tree.specs.Content.{element_kind, name_start}
use Rattle.tree.specs.Spelling.{Spelling, broken, spelling, spell, start_of}
use Rattle.xml.specs.Bytes.{less_than}
use Rattle.xml.specs.Grammar.{Name}
use Rattle.xml.specs.Reading.{opener}
use Rattle.xml.specs.Laws.Automaton.{Config, content, behind_open, tag_name, end_name, closed, born, byte, depth, move, step}
use Rattle.xml.specs.Laws.Counts.{births, tail, peak}
use Rattle.xml.specs.Laws.Monitor.{Monitor, on, seen, at_rest, is_on, seen_as, monitor}
use Rattle.xml.specs.Laws.Judge.{Verdict, bad, byte_before}
use Rattle.xml.proofs.Laws.Judge.{offset_before}
use Rattle.xml.specs.Laws.Scan.{scan_at}
use Rattle.xml.proofs.Laws.Scan.{scan_unspelled}
use Rattle.xml.specs.Laws.Goes.{Leads}
use Rattle.xml.proofs.Laws.Goes.{goes_then, scan_too_many, scan_born}
use Rattle.xml_tokens.specs.declared.Cursor.{Cursor}
use Rattle.xml_tokens.specs.declared.Markup.TheVariants.{StartTag, EndTag}
use Rattle.xml_tokens.specs.Steps.{TextRead, text_past, text_refused, MarkupRead, markup_start, markup_end, markup_wrong}
use Rattle.xml_tokens.specs.Laws.Spelling.{monitor_name}
use Rattle.xml_reader.specs.declared.Tag.TheVariants.{Opened, Emptied}
use Rattle.xml_reader.specs.Elements.{stack, name_behind, Placed, Kept, ElementRead, element_opened, element_emptied, element_broken}
use Rattle.xml_reader.specs.Elements.{EndRead, end_behind, end_mismatch}
use Rattle.xml_reader.specs.Children.{opened, ending, Behind, Deep, ChildRead, child_at, child_stopped}
use Rattle.xml_reader.specs.Laws.Configurations.{text_contents}
use Rattle.xml_reader.specs.Laws.StartTags.{stack_same, placed_kept}
use Rattle.protocol.specs.CauseNumbers.{number_of}
use Rattle.protocol.specs.declared.causes.Cause.{Cause}
use Rattle.protocol.specs.declared.causes.Cause.TheVariants.{NotOfGrammar, NodesOverLimit}
use Rattle.xml_reader.specs.Values.{inside_at}
use Rattle.xml_reader.specs.declared.Inside.{Inside}
use Rattle.xml_tokens.specs.Values.{refusal, mismatch, read}
use Rattle.xml_tokens.specs.declared.Refusal.{Refusal}

-- the innermost open element and those around it
innermost : (s os : List ℕ) (d : ℕ) → 1 ≤ d → stack s os 0 d ≡ name_behind s (get_or os (d - 1) 0) ∷ stack s os 0 (d - 1)
unfolding stack
innermost s os zero h = absurd (omega arith)
innermost s os (suc d) h = let p : 0 + d ≡ d = omega arith in let q : suc d - 1 ≡ d = omega arith in rw (p, q)

one_deeper : (s os : List ℕ) (d : ℕ) → stack s os 0 (d + 1) ≡ name_behind s (get_or os d 0) ∷ stack s os 0 d
unfolding stack
one_deeper s os d = let p : 0 + d ≡ d = omega arith in rw (add-one d, p)

placed_next : (s os : List ℕ) (d : ℕ) → Placed s os d → get_or os d 0 + 1 ≤ length s → Placed s os (d + 1)
placed_next s os d p h = record { short = p.short; placed = λ i m. go i m (eqb i d) refl }
  where
    go : (i : ℕ) → i < d + 1 → (t : Bool) → eqb i d ≡ t → get_or os i 0 + 1 ≤ length s
    go i m true e = rw (eqb-true i d e) h
    go i m false e = let x : i ≡ d → ⊥ = eqb-false i d e in p.placed i (omega arith)

module _ (s os : List ℕ) (deep spare at : ℕ) (x : Deep s os deep spare) where
  abbrev n : Name
  n = name_behind s (get_or os (deep - 1) 0)

  abbrev ns : List Name
  ns = stack s os 0 (deep - 1)

  abbrev from : Config
  from = opened (stack s os 0 deep)

  from_is : from ≡ behind_open n ns
  from_is = ap opened (innermost s os deep x.some)

  ending_is : ending (stack s os 0 deep) ≡ end_name n ns n
  ending_is = ap ending (innermost s os deep x.some)

  stopped : (os' : List ℕ) (y : Cause) (j : ℕ) → Leads true s (behind_open n ns) spare at (bad (number_of y) j)
      → ChildRead s from at spare os' (Err (refusal y j))
  stopped os' y j l = child_stopped {x = y} {j = j} (rw from_is l)

  -- behind a <
  pub tag_none : {j : ℕ} → MarkupRead s at (Err (mismatch j)) → ChildRead s from at spare os (Err (refusal NotOfGrammar j))
  tag_none {j} (markup_wrong f) = stopped os NotOfGrammar j (f true n ns spare)

  -- an end tag
  pub tag_ended : {c : Cursor} {r : Result Inside Refusal} → MarkupRead s at (Ok (EndTag c))
      → ChildRead s (ending (stack s os 0 deep)) c.at spare os r
      → ChildRead s from at spare os r
  tag_ended {c} (markup_end e h f) (child_at {c = c'} {d = d} {m = m} o p q r w) =
      child_at {c = c'} {d = d} {m = m}
      (record { further = omega (arith, o.further); inside = o.inside; begins_here = o.begins_here; fewer = o.fewer }) p q r
      (rw from_is (goes_then ((f n ns).goes spare) (rw ending_is at w)))
  tag_ended (markup_end e h f) (child_stopped {x = y} {j = j} w) =
      child_stopped {x = y} {j = j} (rw from_is (((f n ns).goes spare).back _ (rw ending_is at w)))

  pub end_wrong : {j : ℕ} → EndRead s n at (Err (mismatch j)) → ChildRead s (ending (stack s os 0 deep)) at spare os (Err (refusal NotOfGrammar j))
  end_wrong {j} (end_mismatch f) = child_stopped {x = NotOfGrammar} {j = j} (rw ending_is (f ns spare))

  pub end_right : {c : Cursor} → EndRead s n at (Ok c)
      → ChildRead s (ending (stack s os 0 deep)) at spare os (Ok (inside_at c (deep - 1) spare))
  end_right {c} (end_behind a b d f) =
      child_at {c = c} {d = deep - 1} {m = spare}
      (record { further = a; inside = b; begins_here = d; fewer = omega arith }) (omega (arith, x.room)) x.long
      (record { short = x.names.short; placed = λ i m. x.names.placed i (omega arith) })
      (rw ending_is (f ns spare))

  module _ (h : at < length s) where
    -- a start tag
    module _ (e : name_start (get_or s at 0) ≡ true) where
      abbrev b : ℕ
      b = get_or s at 0

      starts : step true (behind_open n ns) b ≡ move (tag_name (n ∷ ns) (b ∷ [])) (born (depth (n ∷ ns)) element_kind ∷ byte b ∷ [])
      unfolding step
      starts = rw e

      -- no character begins with it
      pub start_wrong : spell (start_of false) b ≡ broken → ChildRead s from at spare os (Err (refusal NotOfGrammar at))
      start_wrong q = stopped os NotOfGrammar at (record {
        leads = λ w o r k m.
            scan_unspelled s (behind_open n ns) w spare k at h (tag_name (n ∷ ns) (b ∷ []))
            (born (depth (n ∷ ns)) element_kind ∷ byte b ∷ []) starts
            (monitor_name w o r (depth (n ∷ ns)) element_kind b refl ∙ ap seen_as q);
      })

      module _ {z : Spelling} (q : spell (start_of false) b ≡ spelling z) where
        first_seen : (w : Monitor) → is_on w ≡ true → at_rest w ≡ true
            → monitor w (born (depth (n ∷ ns)) element_kind ∷ byte b ∷ []) ≡ seen (on z)
        first_seen w o r = monitor_name w o r (depth (n ∷ ns)) element_kind b refl ∙ ap seen_as q

        pub start_many : Behind s at → spare ≡ 0 → ChildRead s from at spare os (Err (refusal NodesOverLimit (at - 1)))
        unfolding births tail peak
        start_many y l =
            let p = (offset_before s at (before at y.not_first y.opens)).0 in
            stopped os NodesOverLimit (at - 1) (record {
              leads = λ w o r k m.
                  scan_too_many s (behind_open n ns) spare at h (tag_name (n ∷ ns) (b ∷ [])) (depth (n ∷ ns)) element_kind (byte b ∷ [])
                  starts w (on z) (first_seen w o r) l k m (omega arith)
                  ∙ ap (bad 6) p;
            })
          where
            before : (at : ℕ) → 1 ≤ at → get_or s (at - 1) 0 ≡ less_than → opener (byte_before s at) ≡ true
            before zero h o = absurd (omega arith)
            before (suc i) h o = let p : suc i - 1 ≡ i = omega arith in let q : get_or s i 0 ≡ less_than = rw p at o in rw q

        module _ (room : 1 ≤ spare) (os' : List ℕ) (k : Kept deep os os') where
          born_to : {v : Verdict} → scan_at s (tag_name (n ∷ ns) (b ∷ [])) (on z) (spare - 1) 1 (at + 1) ≡ v
              → Leads true s (behind_open n ns) spare at v
          unfolding births tail peak
          born_to p = record {
            leads = λ w o r j m.
                scan_born s (behind_open n ns) spare at h (tag_name (n ∷ ns) (b ∷ [])) (depth (n ∷ ns)) element_kind (byte b ∷ []) starts
                w (on z) (first_seen w o r) refl
                room j m
                (omega arith) ∙ p;
          }

          -- the names around are those that were there
          around : n ∷ ns ≡ stack s os' 0 deep
          around = sym (innermost s os deep x.some) ∙ sym (stack_same s os os' deep k)

          pub start_broken : {y : Cause} {j : ℕ} → ElementRead s at (spare - 1) (Err (refusal y j))
              → ChildRead s from at spare os' (Err (refusal y j))
          start_broken {y} {j} (element_broken f) = stopped os' y j (born_to (f (n ∷ ns) z q))

          pub start_emptied : {c : Cursor} {m : ℕ} → ElementRead s at (spare - 1) (Ok (Emptied (read c m)))
              → ChildRead s from at spare os' (Ok (inside_at c deep m))
          start_emptied {c} {m} (element_emptied o f) =
              child_at {c = c} {d = deep} {m = m}
              (record { further = o.further; inside = o.inside; begins_here = o.begins_here; fewer = omega (arith, o.fewer) })
              (omega (arith, x.room, o.fewer)) (k.as_long ∙ x.long) (placed_kept s os os' deep x.names k)
              (rw (from_is, ← around) (record { back = λ v y. born_to (f (n ∷ ns) z q v y) }))

          pub start_opened : {c : Cursor} {m : ℕ} → get_or os' deep 0 + 1 ≡ at → ElementRead s at (spare - 1) (Ok (Opened (read c m)))
              → ChildRead s from at spare os' (Ok (inside_at c (deep + 1) m))
          start_opened {c} {m} e (element_opened o f) =
              child_at {c = c} {d = deep + 1} {m = m}
              (record { further = o.further; inside = o.inside; begins_here = o.begins_here; fewer = omega (arith, o.fewer) })
              (omega (arith, x.room, o.fewer)) (k.as_long ∙ x.long) (placed_next s os' deep (placed_kept s os os' deep x.names k)
              (omega arith))
              (rw (from_is, one_deeper s os' deep, e, ← around) (record { back = λ v y. born_to (f (n ∷ ns) z q v y) }))

  -- a text before it
  within_is : closed (stack s os 0 deep) ≡ content n ns
  within_is = ap closed (innermost s os deep x.some)

  pub child_refused : {y : Cause} {j : ℕ} → TextRead s less_than at spare (Err (refusal y j)) → (os' : List ℕ)
      → ChildRead s (closed (stack s os 0 deep)) at spare os' (Err (refusal y j))
  child_refused {y} {j} (text_refused f) os' = child_stopped {x = y} {j = j} (rw within_is (f _ _ _ _ (text_contents n ns)))

  pub child_past : {c : Cursor} {m : ℕ} {r : Result Inside Refusal} (os' : List ℕ) → TextRead s less_than at spare (Ok (read c m))
      → ChildRead s from c.at m os' r
      → ChildRead s (closed (stack s os 0 deep)) at spare os' r
  child_past {c} os' (text_past a b d e f) (child_at {c = c'} {d = d'} {m = m'} o p q r w) =
      child_at {c = c'} {d = d'} {m = m'}
      (record { further = omega (arith, o.further); inside = o.inside; begins_here = o.begins_here; fewer = omega (arith, o.fewer) }) p
      q r
      (rw within_is (goes_then (f _ _ _ _ (text_contents n ns)) (rw from_is at w)))
  child_past {c} os' (text_past a b d e f) (child_stopped {x = y} {j = j} w) =
      child_stopped {x = y} {j = j} (rw within_is ((f _ _ _ _ (text_contents n ns)).back _ (rw from_is at w)))

pub behind_text : {s os : List ℕ} {deep at spare m : ℕ} {c : Cursor} → Deep s os deep spare → TextRead s less_than at spare (Ok (read c m))
    → Behind s c.at × Deep s os deep m
behind_text x (text_past a b d e f) = (
  record { inside = b; not_first = omega arith; opens = d },
  record
      { some = x.some; room = omega (arith, x.room); long = x.long; names = x.names },
)

-- at the name of a start tag
pub start_there : {s : List ℕ} {at : ℕ} {c : Cursor} → Behind s at → MarkupRead s at (Ok (StartTag c))
    → Behind s c.at × (c.at < length s) × (name_start (get_or s c.at 0) ≡ true) × (c.at ≡ at)
start_there b (markup_start e h f) = (rw e b, rw e h, rw e f, e)

pub end_there : {s : List ℕ} {at : ℕ} {c : Cursor} → MarkupRead s at (Ok (EndTag c)) → c.at ≤ length s
end_there (markup_end e h f) = omega arith
