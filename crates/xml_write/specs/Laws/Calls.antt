-- The whole call: each answer is the definition's.
use Rattle.std.specs.Prelude.{◌≡◌, ℕ, ◌≤◌, ◌<◌, Bool, ◌&&◌, List, length, Some, None}
use Rattle.std.proofs.Math.Path.{refl}
use Rattle.std.proofs.Common.{sym, ap, ◌∙◌, true≢false, arith}
use Rattle.std.proofs.Math.Bool.{true, false, cond}
use Rattle.std.proofs.Math.Dec.{leb}
use borrow.Author.Tests.{le-leb, lt-leb}
use Rattle.tree.specs.Document.{Document, ordered, legal}
use Rattle.protocol.specs.State.{State, committed_document}
use Rattle.protocol.specs.declared.Answer.{Answer}
use Rattle.protocol.specs.declared.Answer.TheVariants.{Count, Refused}
use Rattle.protocol.specs.Calls as calls
use Rattle.protocol.specs.Calls.{next}
use Rattle.protocol.specs.Answers.{answer_of}
use Rattle.table.specs.Layout.{nodes}
use Rattle.form.specs.Form.{form, Holds}
use Rattle.form.specs.Laws.Holds.{holds_form}
use Rattle.xml.specs.Writing.{write, expressible}
use Rattle.xml_text.specs.Rows.{Line, measured, written_rows}
use Rattle.xml_text.specs.Lending.{Wrote}
use Rattle.xml_text.specs.Laws.Documents.{written_is, measured_is}
use Rattle.xml_text.specs.Laws.Rules.{legal_ordered}
use Rattle.xml_measure.specs.declared.committed.Rows.{Rows}
use Rattle.xml_measure.specs.Lines.{lines, Selected, Measured, is_none, is_length}
use Rattle.xml_write.specs.Laws.Documents.{root_content, root_below, rooted_shape, lines_of}
use Rattle.xml_write.specs.Contract.{writable, writing, text_after, write_answer, write_buffer, Written}

pub write_unformed : (s o : List ℕ) → form s ≡ false → Written s o o (Refused 13)
write_unformed s o e = record {
  unformed = λ f. (refl, refl);
  answer = λ M h. absurd (true≢false (sym (holds_form h) ∙ e));
  text = λ M h. absurd (true≢false (sym (holds_form h) ∙ e));
  long = refl;
}

-- answer and buffer, for an ordered document and for any other
abbrev Writes : List ℕ → List ℕ → Answer → Document → Type 0
Writes o o' r d = (r ≡ writing (length o) d) × (o' ≡ text_after o d)

abbrev Refuses : List ℕ → List ℕ → Answer → Type 0
Refuses o o' r = (r ≡ Refused 14) × (o' ≡ o)

module _ (s o o' : List ℕ) (r : Answer) (f : form s ≡ true) where
  by_order : (d : Document) → (ordered d ≡ true → Writes o o' r d) → (ordered d ≡ false → Refuses o o' r)
      → (r ≡ write_answer (length o) d) × (o' ≡ write_buffer o d)
  unfolding write_answer write_buffer
  by_order d w u = go (ordered d) refl
    where
      go : (b : Bool) → ordered d ≡ b → (r ≡ cond b (writing (length o) d) (Refused 14)) × (o' ≡ cond b (text_after o d) o)
      go true b = w b
      go false b = u b

  written_by : ((M : State) → Holds s M → ordered (committed_document M) ≡ true → Writes o o' r (committed_document M))
      → ((M : State) → Holds s M → ordered (committed_document M) ≡ false → Refuses o o' r) → length o' ≡ length o → Written s o o' r
  written_by w u l = record {
    unformed = λ g. absurd (true≢false (sym f ∙ g));
    answer = λ M h. (by_order (committed_document M) (w M h) (u M h)).0;
    text = λ M h. (by_order (committed_document M) (w M h) (u M h)).1;
    long = l;
  }

write_some : (d : Document) → 1 ≤ length (write d)
unfolding write
write_some d = omega arith

-- what measuring found: no length, or one
pub none_measured : (l : List Line) → Measured l None → 0 ≡ measured l
none_measured l (is_none e) = sym e

pub length_measured : (l : List Line) (n : ℕ) → Measured l (Some n) → (n ≡ measured l) × (1 ≤ n)
length_measured l n (is_length e some most) = (e, some)

-- n is the length that was measured
module _ {s : List ℕ} {w : Rows} {n : ℕ} (f : form s ≡ true) (c : Selected (nodes s) w)
    (e : n ≡ measured (lines (nodes s) w.places w.count)) where
  module _ (M : State) (h : Holds s M) where
    abbrev d : Document
    d = committed_document M

    length_is : n ≡ cond (ordered d && expressible d) (length (write d)) 0
    length_is = e ∙ ap measured (lines_of h c) ∙ measured_is d (root_content h) (root_below h) (rooted_shape h)

    -- where the document is ordered
    module _ (b : ordered d ≡ true) where
      by_expressible : (x : Bool) → expressible d ≡ x → n ≡ cond x (length (write d)) 0
      by_expressible x y = length_is ∙ rw (b, y)

      not_expressible : n ≡ 0 → expressible d ≡ false
      not_expressible z = go (expressible d) refl
        where
          go : (x : Bool) → expressible d ≡ x → x ≡ false
          go true y = absurd (omega (arith, by_expressible true y, write_some d))
          go false y = refl

      is_expressible : (n ≡ 0 → ⊥) → expressible d ≡ true
      is_expressible z = go (expressible d) refl
        where
          go : (x : Bool) → expressible d ≡ x → x ≡ true
          go true y = refl
          go false y = absurd (z (by_expressible false y))

      text_is : written_rows (lines (nodes s) w.places w.count) ≡ write d
      text_is = ap written_rows (lines_of h c) ∙ written_is d (root_content h) (root_below h) (rooted_shape h) b

    -- where it is not
    none : ordered d ≡ false → n ≡ 0
    none b = length_is ∙ rw b

  pub write_14 : (o : List ℕ) → n ≡ 0 → Written s o o (Refused 14)
  unfolding writing text_after writable
  write_14 o z =
      written_by s o o (Refused 14) f (λ M h b. (rw (not_expressible M h b z), rw (not_expressible M h b z))) (λ M h b. (refl, refl)) refl

  module _ (z : n ≡ 0 → ⊥) where
    pub write_13 : (o : List ℕ) → length o < n → Written s o o (Refused 13)
    unfolding writing text_after writable
    write_13 o k =
        written_by s o o (Refused 13) f
        (λ M h b. (rw (is_expressible M h b z, short M h b), rw (is_expressible M h b z, short M h b)))
        (λ M h b. absurd (z (none M h b))) refl
      where
        short : (M : State) (h : Holds s M) → ordered (committed_document M) ≡ true
            → leb (length (write (committed_document M))) (length o) ≡ false
        short M h b =
            lt-leb (length (write (committed_document M))) (length o) (omega (arith, by_expressible M h b true (is_expressible M h b z)))

    pub write_granted : (o o' : List ℕ) {r : ℕ} → n ≤ length o → Wrote (written_rows (lines (nodes s) w.places w.count)) o o' r
        → length o' ≡ length o → Written s o o' (Count n)
    unfolding writing text_after writable
    write_granted o o' k v l =
        written_by s o o' (Count n) f
        (λ M h b. (
          rw (is_expressible M h b z, fits M h b) (ap Count (by_expressible M h b true (is_expressible M h b z))),
          rw (is_expressible M h b z, fits M h b) (rw (text_is M h b) at v.bytes),
        ))
        (λ M h b. absurd (z (none M h b))) l
      where
        fits : (M : State) (h : Holds s M) → ordered (committed_document M) ≡ true
            → leb (length (write (committed_document M))) (length o) ≡ true
        fits M h b =
            le-leb (length (write (committed_document M))) (length o) (omega (arith, by_expressible M h b true (is_expressible M h b z)))

    -- the text that was measured fits
    pub enough : (M : State) → Holds s M → (m : ℕ) → n ≤ m → length (written_rows (lines (nodes s) w.places w.count)) ≤ m
    enough M h m k = go (ordered (committed_document M)) refl
      where
        go : (b : Bool) → ordered (committed_document M) ≡ b → length (written_rows (lines (nodes s) w.places w.count)) ≤ m
        go true b = omega (arith, ap length (text_is M h b), by_expressible M h b true (is_expressible M h b z))
        go false b = absurd (z (none M h b))

-- the answer of a call of write is what writing the committed document answers, and write leaves the state as it is
pub protocol_answer : (room : ℕ) (M : State) → answer_of (writing room) (next calls.write M).outcome ≡ writing room (committed_document M)
unfolding answer_of next
protocol_answer room M = refl

pub protocol_state : (M : State) → (next calls.write M).state ≡ M
unfolding next
protocol_state M = refl

-- the committed document of a legal state is written as defined
pub legal_writing : {s o o' : List ℕ} {r : Answer} (M : State) → Written s o o' r → Holds s M → legal (committed_document M) ≡ true
    → (r ≡ writing (length o) (committed_document M)) × (o' ≡ text_after o (committed_document M))
unfolding write_answer write_buffer
legal_writing {o = o} M w h l =
    let b = legal_ordered (committed_document M) l in
    (w.answer M h ∙ rw b, w.text M h ∙ rw b)
