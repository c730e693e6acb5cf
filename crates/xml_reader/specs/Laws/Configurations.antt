-- The automaton's configurations in values and texts, by the names of the open elements.
use Prim.Native.Nat.{ℕ, suc, ◌<◌}
use Rattle.std.specs.Prelude.{◌≡◌, List, [], ◌∷◌}
use Rattle.std.proofs.Math.Path.{refl}
use Rattle.std.proofs.Common.{sym, ◌∙◌}
use Rattle.std.proofs.Math.Bool.{true}
use native.Mathlib.Omega.{arith}
use borrow.Author.Tests.{ne_eqb}
use Rattle.tree.specs.Content.{text_byte, text_kind}
use Rattle.xml.specs.Bytes.{ampersand, less_than, Quote, double, single, quote_byte, value_literal, normalized, text_literal}
use Rattle.xml.specs.Grammar.{Name}
use Rattle.xml.specs.Laws.Words.{references}
use Rattle.xml.specs.Laws.Automaton.{behind_part, behind_quote, in_value, value_reference, content, behind_open, in_text, text_reference}
use Rattle.xml.specs.Laws.Automaton.{born, depth, move, to, step}
use Rattle.xml.specs.Laws.Counts.{births}
use Rattle.xml_tokens.specs.Classes.{literal, reads_as}
use Rattle.xml_tokens.specs.Steps.{Characters, Contents}

module _ (n : Name) (ns : List Name) where
  pub text_characters : Characters less_than (in_text n ns) (text_reference n ns) (behind_open n ns)
  unfolding step literal reads_as text_literal text_byte births
  text_characters = record {
    ascii = omega arith;
    plainly = λ k b o h. rw h;
    refers_to = λ k. refl;
    stops = λ k. refl;
    no_other = λ k b o a h. rw (h, ne_eqb b ampersand a, ne_eqb b less_than o);
    words = record { next = λ x b. refl; calm = λ x. refl; no_node = λ k. refl };
    calm = λ k. refl;
    going = λ k. refl;
    due = λ x. refl;
    behind = refl;
  }

  pub text_contents : Contents less_than (content n ns) (in_text n ns) (text_reference n ns) (behind_open n ns)
  unfolding step literal reads_as text_literal text_byte
  text_contents = record {
    inner = text_characters;
    depth = depth (n ∷ ns);
    first = λ b o h. rw h;
    first_refers = refl;
    nothing = refl;
    no_first = λ b o a h. rw (h, ne_eqb b ampersand a, ne_eqb b less_than o);
    starting = refl;
  }

  pub text_depth : text_contents.depth ≡ depth (n ∷ ns)
  unfolding text_contents depth
  text_depth = refl

-- where the byte is not the quote
literal_value : (q : Quote) (k b : ℕ) → (b ≡ quote_byte q → ⊥) → literal (quote_byte q) k b ≡ value_literal q b
unfolding literal value_literal
literal_value double k b o = rw (ne_eqb b (quote_byte double) o)
literal_value single k b o = rw (ne_eqb b (quote_byte single) o)

reads_value : (q : Quote) (b : ℕ) → reads_as (quote_byte q) b ≡ normalized b
unfolding reads_as
reads_value double b = refl
reads_value single b = refl

module _ (n : Name) (ns seen : List Name) where
  pub value_characters : (q : Quote)
      → Characters (quote_byte q) (λ k. in_value n ns seen q) (value_reference n ns seen q) (behind_part n ns seen)
  unfolding step births value_literal text_byte
  value_characters q = record {
    ascii = ascii_on q;
    plainly = λ k b o h. rw (sym (literal_value q k b o) ∙ h, reads_value q b);
    refers_to = λ k. refers_on q;
    stops = λ k. stops_on q;
    no_other = λ k b o a h. rw (sym (literal_value q k b o) ∙ h, ne_eqb b ampersand a, ne_eqb b (quote_byte q) o);
    words = record { next = λ x b. refl; calm = λ x. refl; no_node = λ k. refl };
    calm = λ k. refl;
    going = λ k. refl;
    due = λ x. refl;
    behind = refl;
  }
    where
      ascii_on : (q : Quote) → quote_byte q < 128
      ascii_on double = omega arith
      ascii_on single = omega arith

      refers_on : (q : Quote) → step true (in_value n ns seen q) ampersand ≡ to (value_reference n ns seen q references)
      refers_on double = refl
      refers_on single = refl

      stops_on : (q : Quote) → step true (in_value n ns seen q) (quote_byte q) ≡ to (behind_part n ns seen)
      stops_on double = refl
      stops_on single = refl

  pub value_contents : (q : Quote)
      → Contents (quote_byte q) (behind_quote n ns seen q) (λ k. in_value n ns seen q) (value_reference n ns seen q) (behind_part n ns seen)
  unfolding step value_literal text_byte
  value_contents q = record {
    inner = value_characters q;
    depth = suc (depth (n ∷ ns));
    first = λ b o h. rw (sym (literal_value q 0 b o) ∙ h, reads_value q b);
    first_refers = refers_on q;
    nothing = stops_on q;
    no_first = λ b o a h. rw (sym (literal_value q 0 b o) ∙ h, ne_eqb b ampersand a, ne_eqb b (quote_byte q) o);
    starting = refl;
  }
    where
      refers_on : (q : Quote)
          → step true (behind_quote n ns seen q) ampersand
          ≡ move (value_reference n ns seen q references) (born (suc (depth (n ∷ ns))) text_kind ∷ [])
      refers_on double = refl
      refers_on single = refl

      stops_on : (q : Quote) → step true (behind_quote n ns seen q) (quote_byte q) ≡ to (behind_part n ns seen)
      stops_on double = refl
      stops_on single = refl

  pub value_depth : (q : Quote) → (value_contents q).depth ≡ suc (depth (n ∷ ns))
  unfolding value_contents depth
  value_depth q = refl
