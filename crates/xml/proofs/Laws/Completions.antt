-- Every configuration can be completed, at the level of bytes.
use Rattle.std.specs.Prelude.{ℕ, zero, suc, ◌+◌, ◌<◌, ◌≡◌, Bool, true, false, eqb, length, replicate}
use Rattle.std.proofs.Math.Path.{refl}
use Rattle.std.proofs.Common.{sym, ap, ◌∙◌, arith, length-append}
use Rattle.std.proofs.Math.Bool.{and-false}
use Rattle.std.proofs.lemmas.Bool.{false≢true}
use mathlib.Core.List.{List, [], ◌∷◌, ◌++◌, append_assoc}
use Rattle.std.proofs.lemmas.List.{length-replicate}
use Rattle.tree.specs.Lists.{same}
use Rattle.tree.specs.Content.{element_kind, name_start, name_byte}
use Rattle.xml.specs.Bytes.{Quote, double, used}
use Rattle.xml.specs.Grammar.{Name, no_blank, NameBytes, no_name_byte, name_byte_then}
use Rattle.xml.specs.Laws.Words.{Words, Word}
use Rattle.xml.proofs.Laws.Words.{some_word}
use Rattle.xml.specs.Laws.Automaton.{Config, at_start, behind_first, prolog, behind_root, epilog, declaration, tag_name, behind_part}
use Rattle.xml.specs.Laws.Automaton.{in_tag, before_equals, behind_equals, behind_slash, attribute_name, behind_quote, in_value}
use Rattle.xml.specs.Laws.Automaton.{value_reference, content, behind_open, in_text, text_reference, end_name, Event, born, byte}
use Rattle.xml.specs.Laws.Automaton.{closed, Reads, stay, on, tell_bytes}
use Rattle.xml.proofs.Laws.Transitions.{tag_slash, Step, s_start_open, s_first_name, s_prolog_open, s_root_name, s_behind}
use Rattle.xml.proofs.Laws.Transitions.{s_before_equals, s_equals_quote, s_quote_end, s_value_end, s_slash, s_content_open}
use Rattle.xml.proofs.Laws.Transitions.{s_text_open, s_open_slash}
use Rattle.xml.specs.Laws.Complete.{Accepts}
use Rattle.xml.proofs.Laws.Complete.{◌▸◌, value_word, text_word, declaration_word, no_attribute, read_tag_name}
use Rattle.xml.proofs.Laws.Complete.{read_attribute_name, read_end}
use Rattle.xml.specs.Laws.Phases.{Phase, early, reading, referring, over, phase}

-- bytes that complete c and tell nothing more
abbrev Ends : Bool → Config → Type 0
Ends u c = (s : List ℕ) × Accepts u c s []

by : {u : Bool} {c d : Config} {b : ℕ} → Step u c b d [] → Ends u d → Ends u c
by {b = b} s x = (b ∷ x.0, s ▸ x.1)

module _ {u : Bool} where
  close : (ns : List Name) → Ends u (closed ns)
  close [] = ([], stay)
  close (n ∷ ns) = let x = close ns in by s_content_open (by s_open_slash (_, read_end n no_blank x.1))

  close_tag : (n : Name) (ns seen : List Name) → Ends u (behind_part n ns seen)
  close_tag n ns seen = by (s_behind tag_slash) (by s_slash (close ns))

  close_value : (n : Name) (ns seen : List Name) (q : Quote) → Ends u (in_value n ns seen q)
  close_value n ns seen q = by s_value_end (close_tag n ns seen)

  close_equals : (n : Name) (ns seen : List Name) → Ends u (behind_equals n ns seen)
  close_equals n ns seen = by (s_equals_quote double) (by s_quote_end (close_tag n ns seen))

  close_open : (n : Name) (ns : List Name) → Ends u (behind_open n ns)
  close_open n ns = let x = close ns in by s_open_slash (_, read_end n no_blank x.1)

  close_name : (ns : List Name) (p : Name) → Ends u (tag_name ns p)
  unfolding tell_bytes
  close_name ns p = let x = close_tag (p ++ []) ns [] in (x.0, read_tag_name p no_name_byte x.1)

  root_name : (s : List ℕ) × Accepts u behind_root s (born 1 element_kind ∷ byte 65 ∷ [])
  unfolding name_start
  root_name = let x = close_name [] (65 ∷ []) in (65 ∷ x.0, s_root_name {b = 65} refl ▸ x.1)

  first_name : (s : List ℕ) × Accepts u behind_first s (born 1 element_kind ∷ byte 65 ∷ [])
  unfolding name_start
  first_name = let x = close_name [] (65 ∷ []) in (65 ∷ x.0, s_first_name {b = 65} refl ▸ x.1)

  root_after : (s : List ℕ) × Accepts u prolog s (born 1 element_kind ∷ byte 65 ∷ [])
  root_after = let x = root_name in (60 ∷ x.0, s_prolog_open ▸ x.1)

-- a name that none of those used is ----------------------------------------------------

letters : (k : ℕ) (t : List ℕ) → NameBytes (replicate k 65) (replicate k 65 ++ t) t
unfolding name_byte name_start
letters zero t = no_name_byte
letters (suc k) t = name_byte_then refl (letters k t)

total : List Name → ℕ
total [] = 0
total (m ∷ ms) = length m + total ms

pub same_length : (m n : Name) → ¬ (length m ≡ length n) → same m n ≡ false
same_length [] [] h = absurd (h refl)
same_length [] (y ∷ ys) h = refl
same_length (x ∷ xs) [] h = refl
same_length (x ∷ xs) (y ∷ ys) h = rw (same_length xs ys (λ e. h (ap suc e))) (and-false (eqb x y))

unused : (seen : List Name) (n : Name) → total seen < length n → used seen n ≡ false
unfolding used total
unused [] n h = refl
unused (m ∷ ms) n h = rw (same_length m n (λ e. omega arith)) (unused ms n (omega arith))

-- completions ----------------------------------------------------------------------------

-- what the shortest completion tells
pub data Ending : Phase → List Event → Type 0 where
  ending_early : Ending early (born 1 element_kind ∷ byte 65 ∷ [])
  ending_reading : Ending reading []
  ending_referring : {k : ℕ} → Ending referring (byte k ∷ [])
  ending_over : Ending over []

-- and what a completion tells in any case
pub data Closing : Config → List Event → Type 0 where
  closing_root : {c : Config} → Closing c (born 1 element_kind ∷ byte 65 ∷ [])
  closing_nothing : {c : Config} → Closing c []
  closing_name : {n : Name} {ns l : List Name} {p : Name} (m : ℕ)
      → Closing (attribute_name n ns l p) (tell_bytes (replicate m 65) [])
  closing_value : {n : Name} {ns l : List Name} {q : Quote} {x : Words} {s t : List ℕ} {k : ℕ} → Word x s t k
      → Closing (value_reference n ns l q x) (byte k ∷ [])
  closing_text : {n : Name} {ns : List Name} {x : Words} {s t : List ℕ} {k : ℕ} → Word x s t k
      → Closing (text_reference n ns x) (byte k ∷ [])

pub record Completion (u : Bool) (c : Config) : Type 0 where
  pub bytes : List ℕ
  pub events : List Event
  pub run : Accepts u c bytes events
  pub closing : Closing c events
  -- where repeated attributes are let in, it tells no more than it must
  pub short : u ≡ false → Ending (phase c) events

abbrev completed : {u : Bool} {c : Config} (e : List Event) → Closing c e → Ending (phase c) e → (s : List ℕ) × Accepts u c s e
    → Completion u c
completed e h k x = record { bytes = x.0; events = e; run = x.1; closing = h; short = λ _. k }

complete_attribute : (u : Bool) (n : Name) (ns seen : List Name) (p : Name) → Completion u (attribute_name n ns seen p)
unfolding tell_bytes
complete_attribute true n ns seen p =
    let r : List ℕ = replicate (suc (total seen)) 65 in
    let x : Ends true (before_equals n ns ((p ++ r) ∷ seen)) = by s_before_equals (close_equals n ns ((p ++ r) ∷ seen)) in
    let h : used seen (p ++ r) ≡ false = unused seen (p ++ r) (rw length-append
    (omega (arith, length-replicate {A = ℕ} (suc (total seen)) 65))) in
    record {
      bytes = r ++ x.0;
      events = tell_bytes r [];
      run = read_attribute_name p (letters (suc (total seen)) x.0) h x.1;
      closing = closing_name (suc (total seen));
      short = λ e. absurd (false≢true (sym e));
    }
complete_attribute false n ns seen p =
    let x : Ends false (before_equals n ns ((p ++ []) ∷ seen)) = by s_before_equals (close_equals n ns ((p ++ []) ∷ seen)) in
    completed [] closing_nothing ending_reading (x.0, read_attribute_name p no_name_byte refl x.1)

-- VIABLE: every configuration can be completed
pub completion : (u : Bool) (c : Config) → Completion u c
completion u at_start = let x = first_name in completed _ closing_root ending_early (60 ∷ x.0, s_start_open ▸ x.1)
completion u behind_first = completed _ closing_root ending_early first_name
completion u prolog = completed _ closing_root ending_early root_after
completion u behind_root = completed _ closing_root ending_early root_name
completion u epilog = completed [] closing_nothing ending_over ([], stay)
completion u (declaration x) =
    let y = root_after in let w = some_word x y.0 in completed _ closing_root ending_early (w.0, declaration_word w.2 y.1)
completion u (tag_name ns p) = completed [] closing_nothing ending_reading (close_name ns p)
completion u (behind_part n ns seen) = completed [] closing_nothing ending_reading (close_tag n ns seen)
completion u (in_tag n ns seen) = let x = close_tag n ns seen in completed [] closing_nothing ending_reading (x.0, no_attribute x.1)
completion u (before_equals n ns seen) = completed [] closing_nothing ending_reading (by s_before_equals (close_equals n ns seen))
completion u (behind_equals n ns seen) = completed [] closing_nothing ending_reading (close_equals n ns seen)
completion u (behind_slash ns) = completed [] closing_nothing ending_reading (by s_slash (close ns))
completion u (attribute_name n ns seen p) = complete_attribute u n ns seen p
completion u (behind_quote n ns seen q) = completed [] closing_nothing ending_reading (by s_quote_end (close_tag n ns seen))
completion u (in_value n ns seen q) = completed [] closing_nothing ending_reading (close_value n ns seen q)
completion u (value_reference n ns seen q x) =
    let y = close_value n ns seen q in
    let w = some_word x y.0 in completed (byte w.1 ∷ []) (closing_value w.2) ending_referring (w.0, value_word w.2 y.1)
completion u (content n ns) = completed [] closing_nothing ending_reading (close (n ∷ ns))
completion u (behind_open n ns) = completed [] closing_nothing ending_reading (close_open n ns)
completion u (in_text n ns k) = completed [] closing_nothing ending_reading (by s_text_open (close_open n ns))
completion u (text_reference n ns x) =
    let y : Ends u (in_text n ns 0) = by s_text_open (close_open n ns) in
    let w = some_word x y.0 in completed (byte w.1 ∷ []) (closing_text w.2) ending_referring (w.0, text_word w.2 y.1)
completion u (end_name n ns w) = let x = close ns in completed [] closing_nothing ending_reading (_, read_end w no_blank x.1)

-- runs put together and cut ----------------------------------------------------------------

pub record Cut (u : Bool) (c : Config) (s t : List ℕ) (e : List Event) (z : Config) : Type 0 where
  pub middle : Config
  pub before : List Event
  pub after : List Event
  pub first_part : Reads u c s before middle
  pub second_part : Reads u middle t after z
  pub events : e ≡ before ++ after

module _ {u : Bool} where
  pub join : {c d z : Config} {s t : List ℕ} {v e : List Event} → Reads u c s v d → Reads u d t e z → Reads u c (s ++ t) (v ++ e) z
  join stay a = a
  join (on {v = v} {w = w} h r) a = rw (append_assoc v w) (on h (join r a))

  pub cut : {c z : Config} (s t : List ℕ) {e : List Event} → Reads u c (s ++ t) e z → Cut u c s t e z
  cut [] t {e} a = record { middle = _; before = []; after = e; first_part = stay; second_part = a; events = refl }
  cut (b ∷ s) t (on {v = v} {w = w} h a) =
      let x = cut s t a in
      record {
        middle = x.middle;
        before = v ++ x.before;
        after = x.after;
        first_part = on h x.first_part;
        second_part = x.second_part;
        events = ap (λ (l : List Event). v ++ l) x.events ∙ sym (append_assoc v x.before x.after);
      }
