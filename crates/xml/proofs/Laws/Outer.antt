-- Outside names, values, texts and references nothing is told before the next node, so no character is cut there.
use Rattle.std.specs.Prelude.{ℕ, ◌≡◌, refl, Bool, true, false, List, [], ◌∷◌, ◌++◌, ltb}
use Rattle.std.proofs.lemmas.Bool.{false≢true}
use Rattle.std.proofs.Common.{ltb-true}
use Rattle.tree.specs.Laws.Tests.{and_left}
use Rattle.tree.specs.Spelling.{Spelling, broken, whole, spell}
use Rattle.tree.specs.Laws.Spelling.{spell_cut}
use Rattle.xml.specs.Bytes.{Quote}
use Rattle.xml.specs.Grammar.{Name}
use Rattle.xml.specs.Laws.Words.{references}
use Rattle.xml.specs.Laws.Automaton.{Config, at_start, behind_first, prolog, behind_root, epilog, declaration, tag_name, behind_part}
use Rattle.xml.specs.Laws.Automaton.{in_tag, before_equals, behind_equals, behind_slash, attribute_name, behind_quote, in_value}
use Rattle.xml.specs.Laws.Automaton.{value_reference, content, behind_open, in_text, text_reference, end_name, Event, born, byte}
use Rattle.xml.specs.Laws.Automaton.{closed, Reads, stay, on}
use Rattle.xml.proofs.Laws.Transitions.{TagStep, tag_blank, tag_slash, tag_close, Step, s_start_blank, s_start_open, s_first_name}
use Rattle.xml.proofs.Laws.Transitions.{s_first_declaration, s_declaration_end, s_declaration_on, s_prolog_blank, s_prolog_open}
use Rattle.xml.proofs.Laws.Transitions.{s_root_name, s_tag_name, s_tag_name_end, s_behind, s_in_tag, s_in_tag_name, s_attribute}
use Rattle.xml.proofs.Laws.Transitions.{s_attribute_blank, s_attribute_equals, s_before_blank, s_before_equals, s_equals_blank}
use Rattle.xml.proofs.Laws.Transitions.{s_equals_quote, s_quote_byte, s_quote_reference, s_quote_end, s_value_byte, s_value_reference}
use Rattle.xml.proofs.Laws.Transitions.{s_value_end, s_value_word_end, s_value_word_on, s_slash, s_content_byte, s_content_reference}
use Rattle.xml.proofs.Laws.Transitions.{s_content_open, s_text_byte, s_text_reference, s_text_open, s_text_word_end, s_text_word_on}
use Rattle.xml.proofs.Laws.Transitions.{s_open_name, s_open_slash, s_end_byte, s_end_blank, s_end_close, s_epilog, step_is}
use Rattle.xml.proofs.Laws.Sound.{Rest, r_value_word, r_text_word, rest_of}
use Rattle.xml.specs.Laws.Complete.{Accepts}
use Rattle.xml.proofs.Laws.Unique.{Fresh, fresh_end, fresh_node}
use Rattle.xml.specs.Laws.Monitor as monitor
use Rattle.xml.specs.Laws.Monitor.{Monitor, seen, at_rest, see}
use Rattle.xml.proofs.Laws.Monitored.{not_seen, fresh_whole}
use Rattle.xml.proofs.Laws.Invariant.{plain, references_plain, Invariant}

abbrev outer : Config → Bool
outer at_start = true
outer behind_first = true
outer prolog = true
outer behind_root = true
outer epilog = true
outer (declaration w) = true
outer (tag_name ns p) = false
outer (behind_part n ns l) = true
outer (in_tag n ns l) = true
outer (before_equals n ns l) = true
outer (behind_equals n ns l) = true
outer (behind_slash ns) = true
outer (attribute_name n ns l p) = false
outer (behind_quote n ns l q) = true
outer (in_value n ns l q) = false
outer (value_reference n ns l q w) = false
outer (content n ns) = true
outer (behind_open n ns) = true
outer (in_text n ns k) = false
outer (text_reference n ns w) = false
outer (end_name n ns w) = true

data Outer (d : Config) : List Event → Type 0 where
  outer_on : outer d ≡ true → Outer d []
  outer_node : {a k : ℕ} {v : List Event} → Outer d (born a k ∷ v)

closed_outer : (ns : List Name) → outer (closed ns) ≡ true
closed_outer [] = refl
closed_outer (n ∷ ns) = refl

tag_outer : {n : Name} {ns l : List Name} {b : ℕ} {d : Config} → TagStep n ns l b d → outer d ≡ true
tag_outer (tag_blank h) = refl
tag_outer tag_slash = refl
tag_outer tag_close = refl

outer_step : {u : Bool} {c : Config} {b : ℕ} {d : Config} {v : List Event} → Step u c b d v → outer c ≡ true → Outer d v
outer_step (s_start_blank h) e = outer_on refl
outer_step s_start_open e = outer_on refl
outer_step (s_first_name h) e = outer_node
outer_step s_first_declaration e = outer_on refl
outer_step (s_declaration_end k h) e = outer_on refl
outer_step (s_declaration_on h) e = outer_on refl
outer_step (s_prolog_blank h) e = outer_on refl
outer_step s_prolog_open e = outer_on refl
outer_step (s_root_name h) e = outer_node
outer_step (s_tag_name h) e = absurd (false≢true e)
outer_step (s_tag_name_end h t) e = absurd (false≢true e)
outer_step (s_behind t) e = outer_on (tag_outer t)
outer_step (s_in_tag h t) e = outer_on (tag_outer t)
outer_step (s_in_tag_name h) e = outer_node
outer_step (s_attribute h) e = absurd (false≢true e)
outer_step (s_attribute_blank k h) e = absurd (false≢true e)
outer_step (s_attribute_equals k) e = absurd (false≢true e)
outer_step (s_before_blank h) e = outer_on refl
outer_step s_before_equals e = outer_on refl
outer_step (s_equals_blank h) e = outer_on refl
outer_step (s_equals_quote q) e = outer_on refl
outer_step (s_quote_byte h) e = outer_node
outer_step s_quote_reference e = outer_node
outer_step s_quote_end e = outer_on refl
outer_step (s_value_byte h) e = absurd (false≢true e)
outer_step s_value_reference e = absurd (false≢true e)
outer_step s_value_end e = absurd (false≢true e)
outer_step (s_value_word_end h) e = absurd (false≢true e)
outer_step (s_value_word_on h) e = absurd (false≢true e)
outer_step (s_slash {ns = ns}) e = outer_on (closed_outer ns)
outer_step (s_content_byte h) e = outer_node
outer_step s_content_reference e = outer_node
outer_step s_content_open e = outer_on refl
outer_step (s_text_byte h) e = absurd (false≢true e)
outer_step s_text_reference e = absurd (false≢true e)
outer_step s_text_open e = absurd (false≢true e)
outer_step (s_text_word_end h) e = absurd (false≢true e)
outer_step (s_text_word_on h) e = absurd (false≢true e)
outer_step (s_open_name h) e = outer_node
outer_step s_open_slash e = outer_on refl
outer_step s_end_byte e = outer_on refl
outer_step (s_end_blank h) e = outer_on refl
outer_step (s_end_close {ns = ns}) e = outer_on (closed_outer ns)
outer_step (s_epilog h) e = outer_on refl

outer_run : {u : Bool} {c d : Config} {s : List ℕ} {e : List Event} → Reads u c s e d → outer c ≡ true → Fresh e
outer_run stay h = fresh_end
outer_run (on {d = a} {v = v} {w = w} k r) h = go (outer_step (step_is k) h) (λ i. outer_run r i)
  where
    go : {v : List Event} → Outer a v → (outer a ≡ true → Fresh w) → Fresh (v ++ w)
    go (outer_on e) f = f e
    go outer_node f = fresh_node

-- a byte of ASCII does not go on with a character
cut_by : (x : Spelling) (k : ℕ) (e : List Event) {z : Monitor} → plain k ≡ true → see (monitor.on x) (byte k ∷ e) ≡ seen z → whole x ≡ true
unfolding see
cut_by x k e {z} p h = go (whole x) refl
  where
    go : (t : Bool) → whole x ≡ t → whole x ≡ true
    go true w = w
    go false w =
        let b : spell x k ≡ broken = spell_cut x k w (ltb-true k 128 (and_left (ltb k 128) _ p)) in
        absurd (not_seen (rw b at h))

value_referred : {u : Bool} (x : Spelling) {s : List ℕ} {e : List Event} {z : Monitor} {n : Name} {ns l : List Name} {q : Quote}
    → Rest u (value_reference n ns l q references) s e → see (monitor.on x) e ≡ seen z → whole x ≡ true
value_referred x (r_value_word {k = k} {e = e} w r) h = cut_by x k e (references_plain _ _ k w) h

text_referred : {u : Bool} (x : Spelling) {s : List ℕ} {e : List Event} {z : Monitor} {n : Name} {ns : List Name}
    → Rest u (text_reference n ns references) s e → see (monitor.on x) e ≡ seen z → whole x ≡ true
text_referred x (r_text_word {k = k} {e = e} w r) h = cut_by x k e (references_plain _ _ k w) h

module _ {u : Bool} (x : Spelling) {s : List ℕ} {e : List Event} {z : Monitor} where
  outer_whole : {d : Config} → outer d ≡ true → Accepts u d s e → see (monitor.on x) e ≡ seen z → at_rest z ≡ true → whole x ≡ true
  outer_whole h r k o = fresh_whole x (outer_run r h) k o

  -- from inside a name, a value or a text
  name_left : {ns : List Name} {p : Name} {b : ℕ} {d : Config} → Step u (tag_name ns p) b d [] → Accepts u d s e
      → see (monitor.on x) e ≡ seen z → at_rest z ≡ true → whole x ≡ true
  name_left (s_tag_name_end h t) r k o = outer_whole (tag_outer t) r k o

  attribute_left : {n : Name} {ns l : List Name} {p : Name} {b : ℕ} {d : Config} → Step u (attribute_name n ns l p) b d [] → Accepts u d s e
      → see (monitor.on x) e ≡ seen z → at_rest z ≡ true → whole x ≡ true
  attribute_left (s_attribute_blank i h) r k o = outer_whole refl r k o
  attribute_left (s_attribute_equals i) r k o = outer_whole refl r k o

  value_left : {n : Name} {ns l : List Name} {q : Quote} {b : ℕ} {d : Config} → Step u (in_value n ns l q) b d [] → Accepts u d s e
      → see (monitor.on x) e ≡ seen z → at_rest z ≡ true → whole x ≡ true
  value_left s_value_reference r k o = value_referred x (rest_of r refl) k
  value_left s_value_end r k o = outer_whole refl r k o

  text_left : {n : Name} {ns : List Name} {j b : ℕ} {d : Config} → Step u (in_text n ns j) b d [] → Accepts u d s e
      → see (monitor.on x) e ≡ seen z → at_rest z ≡ true → whole x ≡ true
  text_left s_text_reference r k o = text_referred x (rest_of r refl) k
  text_left s_text_open r k o = outer_whole refl r k o

  -- THE LAW: where a byte tells nothing, and all is seen from there to the end, no character is cut
  pub quiet_whole : (c : Config) {b : ℕ} {d : Config} → Invariant c x → Step u c b d [] → Accepts u d s e → see (monitor.on x) e ≡ seen z
      → at_rest z ≡ true → whole x ≡ true
  quiet_whole at_start w t r k o = w
  quiet_whole behind_first w t r k o = w
  quiet_whole prolog w t r k o = w
  quiet_whole behind_root w t r k o = w
  quiet_whole epilog w t r k o = w
  quiet_whole (declaration y) w t r k o = w
  quiet_whole (tag_name ns p) w t r k o = name_left t r k o
  quiet_whole (behind_part n ns l) w t r k o = w
  quiet_whole (in_tag n ns l) w t r k o = w
  quiet_whole (before_equals n ns l) w t r k o = w
  quiet_whole (behind_equals n ns l) w t r k o = w
  quiet_whole (behind_slash ns) w t r k o = w
  quiet_whole (attribute_name n ns l p) w t r k o = attribute_left t r k o
  quiet_whole (behind_quote n ns l q) w t r k o = w
  quiet_whole (in_value n ns l q) w t r k o = value_left t r k o
  quiet_whole (value_reference n ns l q y) w t r k o = w.1
  quiet_whole (content n ns) w t r k o = w
  quiet_whole (behind_open n ns) w t r k o = w
  quiet_whole (in_text n ns j) w t r k o = text_left t r k o
  quiet_whole (text_reference n ns y) w t r k o = w.1
  quiet_whole (end_name n ns y) w t r k o = w
