-- The four places of cause 6, in document 01's words: where a node begins that the byte at i makes certain.
use Rattle.std.specs.Prelude.{ℕ, zero, suc, ◌≤◌, ◌<◌, ◌≡◌, refl, Bool, true, false, cond, ◌⊎◌, List, [], ◌∷◌, ◌++◌, length, take, get_or}
use Rattle.std.proofs.Common.{ap, subst, inl, inr, append-nil, arith, take-suc}
use Rattle.tree.specs.Characters.{Range, within, name_start_characters, name_characters, text_characters, utf8}
use Rattle.tree.specs.Content.{element_kind, attribute_kind, text_kind}
use Rattle.tree.specs.Spelling.{no_part, first_part, with_byte, Spelling, Spelled, broken, spelling, before, whole, spell}
use Rattle.tree.specs.Laws.Utf8.{possible_fits, first_digits, first}
use Rattle.tree.specs.Laws.Reading.{took, few_with}
use Rattle.xml.specs.Bytes.{ampersand, less_than, greater_than, blank, Quote, double, single, quote_byte, value_literal, text_literal}
use Rattle.xml.specs.Bytes.{space, normalized}
use Rattle.xml.specs.Grammar.{Name}
use Rattle.xml.specs.Reading.{ManyNodes, FirstForced, opener, node_offset}
use Rattle.xml.specs.Laws.Automaton.{Config, at_start, behind_first, prolog, behind_root, epilog, declaration, tag_name, behind_part}
use Rattle.xml.specs.Laws.Automaton.{in_tag, before_equals, behind_equals, behind_slash, attribute_name, behind_quote, in_value}
use Rattle.xml.specs.Laws.Automaton.{value_reference, content, behind_open, in_text, text_reference, end_name, closed, Event}
use Rattle.xml.specs.Laws.Automaton.{born, byte}
use Rattle.xml.proofs.Laws.Transitions.{TagStep, tag_blank, tag_slash, tag_close, Step, step_is, for_blanks, s_start_blank}
use Rattle.xml.proofs.Laws.Transitions.{s_start_open, s_first_name, s_first_declaration, s_declaration_end, s_declaration_on}
use Rattle.xml.proofs.Laws.Transitions.{s_prolog_blank, s_prolog_open, s_root_name, s_tag_name, s_tag_name_end, s_behind, s_in_tag}
use Rattle.xml.proofs.Laws.Transitions.{s_in_tag_name, s_attribute, s_attribute_blank, s_attribute_equals, s_before_blank}
use Rattle.xml.proofs.Laws.Transitions.{s_before_equals, s_equals_blank, s_equals_quote, s_quote_byte, s_quote_reference, s_quote_end}
use Rattle.xml.proofs.Laws.Transitions.{s_value_byte, s_value_reference, s_value_end, s_value_word_end, s_value_word_on, s_slash}
use Rattle.xml.proofs.Laws.Transitions.{s_content_byte, s_content_reference, s_content_open, s_text_byte, s_text_reference}
use Rattle.xml.proofs.Laws.Transitions.{s_text_open, s_text_word_end, s_text_word_on, s_open_name, s_open_slash, s_end_byte}
use Rattle.xml.proofs.Laws.Transitions.{s_end_blank, s_end_close, s_epilog}
use Rattle.xml.specs.Laws.Counts.{births}
use Rattle.xml.proofs.Laws.Counts.{births_append}
use Rattle.xml.specs.Laws.Monitor as monitor
use Rattle.xml.specs.Laws.Monitor.{Monitor, unspelled, seen, seen_as, content_of, then_see, see, monitor}
use Rattle.xml.proofs.Laws.Monitored.{not_seen}
use Rattle.xml.proofs.Laws.Strict.{Strict, strict_stay, strict_on, strict_reads, strict_cut, initial, viable_strict}
use Rattle.xml.proofs.Laws.Forces.{many_forced, few_free}

-- some character of a class begins with this byte
abbrev pub BeginsWith : List Range → ℕ → Type 0
BeginsWith ranges b = (c : ℕ) × (t : List ℕ) × (within ranges c ≡ true) × (utf8 c ≡ b ∷ t)

-- "a byte .. that a value may begin with": in these quotes
pub data ValueBegins (q : Quote) (b : ℕ) : Type 0 where
  value_reference_begins : b ≡ ampersand → ValueBegins q b
  value_character_begins : value_literal q b ≡ true → BeginsWith text_characters b → ValueBegins q b

pub data TextBegins (b : ℕ) : Type 0 where
  text_reference_begins : b ≡ ampersand → TextBegins b
  text_character_begins : text_literal 0 b ≡ true → BeginsWith text_characters b → TextBegins b

pub data NodeBegins (s : List ℕ) : (i offset : ℕ) → Type 0 where
  -- "a < with a name's first byte after it"
  at_tag : {i : ℕ} → get_or s i 0 ≡ less_than → BeginsWith name_start_characters (get_or s (suc i) 0) → NodeBegins s (suc i) i
  -- "the first byte of an attribute's name", which stands behind a blank
  at_attribute : {i : ℕ} → blank (get_or s i 0) ≡ true → BeginsWith name_start_characters (get_or s (suc i) 0) → NodeBegins s (suc i) (suc i)
  -- "an opening quote with a byte after it that a value may begin with"
  at_quote : {i : ℕ} (q : Quote) → get_or s i 0 ≡ quote_byte q → ValueBegins q (get_or s (suc i) 0) → NodeBegins s (suc i) i
  -- "the first byte of text", which stands behind the end of a tag
  at_text : {i : ℕ} → get_or s i 0 ≡ greater_than → TextBegins (get_or s (suc i) 0) → NodeBegins s (suc i) (suc i)

-- a first byte that is spelled
spelled_begins : (h k : List Range) (b : ℕ) {z : Spelling} → spell (before h k) b ≡ spelling z → BeginsWith h b
unfolding with_byte
spelled_begins h k b {z} e =
    let f = possible_fits h (first_part b) (few_with no_part b (omega arith)) (took (before h k) z b e).0 in
    (f.0, _, f.1, first_digits (first b) f.2)

-- where a node may begin in a configuration
data Place : Type 0 where
  tag attribute text none : Place
  quote : Quote → Place

abbrev place : Config → Place
place at_start = none
place behind_first = tag
place prolog = none
place behind_root = tag
place epilog = none
place (declaration a) = none
place (tag_name a b) = none
place (behind_part a b c) = none
place (in_tag a b c) = attribute
place (before_equals a b c) = none
place (behind_equals a b c) = none
place (behind_slash a) = none
place (attribute_name a b c d) = none
place (behind_quote a b c d) = quote d
place (in_value a b c d) = none
place (value_reference a b c d e) = none
place (content a b) = text
place (behind_open a b) = tag
place (in_text a b c) = none
place (text_reference a b c) = none
place (end_name a b c) = none

-- the byte before it
abbrev Before : Place → ℕ → Type 0
Before tag b = b ≡ less_than
Before attribute b = blank b ≡ true
Before (quote q) b = b ≡ quote_byte q
Before text b = b ≡ greater_than
Before none b = Unit {0}

-- the byte that makes it certain
abbrev Begins : Place → ℕ → Type 0
Begins tag b = BeginsWith name_start_characters b
Begins attribute b = BeginsWith name_start_characters b
Begins (quote q) b = ValueBegins q b
Begins text b = TextBegins b
Begins none b = ⊥

tag_before : {n : Name} {ns seen : List Name} {b : ℕ} {d : Config} → TagStep n ns seen b d → Before (place d) b
tag_before (tag_blank h) = h
tag_before tag_slash = tt
tag_before tag_close = refl

closed_before : (ns : List Name) → Before (place (closed ns)) greater_than
closed_before [] = tt
closed_before (n ∷ ns) = refl

-- what the first byte of a content is, where it is seen
module _ (x : Spelling) {y : Monitor} where
  first_spelled : (a k b : ℕ) → monitor (monitor.on x) (born a k ∷ byte b ∷ []) ≡ seen y
      → (z : Spelling) × (spell (content_of k) b ≡ spelling z)
  unfolding monitor see
  first_spelled a k b h = go (whole x) h
    where
      first : (r : Spelled) → spell (content_of k) b ≡ r → then_see (seen_as r) (λ w. seen w) ≡ seen y
          → (z : Spelling) × (spell (content_of k) b ≡ spelling z)
      first broken e h = absurd (not_seen h)
      first (spelling z) e h = (z, e)

      go : (t : Bool) → then_see (cond t (seen (monitor.on (content_of k))) unspelled) (λ z. see z (byte b ∷ [])) ≡ seen y
          → (z : Spelling) × (spell (content_of k) b ≡ spelling z)
      go false h = absurd (not_seen h)
      go true h = first (spell (content_of k) b) refl h

  name_begins : (a b : ℕ) → monitor (monitor.on x) (born a element_kind ∷ byte b ∷ []) ≡ seen y → BeginsWith name_start_characters b
  name_begins a b h = spelled_begins name_start_characters name_characters b (first_spelled a element_kind b h).1

  attribute_begins : (a b : ℕ) → monitor (monitor.on x) (born a attribute_kind ∷ byte b ∷ []) ≡ seen y → BeginsWith name_start_characters b
  attribute_begins a b h = spelled_begins name_start_characters name_characters b (first_spelled a attribute_kind b h).1

  text_begins : (a b : ℕ) → monitor (monitor.on x) (born a text_kind ∷ byte b ∷ []) ≡ seen y → BeginsWith text_characters b
  text_begins a b h = spelled_begins text_characters text_characters b (first_spelled a text_kind b h).1

-- a blank is read as a space, and is a character itself
value_begins : (x : Spelling) {y : Monitor} (a b : ℕ) → monitor (monitor.on x) (born a text_kind ∷ byte (normalized b) ∷ []) ≡ seen y
    → BeginsWith text_characters b
unfolding normalized within utf8
value_begins x {y} a b h = go (blank b) refl h
  where
    blank_begins : (b : ℕ) → blank b ≡ true → BeginsWith text_characters b
    blank_begins b e = for_blanks (λ b. BeginsWith text_characters b) (9, [], refl, refl) (10, [], refl, refl) (32, [], refl, refl) b e

    go : (t : Bool) → blank b ≡ t → monitor (monitor.on x) (born a text_kind ∷ byte (cond t space b) ∷ []) ≡ seen y
        → BeginsWith text_characters b
    go true e h = blank_begins b e
    go false e h = text_begins x a b h

facts : {u : Bool} {c : Config} {b : ℕ} {d : Config} {v : List Event} → Step u c b d v → (x : Spelling) {y : Monitor}
    → monitor (monitor.on x) v ≡ seen y
    → ((births v ≡ 0) ⊎ Begins (place c) b) × Before (place d) b
unfolding births
facts (s_start_blank h) x w = (inl refl, tt)
facts s_start_open x w = (inl refl, refl)
facts (s_first_name {b = b} h) x w = (inr (name_begins x _ b w), tt)
facts s_first_declaration x w = (inl refl, tt)
facts (s_declaration_end k i) x w = (inl refl, tt)
facts (s_declaration_on h) x w = (inl refl, tt)
facts (s_prolog_blank h) x w = (inl refl, tt)
facts s_prolog_open x w = (inl refl, refl)
facts (s_root_name {b = b} h) x w = (inr (name_begins x _ b w), tt)
facts (s_tag_name h) x w = (inl refl, tt)
facts (s_tag_name_end h i) x w = (inl refl, tag_before i)
facts (s_behind h) x w = (inl refl, tag_before h)
facts (s_in_tag h i) x w = (inl refl, tag_before i)
facts (s_in_tag_name {b = b} h) x w = (inr (attribute_begins x _ b w), tt)
facts (s_attribute h) x w = (inl refl, tt)
facts (s_attribute_blank h i) x w = (inl refl, tt)
facts (s_attribute_equals h) x w = (inl refl, tt)
facts (s_before_blank h) x w = (inl refl, tt)
facts s_before_equals x w = (inl refl, tt)
facts (s_equals_blank h) x w = (inl refl, tt)
facts (s_equals_quote q) x w = (inl refl, refl)
facts (s_quote_byte {b = b} h) x w = (inr (value_character_begins h (value_begins x _ b w)), tt)
facts s_quote_reference x w = (inr (value_reference_begins refl), tt)
facts s_quote_end x w = (inl refl, tt)
facts (s_value_byte h) x w = (inl refl, tt)
facts s_value_reference x w = (inl refl, tt)
facts s_value_end x w = (inl refl, tt)
facts (s_value_word_end h) x w = (inl refl, tt)
facts (s_value_word_on h) x w = (inl refl, tt)
facts (s_slash {ns = ns}) x w = (inl refl, closed_before ns)
facts (s_content_byte {b = b} h) x w = (inr (text_character_begins h (text_begins x _ b w)), tt)
facts s_content_reference x w = (inr (text_reference_begins refl), tt)
facts s_content_open x w = (inl refl, refl)
facts (s_text_byte h) x w = (inl refl, tt)
facts s_text_reference x w = (inl refl, tt)
facts s_text_open x w = (inl refl, refl)
facts (s_text_word_end h) x w = (inl refl, tt)
facts (s_text_word_on h) x w = (inl refl, tt)
facts (s_open_name {b = b} h) x w = (inr (name_begins x _ b w), tt)
facts s_open_slash x w = (inl refl, tt)
facts s_end_byte x w = (inl refl, tt)
facts (s_end_blank h) x w = (inl refl, tt)
facts (s_end_close {ns = ns}) x w = (inl refl, closed_before ns)
facts (s_epilog h) x w = (inl refl, tt)

-- the last byte read
before_it : (p : List ℕ) (b : ℕ) {v : List Event} {c : Config} {x : Spelling} → Strict at_start initial (p ++ (b ∷ [])) v c x
    → Before (place c) b
before_it p b r = go (strict_cut p (b ∷ []) r).second_part
  where
    go : {a c : Config} {y z : Spelling} {v : List Event} → Strict a y (b ∷ []) v c z → Before (place c) b
    go (strict_on {x = y} h k strict_stay) = (facts (step_is h) y k).1

-- a byte that is no opener stands before an attribute's name and a text
module _ (s : List ℕ) (i : ℕ) where
  opens : (p : Place) → Before p (get_or s i 0) → Begins p (get_or s (suc i) 0) → NodeBegins s (suc i) (node_offset s (suc i))
  opens tag e h = rw e (at_tag e h)
  opens attribute e h = rw (for_blanks (λ b. opener b ≡ false) refl refl refl (get_or s i 0) e) (at_attribute e h)
  opens (quote double) e h = rw e (at_quote double e h)
  opens (quote single) e h = rw e (at_quote single e h)
  opens text e h = rw e (at_text e h)
  opens none e h = elim h [ ]

begun_at : (s : List ℕ) (i : ℕ) {v : List Event} {c : Config} {y : Spelling} → i ≤ length s → Strict at_start initial (take i s) v c y
    → Begins (place c) (get_or s i 0) → NodeBegins s i (node_offset s i)
begun_at s zero l r x = absurd (start r x)
  where
    start : {v : List Event} {c : Config} {y : Spelling} → Strict at_start initial [] v c y → Begins (place c) (get_or s 0 0) → ⊥
    start strict_stay x = x
begun_at s (suc i) {v} {c} {y} l r x =
    opens s i (place c) (before_it (take i s) (get_or s i 0) (subst (λ (p : List ℕ). Strict at_start initial p v c y)
    (take-suc s i 0 (omega arith)) r)) x

begins_with : {a d : Config} {y z : Spelling} {b : ℕ} {v : List Event} → Strict a y (b ∷ []) v d z → 1 ≤ births v → Begins (place a) b
begins_with {a} {b = b} (strict_on {x = y} {v = v} h k strict_stay) o = go (facts (step_is h) y k).0
  where
    go : (births v ≡ 0) ⊎ Begins (place a) b → Begins (place a) b
    go (inl e) = absurd (omega (arith, ap births (append-nil v)))
    go (inr x) = x

-- THE LAW: a node too many begins at one of the four places
pub node_begins : (limit : ℕ) (s : List ℕ) (i : ℕ) → 2 ≤ limit → FirstForced (ManyNodes limit) s i → NodeBegins s i (node_offset s i)
node_begins limit s i two f =
    let y = viable_strict (take (suc i) s) f.viable in
    let z = strict_cut (take i s) (get_or s i 0 ∷ [])
    (subst (λ (p : List ℕ). Strict at_start initial p y.1 y.0 y.2) (take-suc s i 0 f.inside) y.3) in
    let few : suc (births z.told_before) ≤ limit =
    not_more (suc (births z.told_before)) (λ h. f.not_before (many_forced (strict_reads z.first_part) h)) in
    let many : limit < suc (births y.1) = more (suc (births y.1)) (λ h. few_free (strict_reads y.3) two h f.forced) in
    begun_at s i (omega (arith, f.inside)) z.first_part
    (begins_with z.second_part
    (omega (arith, ap births z.events, births_append z.told_before z.told_after)))
  where
    not_more : (n : ℕ) → (limit < n → ⊥) → n ≤ limit
    not_more n h = omega (arith, h)

    more : (n : ℕ) → (n ≤ limit → ⊥) → limit < n
    more n h = omega (arith, h)
