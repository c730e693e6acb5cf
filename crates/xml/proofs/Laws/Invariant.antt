-- Which classes the monitor has in which configuration, and that it is between two characters outside names, values and texts.
use Rattle.std.specs.Prelude.{ℕ, ◌≡◌, Bool, ◌&&◌, List, [], ◌∷◌, eqb, ltb}
use Rattle.std.proofs.Math.Path.{refl}
use Rattle.std.proofs.Common.{ap, ◌∙◌}
use Rattle.std.proofs.Math.Bool.{true, false, cond}
use Rattle.tree.specs.Characters.{name_characters, text_characters}
use Rattle.tree.specs.Content.{text_kind, element_kind, attribute_kind, text_byte}
use Rattle.tree.specs.Spelling.{Spelling, Spelled, broken, spelling, before, whole, spell, start_of}
use Rattle.tree.specs.Laws.Spelling.{spell_behind, Completable, completable_before, completable_spell}
use Rattle.xml.specs.Grammar.{Name, Reference, entity_amp, entity_apos, entity_gt, entity_lt, entity_quot, character_tab}
use Rattle.xml.specs.Grammar.{character_line_feed}
use Rattle.xml.specs.Laws.Words.{Words, Word, references}
use Rattle.xml.proofs.Laws.Words.{word_reference, word_back}
use Rattle.xml.specs.Laws.Automaton.{Config, at_start, behind_first, prolog, behind_root, epilog, declaration, tag_name, behind_part}
use Rattle.xml.specs.Laws.Automaton.{in_tag, before_equals, behind_equals, behind_slash, attribute_name, behind_quote, in_value}
use Rattle.xml.specs.Laws.Automaton.{value_reference, content, behind_open, in_text, text_reference, end_name, Event, born, byte}
use Rattle.xml.specs.Laws.Automaton.{closed}
use Rattle.xml.proofs.Laws.Transitions.{TagStep, tag_blank, tag_slash, tag_close, Step, s_start_blank, s_start_open, s_first_name}
use Rattle.xml.proofs.Laws.Transitions.{s_first_declaration, s_declaration_end, s_declaration_on, s_prolog_blank, s_prolog_open}
use Rattle.xml.proofs.Laws.Transitions.{s_root_name, s_tag_name, s_tag_name_end, s_behind, s_in_tag, s_in_tag_name, s_attribute}
use Rattle.xml.proofs.Laws.Transitions.{s_attribute_blank, s_attribute_equals, s_before_blank, s_before_equals, s_equals_blank}
use Rattle.xml.proofs.Laws.Transitions.{s_equals_quote, s_quote_byte, s_quote_reference, s_quote_end, s_value_byte, s_value_reference}
use Rattle.xml.proofs.Laws.Transitions.{s_value_end, s_value_word_end, s_value_word_on, s_slash, s_content_byte, s_content_reference}
use Rattle.xml.proofs.Laws.Transitions.{s_content_open, s_text_byte, s_text_reference, s_text_open, s_text_word_end, s_text_word_on}
use Rattle.xml.proofs.Laws.Transitions.{s_open_name, s_open_slash, s_end_byte, s_end_blank, s_end_close, s_epilog}
use Rattle.xml.specs.Laws.Monitor.{Monitor, on, unspelled, seen, seen_as, content_of, then_see, see, monitor}
use Rattle.xml.proofs.Laws.Monitored.{not_seen}

-- in a name, in a value or a text
pub record InName (x : Spelling) : Type 0 where
  pub later : x.behind ≡ name_characters
  pub resting : whole x ≡ true → x ≡ before name_characters name_characters

pub record InText (x : Spelling) : Type 0 where
  pub first : x.here ≡ text_characters
  pub later : x.behind ≡ text_characters
  pub resting : whole x ≡ true → x ≡ before text_characters text_characters

pub text_start : InText (before text_characters text_characters)
text_start = record { first = refl; later = refl; resting = λ h. refl }

-- a byte of a text that is a character by itself
abbrev pub plain : ℕ → Bool
plain k = ltb k 128 && text_byte k

-- the values of the words are such bytes
abbrev pub Plain : Words → Type 0
Plain w = (s t : List ℕ) (k : ℕ) → Word w s t k → plain k ≡ true

reference_plain : {s t : List ℕ} {k : ℕ} → Reference s t k → plain k ≡ true
unfolding text_byte
reference_plain entity_amp = refl
reference_plain entity_apos = refl
reference_plain entity_gt = refl
reference_plain entity_lt = refl
reference_plain entity_quot = refl
reference_plain character_tab = refl
reference_plain character_line_feed = refl

pub references_plain : Plain references
references_plain s t k w = reference_plain (word_reference w)

abbrev pub Invariant : Config → Spelling → Type 0
Invariant at_start x = whole x ≡ true
Invariant behind_first x = whole x ≡ true
Invariant prolog x = whole x ≡ true
Invariant behind_root x = whole x ≡ true
Invariant epilog x = whole x ≡ true
Invariant (declaration w) x = whole x ≡ true
Invariant (tag_name ns p) x = InName x
Invariant (behind_part n ns l) x = whole x ≡ true
Invariant (in_tag n ns l) x = whole x ≡ true
Invariant (before_equals n ns l) x = whole x ≡ true
Invariant (behind_equals n ns l) x = whole x ≡ true
Invariant (behind_slash ns) x = whole x ≡ true
Invariant (attribute_name n ns l p) x = InName x
Invariant (behind_quote n ns l q) x = whole x ≡ true
Invariant (in_value n ns l q) x = InText x
Invariant (value_reference n ns l q w) x = InText x × (whole x ≡ true) × Plain w
Invariant (content n ns) x = whole x ≡ true
Invariant (behind_open n ns) x = whole x ≡ true
Invariant (in_text n ns k) x = InText x
Invariant (text_reference n ns w) x = InText x × (whole x ≡ true) × Plain w
Invariant (end_name n ns w) x = whole x ≡ true

-- behind a byte that is seen
pub record Next (d : Config) (x : Spelling) (y : Monitor) : Type 0 where
  pub after : Spelling
  pub is : y ≡ on after
  pub invariant : Invariant d after
  pub completable : Completable x → Completable after

closed_invariant : (ns : List Name) (x : Spelling) → whole x ≡ true → Invariant (closed ns) x
closed_invariant [] x h = h
closed_invariant (n ∷ ns) x h = h

tag_invariant : {n : Name} {ns l : List Name} {b : ℕ} {d : Config} (x : Spelling) → TagStep n ns l b d → whole x ≡ true → Invariant d x
tag_invariant x (tag_blank k) h = h
tag_invariant x tag_slash h = h
tag_invariant x tag_close h = h

module _ {d : Config} (x : Spelling) {y : Monitor} where
  -- a byte that tells nothing
  quiet : (whole x ≡ true → Invariant d x) → monitor (on x) [] ≡ seen y → Next d x y
  unfolding monitor
  quiet f h = go (whole x) refl h
    where
      go : (t : Bool) → whole x ≡ t → cond t (seen (on x)) unspelled ≡ seen y → Next d x y
      go true e h = let p : y ≡ on x = cc in record { after = x; is = p; invariant = f e; completable = λ a. a }
      go false e h = absurd (not_seen h)

  -- a byte of content
  told : (b : ℕ) → ((z : Spelling) → spell x b ≡ spelling z → Invariant d z) → monitor (on x) (byte b ∷ []) ≡ seen y → Next d x y
  unfolding monitor see
  told b f h = go (spell x b) refl h
    where
      go : (r : Spelled) → spell x b ≡ r → then_see (seen_as r) (λ z. seen z) ≡ seen y → Next d x y
      go broken e h = absurd (not_seen h)
      go (spelling z) e h =
          let p : y ≡ on z = cc in record { after = z; is = p; invariant = f z e; completable = λ a. completable_spell x z b a e }

  -- a node, with the first byte of its content
  told_first : (a k b : ℕ) → ((z : Spelling) → spell (content_of k) b ≡ spelling z → Invariant d z)
      → monitor (on x) (born a k ∷ byte b ∷ []) ≡ seen y → Next d x y
  unfolding monitor see
  told_first a k b f h = go (whole x) h (completable_start (eqb k text_kind))
    where
      completable_start : (t : Bool) → Completable (start_of t)
      completable_start true = completable_before _ _
      completable_start false = completable_before _ _

      born_first : (r : Spelled) → spell (content_of k) b ≡ r → then_see (seen_as r) (λ w. seen w) ≡ seen y → Completable (content_of k)
          → Next d x y
      born_first broken e h a = absurd (not_seen h)
      born_first (spelling z) e h a =
          let p : y ≡ on z = cc in record {
            after = z;
            is = p;
            invariant = f z e;
            completable = λ _. completable_spell
                (content_of k) z b a e;
          }

      go : (t : Bool) → then_see (cond t (seen (on (content_of k))) unspelled) (λ z. see z (byte b ∷ [])) ≡ seen y
          → Completable (content_of k) → Next d x y
      go false h a = absurd (not_seen h)
      go true h a = born_first (spell (content_of k) b) refl h a

  -- a node alone
  told_node : (a : ℕ) → Invariant d (before text_characters text_characters) → monitor (on x) (born a text_kind ∷ []) ≡ seen y → Next d x y
  unfolding monitor see
  told_node a f h = go (whole x) h
    where
      go : (t : Bool) → then_see (cond t (seen (on (start_of true))) unspelled) (λ z. seen z) ≡ seen y → Next d x y
      go false h = absurd (not_seen h)
      go true h =
          let p : y ≡ on (start_of true) = cc in
          record { after = start_of true; is = p; invariant = f; completable = λ _. completable_before _ _ }

-- classes go on
name_on : (x z : Spelling) (b : ℕ) → x.behind ≡ name_characters → spell x b ≡ spelling z → InName z
name_on x z b h e =
    let q = spell_behind x z b e in
    record { later = q.0 ∙ h; resting = λ w. rw h at (q.1 w) }

text_on : (x z : Spelling) (b : ℕ) → InText x → spell x b ≡ spelling z → InText z
text_on x z b h e =
    let q = spell_behind x z b e in
    let r : whole z ≡ true → z ≡ before text_characters text_characters = λ w. rw h.later at (q.1 w) in
    record { first = go (whole z) refl r q.2; later = q.0 ∙ h.later; resting = r }
  where
    go : (t : Bool) → whole z ≡ t → (whole z ≡ true → z ≡ before text_characters text_characters) → (whole z ≡ false → z.here ≡ x.here)
        → z.here ≡ text_characters
    go true w r n = ap (λ (y : Spelling). y.here) (r w)
    go false w r n = n w ∙ h.first

pub step_invariant : {u : Bool} {c : Config} {b : ℕ} {d : Config} {v : List Event} → Step u c b d v → (x : Spelling) {y : Monitor} → Invariant c x
    → monitor (on x) v ≡ seen y → Next d x y
step_invariant (s_start_blank h) x s w = quiet x (λ r. r) w
step_invariant s_start_open x s w = quiet x (λ r. r) w
step_invariant (s_first_name {b = b} h) x s w = told_first x _ element_kind b (λ z. name_on (start_of false) z b refl) w
step_invariant s_first_declaration x s w = quiet x (λ r. r) w
step_invariant (s_declaration_end k h) x s w = quiet x (λ r. r) w
step_invariant (s_declaration_on h) x s w = quiet x (λ r. r) w
step_invariant (s_prolog_blank h) x s w = quiet x (λ r. r) w
step_invariant s_prolog_open x s w = quiet x (λ r. r) w
step_invariant (s_root_name {b = b} h) x s w = told_first x _ element_kind b (λ z. name_on (start_of false) z b refl) w
step_invariant (s_tag_name {b = b} h) x s w = told x b (λ z. name_on x z b s.later) w
step_invariant (s_tag_name_end h t) x s w = quiet x (tag_invariant x t) w
step_invariant (s_behind t) x s w = quiet x (tag_invariant x t) w
step_invariant (s_in_tag h t) x s w = quiet x (tag_invariant x t) w
step_invariant (s_in_tag_name {b = b} h) x s w = told_first x _ attribute_kind b (λ z. name_on (start_of false) z b refl) w
step_invariant (s_attribute {b = b} h) x s w = told x b (λ z. name_on x z b s.later) w
step_invariant (s_attribute_blank k h) x s w = quiet x (λ r. r) w
step_invariant (s_attribute_equals k) x s w = quiet x (λ r. r) w
step_invariant (s_before_blank h) x s w = quiet x (λ r. r) w
step_invariant s_before_equals x s w = quiet x (λ r. r) w
step_invariant (s_equals_blank h) x s w = quiet x (λ r. r) w
step_invariant (s_equals_quote q) x s w = quiet x (λ r. r) w
step_invariant (s_quote_byte {b = b} h) x s w = told_first x _ text_kind _ (λ z. text_on (start_of true) z _ text_start) w
step_invariant s_quote_reference x s w = told_node x _ (text_start, refl, references_plain) w
step_invariant s_quote_end x s w = quiet x (λ r. r) w
step_invariant (s_value_byte h) x s w = told x _ (λ z. text_on x z _ s) w
step_invariant s_value_reference x s w = quiet x (λ r. (s, r, references_plain)) w
step_invariant s_value_end x s w = quiet x (λ r. r) w
step_invariant (s_value_word_end h) x s w = told x _ (λ z. text_on x z _ s.0) w
step_invariant (s_value_word_on h) x s w = quiet x (λ r. (s.0, r, λ a t k l. s.2 _ t k (word_back h l))) w
step_invariant (s_slash {ns = ns}) x s w = quiet x (closed_invariant ns x) w
step_invariant (s_content_byte h) x s w = told_first x _ text_kind _ (λ z. text_on (start_of true) z _ text_start) w
step_invariant s_content_reference x s w = told_node x _ (text_start, refl, references_plain) w
step_invariant s_content_open x s w = quiet x (λ r. r) w
step_invariant (s_text_byte h) x s w = told x _ (λ z. text_on x z _ s) w
step_invariant s_text_reference x s w = quiet x (λ r. (s, r, references_plain)) w
step_invariant s_text_open x s w = quiet x (λ r. r) w
step_invariant (s_text_word_end h) x s w = told x _ (λ z. text_on x z _ s.0) w
step_invariant (s_text_word_on h) x s w = quiet x (λ r. (s.0, r, λ a t k l. s.2 _ t k (word_back h l))) w
step_invariant (s_open_name {b = b} h) x s w = told_first x _ element_kind b (λ z. name_on (start_of false) z b refl) w
step_invariant s_open_slash x s w = quiet x (λ r. r) w
step_invariant s_end_byte x s w = quiet x (λ r. r) w
step_invariant (s_end_blank h) x s w = quiet x (λ r. r) w
step_invariant (s_end_close {ns = ns}) x s w = quiet x (closed_invariant ns x) w
step_invariant (s_epilog h) x s w = quiet x (λ r. r) w
