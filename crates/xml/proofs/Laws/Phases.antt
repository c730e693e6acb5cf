-- Phases of the reading: before the root element nothing is told, and a reference that is begun tells one more byte.
use Rattle.std.specs.Prelude.{ℕ, suc, ◌+◌, ◌≤◌, ◌≡◌, refl, Bool, true, false, cond, List, [], ◌∷◌, ◌++◌}
use Rattle.std.proofs.lemmas.Bool.{false≢true}
use Rattle.std.proofs.Common.{arith}
use Rattle.tree.specs.Content.{name_byte}
use Rattle.xml.specs.Bytes.{used}
use Rattle.xml.specs.Grammar.{Name}
use Rattle.xml.specs.Laws.Automaton.{Config, at_start, behind_first, prolog, behind_root, epilog, declaration, tag_name, behind_part}
use Rattle.xml.specs.Laws.Automaton.{in_tag, before_equals, behind_equals, behind_slash, attribute_name, behind_quote, in_value}
use Rattle.xml.specs.Laws.Automaton.{value_reference, content, behind_open, in_text, text_reference, end_name, Event, closed, Move}
use Rattle.xml.specs.Laws.Automaton.{stuck, move, step, Reads, stay, on}
use Rattle.xml.proofs.Laws.Transitions.{TagStep, tag_blank, tag_slash, tag_close, Step, s_start_blank, s_start_open, s_first_name}
use Rattle.xml.proofs.Laws.Transitions.{s_first_declaration, s_declaration_end, s_declaration_on, s_prolog_blank, s_prolog_open}
use Rattle.xml.proofs.Laws.Transitions.{s_root_name, s_tag_name, s_tag_name_end, s_behind, s_in_tag, s_in_tag_name, s_attribute}
use Rattle.xml.proofs.Laws.Transitions.{s_attribute_blank, s_attribute_equals, s_before_blank, s_before_equals, s_equals_blank}
use Rattle.xml.proofs.Laws.Transitions.{s_equals_quote, s_quote_byte, s_quote_reference, s_quote_end, s_value_byte, s_value_reference}
use Rattle.xml.proofs.Laws.Transitions.{s_value_end, s_value_word_end, s_value_word_on, s_slash, s_content_byte, s_content_reference}
use Rattle.xml.proofs.Laws.Transitions.{s_content_open, s_text_byte, s_text_reference, s_text_open, s_text_word_end, s_text_word_on}
use Rattle.xml.proofs.Laws.Transitions.{s_open_name, s_open_slash, s_end_byte, s_end_blank, s_end_close, s_epilog, step_is}
use Rattle.xml.specs.Laws.Counts.{peak}
use Rattle.xml.proofs.Laws.Counts.{peak_least}
use Rattle.xml.proofs.Laws.Sound.{Rest, r_value_word, r_text_word}
use Rattle.xml.specs.Laws.Phases.{phase, is_early, is_over, pending}

-- before the root element ------------------------------------------------------------

closed_late : (ns : List Name) → is_early (phase (closed ns)) ≡ false
closed_late [] = refl
closed_late (n ∷ ns) = refl

tag_late : {n : Name} {ns seen : List Name} {b : ℕ} {d : Config} → TagStep n ns seen b d → is_early (phase d) ≡ false
tag_late (tag_blank h) = refl
tag_late tag_slash = refl
tag_late tag_close = refl

-- a configuration before the root element is reached from such a one, and nothing is told
data Quiet (c : Config) (v : List Event) : Bool → Type 0 where
  late : Quiet c v false
  quiet : is_early (phase c) ≡ true → v ≡ [] → Quiet c v true

late_by : {c : Config} {v : List Event} (t : Bool) → t ≡ false → Quiet c v t
late_by t h = rw h late

quiet_step : {u : Bool} {c : Config} {b : ℕ} {d : Config} {v : List Event} → Step u c b d v → Quiet c v (is_early (phase d))
quiet_step (s_start_blank h) = quiet refl refl
quiet_step s_start_open = quiet refl refl
quiet_step (s_first_name h) = late
quiet_step s_first_declaration = quiet refl refl
quiet_step (s_declaration_end k h) = quiet refl refl
quiet_step (s_declaration_on h) = quiet refl refl
quiet_step (s_prolog_blank h) = quiet refl refl
quiet_step s_prolog_open = quiet refl refl
quiet_step (s_root_name h) = late
quiet_step (s_tag_name h) = late
quiet_step (s_tag_name_end h t) = late_by _ (tag_late t)
quiet_step (s_behind t) = late_by _ (tag_late t)
quiet_step (s_in_tag h t) = late_by _ (tag_late t)
quiet_step (s_in_tag_name h) = late
quiet_step (s_attribute h) = late
quiet_step (s_attribute_blank k h) = late
quiet_step (s_attribute_equals k) = late
quiet_step (s_before_blank h) = late
quiet_step s_before_equals = late
quiet_step (s_equals_blank h) = late
quiet_step (s_equals_quote q) = late
quiet_step (s_quote_byte h) = late
quiet_step s_quote_reference = late
quiet_step s_quote_end = late
quiet_step (s_value_byte h) = late
quiet_step s_value_reference = late
quiet_step s_value_end = late
quiet_step (s_value_word_end h) = late
quiet_step (s_value_word_on h) = late
quiet_step (s_slash {ns = ns}) = late_by _ (closed_late ns)
quiet_step (s_content_byte h) = late
quiet_step s_content_reference = late
quiet_step s_content_open = late
quiet_step (s_text_byte h) = late
quiet_step s_text_reference = late
quiet_step s_text_open = late
quiet_step (s_text_word_end h) = late
quiet_step (s_text_word_on h) = late
quiet_step (s_open_name h) = late
quiet_step s_open_slash = late
quiet_step s_end_byte = late
quiet_step (s_end_blank h) = late
quiet_step (s_end_close {ns = ns}) = late_by _ (closed_late ns)
quiet_step (s_epilog h) = late

pub quiet_run : {u : Bool} {c d : Config} {s : List ℕ} {v : List Event} → Reads u c s v d → is_early (phase d) ≡ true
    → (is_early (phase c) ≡ true) × (v ≡ [])
quiet_run stay h = (h, refl)
quiet_run (on {d = a} {v = v} {w = w} k r) h = let x = quiet_run r h in go (is_early (phase a)) (quiet_step (step_is k)) x.0 x.1
  where
    go : {c : Config} (t : Bool) → Quiet c v t → t ≡ true → w ≡ [] → (is_early (phase c) ≡ true) × ((v ++ w) ≡ [])
    go false late e p = absurd (false≢true e)
    go true (quiet q o) e p = (q, rw (o, p))

-- a reference that is begun ------------------------------------------------------------

pub pending_told : {u : Bool} (c : Config) {s : List ℕ} {e : List Event} → Rest u c s e → (k : ℕ) → k + pending (phase c) ≤ peak k e
unfolding peak
pending_told at_start {e = e} r k = omega (arith, peak_least k e)
pending_told behind_first {e = e} r k = omega (arith, peak_least k e)
pending_told prolog {e = e} r k = omega (arith, peak_least k e)
pending_told behind_root {e = e} r k = omega (arith, peak_least k e)
pending_told epilog {e = e} r k = omega (arith, peak_least k e)
pending_told (declaration x) {e = e} r k = omega (arith, peak_least k e)
pending_told (tag_name ns p) {e = e} r k = omega (arith, peak_least k e)
pending_told (behind_part n ns seen) {e = e} r k = omega (arith, peak_least k e)
pending_told (in_tag n ns seen) {e = e} r k = omega (arith, peak_least k e)
pending_told (before_equals n ns seen) {e = e} r k = omega (arith, peak_least k e)
pending_told (behind_equals n ns seen) {e = e} r k = omega (arith, peak_least k e)
pending_told (behind_slash ns) {e = e} r k = omega (arith, peak_least k e)
pending_told (attribute_name n ns seen p) {e = e} r k = omega (arith, peak_least k e)
pending_told (behind_quote n ns seen q) {e = e} r k = omega (arith, peak_least k e)
pending_told (in_value n ns seen q) {e = e} r k = omega (arith, peak_least k e)
pending_told (value_reference n ns seen q x) (r_value_word {e = e} w r) k = omega (arith, peak_least (suc k) e)
pending_told (content n ns) {e = e} r k = omega (arith, peak_least k e)
pending_told (behind_open n ns) {e = e} r k = omega (arith, peak_least k e)
pending_told (in_text n ns j) {e = e} r k = omega (arith, peak_least k e)
pending_told (text_reference n ns x) (r_text_word {e = e} w r) k = omega (arith, peak_least (suc k) e)
pending_told (end_name n ns w) {e = e} r k = omega (arith, peak_least k e)

-- without Unique Att Spec --------------------------------------------------------------

loose_step : (c : Config) (b : ℕ) {d : Config} {v : List Event} → step true c b ≡ move d v → step false c b ≡ move d v
unfolding step
loose_step at_start b h = h
loose_step behind_first b h = h
loose_step prolog b h = h
loose_step behind_root b h = h
loose_step epilog b h = h
loose_step (declaration x) b h = h
loose_step (tag_name ns p) b h = h
loose_step (behind_part n ns seen) b h = h
loose_step (in_tag n ns seen) b h = h
loose_step (before_equals n ns seen) b h = h
loose_step (behind_equals n ns seen) b h = h
loose_step (behind_slash ns) b h = h
loose_step (attribute_name n ns seen p) b {d} {v} h = go (name_byte b) (used seen p) _ _ h
  where
    go : (x y : Bool) (m l : Move) → cond x m (cond y stuck l) ≡ move d v → cond x m l ≡ move d v
    go true y m l h = h
    go false true m l h = absurd (let z : ◌≡◌ {A = ℕ} 0 1 = cc in omega arith)
    go false false m l h = h
loose_step (behind_quote n ns seen q) b h = h
loose_step (in_value n ns seen q) b h = h
loose_step (value_reference n ns seen q x) b h = h
loose_step (content n ns) b h = h
loose_step (behind_open n ns) b h = h
loose_step (in_text n ns k) b h = h
loose_step (text_reference n ns x) b h = h
loose_step (end_name n ns []) b h = h
loose_step (end_name n ns (a ∷ w)) b h = h

pub loose : {c d : Config} {s : List ℕ} {v : List Event} → Reads true c s v d → Reads false c s v d
loose stay = stay
loose (on {c = c} {b = b} h r) = on (loose_step c b h) (loose r)

-- at the end ---------------------------------------------------------------------------

pub over_epilog : (c : Config) → is_over (phase c) ≡ true → c ≡ epilog
over_epilog at_start h = absurd (false≢true h)
over_epilog behind_first h = absurd (false≢true h)
over_epilog prolog h = absurd (false≢true h)
over_epilog behind_root h = absurd (false≢true h)
over_epilog (declaration x) h = absurd (false≢true h)
over_epilog (tag_name ns p) h = absurd (false≢true h)
over_epilog (behind_part n ns seen) h = absurd (false≢true h)
over_epilog (in_tag n ns seen) h = absurd (false≢true h)
over_epilog (before_equals n ns seen) h = absurd (false≢true h)
over_epilog (behind_equals n ns seen) h = absurd (false≢true h)
over_epilog (behind_slash ns) h = absurd (false≢true h)
over_epilog (attribute_name n ns seen p) h = absurd (false≢true h)
over_epilog (behind_quote n ns seen q) h = absurd (false≢true h)
over_epilog (in_value n ns seen q) h = absurd (false≢true h)
over_epilog (value_reference n ns seen q x) h = absurd (false≢true h)
over_epilog (content n ns) h = absurd (false≢true h)
over_epilog (behind_open n ns) h = absurd (false≢true h)
over_epilog (in_text n ns k) h = absurd (false≢true h)
over_epilog (text_reference n ns x) h = absurd (false≢true h)
over_epilog (end_name n ns w) h = absurd (false≢true h)
over_epilog epilog h = refl
