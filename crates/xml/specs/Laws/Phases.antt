-- Phases of the reading: before the root element nothing is told, and a reference that is begun tells one more byte.
use Rattle.std.specs.Prelude.{ℕ, Bool, true, false}
use Rattle.xml.specs.Laws.Automaton.{Config, at_start, behind_first, prolog, behind_root, epilog, declaration, tag_name, behind_part}
use Rattle.xml.specs.Laws.Automaton.{in_tag, before_equals, behind_equals, behind_slash, attribute_name, behind_quote, in_value}
use Rattle.xml.specs.Laws.Automaton.{value_reference, content, behind_open, in_text, text_reference, end_name}

pub data Phase : Type 0 where
  early reading referring over : Phase

abbrev pub phase : Config → Phase
phase at_start = early
phase behind_first = early
phase prolog = early
phase behind_root = early
phase epilog = over
phase (declaration x) = early
phase (tag_name ns p) = reading
phase (behind_part n ns seen) = reading
phase (in_tag n ns seen) = reading
phase (before_equals n ns seen) = reading
phase (behind_equals n ns seen) = reading
phase (behind_slash ns) = reading
phase (attribute_name n ns seen p) = reading
phase (behind_quote n ns seen q) = reading
phase (in_value n ns seen q) = reading
phase (value_reference n ns seen q x) = referring
phase (content n ns) = reading
phase (behind_open n ns) = reading
phase (in_text n ns k) = reading
phase (text_reference n ns x) = referring
phase (end_name n ns w) = reading

abbrev pub is_early : Phase → Bool
is_early early = true
is_early reading = false
is_early referring = false
is_early over = false

abbrev pub is_over : Phase → Bool
is_over early = false
is_over reading = false
is_over referring = false
is_over over = true

-- bytes of content that are certain and not told yet
abbrev pub pending : Phase → ℕ
pending early = 0
pending reading = 0
pending referring = 1
pending over = 0
