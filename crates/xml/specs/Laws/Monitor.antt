-- The characters of what the automaton tells, read a byte at a time, so that a byte with which no character goes on is seen at once.
use Rattle.std.specs.Prelude.{ℕ, ◌<◌, ◌≡◌, Bool, true, false, cond, List, [], ◌∷◌, eqb, length, take, get_or}
use Rattle.tree.specs.Content.{text_kind}
use Rattle.tree.specs.Spelling.{Spelling, Spelled, broken, spelling, whole, spell, start_of, Fault, faultless, fault}
use Rattle.xml.specs.Laws.Automaton.{Event, born, byte}

-- how far the characters of the content that came last are read; `off` where nobody asks for characters
pub data Monitor : Type 0 where
  off : Monitor
  on : Spelling → Monitor

pub data Seen : Type 0 where
  unspelled : Seen
  seen : Monitor → Seen

-- between two characters
abbrev pub at_rest : Monitor → Bool
at_rest off = true
at_rest (on x) = whole x

abbrev pub is_on : Monitor → Bool
is_on off = false
is_on (on x) = true

abbrev pub seen_as : Spelled → Seen
seen_as broken = unspelled
seen_as (spelling y) = seen (on y)

abbrev pub see_byte : Monitor → ℕ → Seen
see_byte off b = seen off
see_byte (on x) b = seen_as (spell x b)

-- before the first character of a node of a kind
abbrev pub content_of : ℕ → Spelling
content_of kind = start_of (eqb kind text_kind)

abbrev pub see_node : Monitor → ℕ → Seen
see_node off kind = seen off
see_node (on x) kind = cond (whole x) (seen (on (content_of kind))) unspelled

abbrev pub then_see : Seen → (Monitor → Seen) → Seen
then_see unspelled f = unspelled
then_see (seen x) f = f x

-- what is told
unfoldable pub see : Monitor → List Event → Seen
see x [] = seen x
see x (born d k ∷ e) = then_see (see_node x k) (λ y. see y e)
see x (byte b ∷ e) = then_see (see_byte x b) (λ y. see y e)

-- what one byte of the input tells: inside a character each tells a byte
unfoldable pub monitor : Monitor → List Event → Seen
monitor x [] = cond (at_rest x) (seen x) unspelled
monitor x (a ∷ v) = see x (a ∷ v)

-- before the first node
abbrev pub monitoring : Monitor
monitoring = on (start_of false)

-- the bytes of a content ---------------------------------------------------------------------

unfoldable pub see_bytes : Monitor → List ℕ → Seen
see_bytes x [] = seen x
see_bytes x (b ∷ l) = then_see (see_byte x b) (λ y. see_bytes y l)

-- what a fault is in these terms: the bytes before it are taken; then one is not, or the last character is cut
pub data FaultAt (x : Monitor) (l : List ℕ) : Fault → Type 0 where
  no_fault : (y : Monitor) → see_bytes x l ≡ seen y → at_rest y ≡ true → is_on y ≡ is_on x → FaultAt x l faultless
  at_byte : {n : ℕ} (y : Monitor) → n < length l → see_bytes x (take n l) ≡ seen y → see_byte y (get_or l n 0) ≡ unspelled
      → FaultAt x l (fault n)
  at_end : {n : ℕ} (y : Monitor) → n ≡ length l → see_bytes x l ≡ seen y → at_rest y ≡ false → FaultAt x l (fault n)
