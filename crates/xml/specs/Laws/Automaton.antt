-- The reading, a byte a step: an automaton that carries what remains to be read, so that every configuration can be completed.
use Rattle.std.specs.Prelude.{ℕ, suc, ◌≡◌, Bool, cond, ◌&&◌, List, [], ◌∷◌, ◌++◌, eqb}
use Rattle.tree.specs.Forest.{nil, node}
use Rattle.tree.specs.Content.{element_kind, attribute_kind, text_kind, name_start, name_byte}
use Rattle.xml.specs.Bytes.{ampersand, slash, less_than, equals_sign, greater_than, quotation_mark, apostrophe, blank, Quote, double}
use Rattle.xml.specs.Bytes.{single, quote_byte, value_literal, normalized, text_literal, brackets, used}
use Rattle.xml.specs.Shape.{Shape}
use Rattle.xml.specs.Grammar.{Name}
use Rattle.xml.specs.Laws.Words.{Words, Found, no_word, whole, begun, follow, references, declarations}

-- where the reading stands. n is the innermost open element, ns are those around it, the nearest first; p is a name so far
pub data Config : Type 0 where
  at_start behind_first prolog behind_root epilog : Config
  declaration : Words → Config
  tag_name : (ns : List Name) (p : Name) → Config
  behind_part in_tag before_equals behind_equals : (n : Name) (ns seen : List Name) → Config
  behind_slash : (ns : List Name) → Config
  attribute_name : (n : Name) (ns seen : List Name) (p : Name) → Config
  behind_quote in_value : (n : Name) (ns seen : List Name) (q : Quote) → Config
  value_reference : (n : Name) (ns seen : List Name) (q : Quote) → Words → Config
  content behind_open : (n : Name) (ns : List Name) → Config
  in_text : (n : Name) (ns : List Name) (k : ℕ) → Config
  text_reference : (n : Name) (ns : List Name) → Words → Config
  -- w are the bytes of the end tag's name that remain
  end_name : (n : Name) (ns : List Name) (w : List ℕ) → Config

-- a node of a kind at a depth, or a byte of the content of the node that came last
pub data Event : Type 0 where
  born : (depth kind : ℕ) → Event
  byte : ℕ → Event

pub data Move : Type 0 where
  stuck : Move
  move : Config → List Event → Move

abbrev pub to : Config → Move
to c = move c []

-- the depth of the children of the innermost of ns
unfoldable pub depth : List Name → ℕ
depth [] = 1
depth (n ∷ ns) = suc (depth ns)

-- behind the end of an element
abbrev pub closed : List Name → Config
closed [] = epilog
closed (n ∷ ns) = content n ns

-- behind a name or a value in a start tag
unfoldable pub tag_step : Name → List Name → List Name → ℕ → Move
tag_step n ns seen b =
    cond (blank b) (to (in_tag n ns seen)) (cond (eqb b slash) (to (behind_slash ns)) (cond (eqb b greater_than) (to (content n ns)) stuck))

abbrev pub word_step : Found → (ℕ → Move) → (Words → Move) → Move
word_step no_word f g = stuck
word_step (whole k) f g = f k
word_step (begun x) f g = g x

-- `unique` asks for Unique Att Spec
unfoldable pub step : Bool → Config → ℕ → Move
step unique at_start b = cond (blank b) (to prolog) (cond (eqb b less_than) (to behind_first) stuck)
step unique behind_first b =
    cond (name_start b) (move (tag_name [] (b ∷ [])) (born 1 element_kind ∷ byte b ∷ []))
    (cond (eqb b 63) (to (declaration declarations)) stuck)
step unique (declaration x) b = word_step (follow x b) (λ k. to prolog) (λ y. to (declaration y))
step unique prolog b = cond (blank b) (to prolog) (cond (eqb b less_than) (to behind_root) stuck)
step unique behind_root b = cond (name_start b) (move (tag_name [] (b ∷ [])) (born 1 element_kind ∷ byte b ∷ [])) stuck
step unique (tag_name ns p) b = cond (name_byte b) (move (tag_name ns (p ++ (b ∷ []))) (byte b ∷ [])) (tag_step p ns [] b)
step unique (behind_part n ns seen) b = tag_step n ns seen b
step unique (in_tag n ns seen) b =
    cond (name_start b) (move (attribute_name n ns seen (b ∷ [])) (born (depth (n ∷ ns)) attribute_kind ∷ byte b ∷ []))
    (tag_step n ns seen b)
step unique (attribute_name n ns seen p) b =
    cond (name_byte b) (move (attribute_name n ns seen (p ++ (b ∷ []))) (byte b ∷ []))
    (cond (unique && used seen p) stuck
    (cond (blank b) (to (before_equals n ns (p ∷ seen))) (cond (eqb b equals_sign) (to (behind_equals n ns (p ∷ seen))) stuck)))
step unique (before_equals n ns seen) b =
    cond (blank b) (to (before_equals n ns seen)) (cond (eqb b equals_sign) (to (behind_equals n ns seen)) stuck)
step unique (behind_equals n ns seen) b =
    cond (blank b) (to (behind_equals n ns seen))
    (cond (eqb b quotation_mark) (to (behind_quote n ns seen double)) (cond (eqb b apostrophe) (to (behind_quote n ns seen single)) stuck))
step unique (behind_quote n ns seen q) b =
    cond (value_literal q b) (move (in_value n ns seen q) (born (suc (depth (n ∷ ns))) text_kind ∷ byte (normalized b) ∷ []))
    (cond (eqb b ampersand) (move (value_reference n ns seen q references) (born (suc (depth (n ∷ ns))) text_kind ∷ []))
    (cond (eqb b (quote_byte q)) (to (behind_part n ns seen)) stuck))
step unique (in_value n ns seen q) b =
    cond (value_literal q b) (move (in_value n ns seen q) (byte (normalized b) ∷ []))
    (cond (eqb b ampersand) (to (value_reference n ns seen q references)) (cond (eqb b (quote_byte q)) (to (behind_part n ns seen)) stuck))
step unique (value_reference n ns seen q x) b =
    word_step (follow x b) (λ k. move (in_value n ns seen q) (byte k ∷ [])) (λ y. to (value_reference n ns seen q y))
step unique (behind_slash ns) b = cond (eqb b greater_than) (to (closed ns)) stuck
step unique (content n ns) b =
    cond (text_literal 0 b) (move (in_text n ns (brackets 0 b)) (born (depth (n ∷ ns)) text_kind ∷ byte b ∷ []))
    (cond (eqb b ampersand) (move (text_reference n ns references) (born (depth (n ∷ ns)) text_kind ∷ []))
    (cond (eqb b less_than) (to (behind_open n ns)) stuck))
step unique (in_text n ns k) b =
    cond (text_literal k b) (move (in_text n ns (brackets k b)) (byte b ∷ []))
    (cond (eqb b ampersand) (to (text_reference n ns references)) (cond (eqb b less_than) (to (behind_open n ns)) stuck))
step unique (text_reference n ns x) b = word_step (follow x b) (λ k. move (in_text n ns 0) (byte k ∷ [])) (λ y. to (text_reference n ns y))
step unique (behind_open n ns) b =
    cond (name_start b) (move (tag_name (n ∷ ns) (b ∷ [])) (born (depth (n ∷ ns)) element_kind ∷ byte b ∷ []))
    (cond (eqb b slash) (to (end_name n ns n)) stuck)
step unique (end_name n ns []) b = cond (blank b) (to (end_name n ns [])) (cond (eqb b greater_than) (to (closed ns)) stuck)
step unique (end_name n ns (a ∷ w)) b = cond (eqb b a) (to (end_name n ns w)) stuck
step unique epilog b = cond (blank b) (to epilog) stuck

-- the bytes s are read from c on to d; e is what they tell
pub data Reads (unique : Bool) : (c : Config) (s : List ℕ) (e : List Event) (d : Config) → Type 0 where
  stay : {c : Config} → Reads unique c [] [] c
  on : {c d a : Config} {b : ℕ} {s : List ℕ} {v w : List Event} → step unique c b ≡ move d v → Reads unique d s w a
      → Reads unique c (b ∷ s) (v ++ w) a

-- the events of a tree at a depth, in document order, then e
unfoldable pub tell_bytes : List ℕ → List Event → List Event
tell_bytes [] e = e
tell_bytes (b ∷ c) e = byte b ∷ tell_bytes c e

unfoldable pub tell : ℕ → Shape → List Event → List Event
tell d nil e = e
tell d (node a g f) e = born d a.kind ∷ tell_bytes a.content (tell (suc d) g (tell d f e))
