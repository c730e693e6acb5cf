-- What an input stands for, and why it is refused: document 01, "Refused calls" (load) and "Reading and writing XML".
use Rattle.std.specs.Prelude.{ℕ, zero, suc, ◌≤◌, ◌<◌, ◌≡◌, Bool, true, false, cond, ◌||◌, List, ◌++◌, length, take, get_or, eqb}
use Rattle.tree.specs.Content.{content_limit}
use Rattle.protocol.specs.Calls.{node_limit, loadable, Input, unreadable, stands_for}
use Rattle.xml.specs.Bytes.{less_than, quotation_mark, apostrophe}
use Rattle.xml.specs.Shape.{Shape, size, longest, document}
use Rattle.xml.specs.Grammar.{Parses, Spells}

-- "input is at most 65,536 bytes"
abbrev pub input_limit : ℕ
input_limit = 65536

-- some document of the grammar begins with these bytes; "the grammar itself knows no length"
abbrev pub Viable : List ℕ → Type 0
Viable p = (t : List ℕ) × (f : Shape) × Spells (p ++ t) f

-- cause 5: a content has a 33rd byte
abbrev pub LongContent : Shape → Type 0
LongContent f = content_limit < longest f

-- cause 6: more nodes than the limit, node 0 counted
abbrev pub ManyNodes : ℕ → Shape → Type 0
ManyNodes limit f = limit < suc (size f)

-- these bytes lead to it, however the input goes on. Unique Att Spec and the spelling of characters are left out here: a name that repeats
-- another, or a character that is begun, must go on, and yet has no further byte before that byte is there
abbrev pub Forces : (Shape → Type 0) → List ℕ → Type 0
Forces P p = (t : List ℕ) (f : Shape) → Parses false (p ++ t) f → P f

-- the byte at i is the first that leads to it
pub record FirstForced (P : Shape → Type 0) (s : List ℕ) (i : ℕ) : Type 0 where
  pub inside : i < length s
  pub viable : Viable (take (suc i) s)
  pub forced : Forces P (take (suc i) s)
  pub not_before : ¬ (Forces P (take i s))

-- a byte < or a quote
abbrev pub opener : ℕ → Bool
opener b = eqb b less_than || eqb b quotation_mark || eqb b apostrophe

-- a node that the byte at i makes certain: it begins one byte before, with a < or an opening quote, or at i itself
abbrev pub node_offset : List ℕ → ℕ → ℕ
node_offset s zero = zero
node_offset s (suc i) = cond (opener (get_or s i 0)) i (suc i)

-- a cause that applies to the input s where so many nodes may be held, with its offset
pub data FaultWithin (limit : ℕ) (s : List ℕ) : (cause offset : ℕ) → Type 0 where
  -- "the first byte that no document of this grammar can have after those before it, or the length if input ends too soon"
  wrong_byte : {i : ℕ} → i < length s → Viable (take i s) → ¬ (Viable (take (suc i) s)) → FaultWithin limit s 4 i
  too_soon : Viable s → ((f : Shape) → ¬ (Spells s f)) → FaultWithin limit s 4 (length s)
  -- "offset 65,536 of a longer one is refused as 4"
  too_long : input_limit < length s → FaultWithin limit s 4 input_limit
  -- "the byte giving the 33rd, or a & in its place, even if no reference follows"
  long_content : {i : ℕ} → FirstForced LongContent s i → FaultWithin limit s 5 i
  -- "a < with a name's first byte after it, the first byte of an attribute's name, an opening quote with a byte after it that a value
  -- may begin with, or the first byte of text"
  many_nodes : {i : ℕ} → FirstForced (ManyNodes limit) s i → FaultWithin limit s 6 (node_offset s i)

-- "the earliest offset; at one offset 4, 5, 6"
pub record Earlier (cause offset cause' offset' : ℕ) : Type 0 where
  pub offsets : offset ≤ offset'
  pub causes : offset ≡ offset' → cause ≤ cause'

pub data ReadsWithin (limit : ℕ) (s : List ℕ) : Input → Type 0 where
  accepted : {f : Shape} → Spells s f → ((cause offset : ℕ) → ¬ (FaultWithin limit s cause offset))
      → (h : loadable node_limit (document f) ≡ true)
      → ReadsWithin limit s (stands_for (document f) h)
  refused : {cause offset : ℕ} → FaultWithin limit s cause offset
      → ((cause' offset' : ℕ) → FaultWithin limit s cause' offset' → Earlier cause offset cause' offset')
      → ReadsWithin limit s (unreadable cause offset)

-- "a 1,025th node"
abbrev pub Fault : List ℕ → (cause offset : ℕ) → Type 0
Fault s = FaultWithin node_limit s

abbrev pub ReadsAs : List ℕ → Input → Type 0
ReadsAs s = ReadsWithin node_limit s
