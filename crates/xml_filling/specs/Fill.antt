-- An input that is accepted fills the table: at each place of the reading, the rows that the rest of the input tells.
use Rattle.std.specs.Prelude.{ℕ, suc, ◌+◌, ◌≤◌, ◌<◌, ◌≡◌, true, cond, List, [], ◌∷◌, ◌++◌, eqb, length, get_or, take, drop}
use Rattle.tree.specs.Lists.{every}
use Rattle.tree.specs.Forest.{nil, node}
use Rattle.tree.specs.Content.{content_limit, element_kind, attribute_kind, text_kind, name_start, name_byte}
use Rattle.tree.specs.Document.{node_0_alone}
use Rattle.protocol.specs.State.{unmarked, tree_of}
use Rattle.protocol.specs.Calls.{node_limit}
use Rattle.table.specs.Flat.{flat}
use Rattle.table.specs.Layout.{state_size, Entry, nodes, Layout, Left, header}
use Rattle.xml.specs.Bytes.{space, less_than}
use Rattle.xml.specs.Shape.{Label, Shape, size, longest, document}
use Rattle.xml.specs.Grammar.{Name, Spells}
use Rattle.xml.specs.Laws.Words.{Words}
use Rattle.xml.specs.Laws.Automaton.{Config, behind_part, in_tag, before_equals, tag_name, behind_open, end_name, closed}
use Rattle.xml.specs.Laws.Automaton.{Event, born, byte, depth, tell_bytes}
use Rattle.xml.specs.Laws.Complete.{Accepts}
use Rattle.xml.specs.Laws.Counts.{births, peak}
use Rattle.xml_tokens.specs.Steps.{Characters, Contents}
use Rattle.xml_tokens.specs.declared.Cursor.{Cursor}
use Rattle.xml_filling.specs.declared.Kind.{Kind}
use Rattle.xml_filling.specs.declared.Kind.TheVariants.{Element, Attribute, Text}

-- rows -----------------------------------------------------------------------------------

-- a node without its number, at a depth
abbrev pub Row : Type 0
Row = ℕ × Label

-- the rows of siblings at a depth and of all below them, then l
unfoldable pub listed : ℕ → Shape → List Row → List Row
listed d nil l = l
listed d (node a g f) l = (d, a) ∷ listed (suc d) g (listed d f l)

-- what tells these rows, then e
unfoldable pub told : List Row → List Event → List Event
told [] e = e
told (x ∷ l) e = born x.0 x.1.kind ∷ tell_bytes x.1.content (told l e)

-- as nodes of the table, numbered from i on
unfoldable pub entries : ℕ → List Row → List Entry
entries i [] = []
entries i (x ∷ l) = (x.0, unmarked (record { number = i; kind = x.1.kind; content = x.1.content })) ∷ entries (suc i) l

-- the nodes held, and these rows behind them
abbrev pub with_rows : List ℕ → List Row → List Entry
with_rows s l = nodes s ++ entries (length (nodes s)) l

-- every content is within the limit
unfoldable pub Short : List Row → Type 0
Short [] = Unit {0}
Short (x ∷ l) = (length x.1.content ≤ content_limit) × Short l

-- places -----------------------------------------------------------------------------------

-- the names of open elements have a name's bytes
unfoldable pub Spelled : List Name → Type 0
Spelled [] = Unit {0}
Spelled (n ∷ ns) = (every name_byte n ≡ true) × Spelled ns

-- at an offset of x, behind an element at depth d; what is read on tells e
pub record Behind (x : List ℕ) (at d : ℕ) (e : List Event) : Type 0 where
  pub names : List Name
  pub spelled : Spelled names
  pub deep : d ≡ depth names
  pub rest : Accepts true (closed names) (drop at x) e

-- in a start tag, behind the element's name or a value; the attributes and the children are at depth d
pub record InTag (x : List ℕ) (at d : ℕ) (e : List Event) : Type 0 where
  pub name : Name
  pub names : List Name
  pub seen : List Name
  pub spelled : Spelled (name ∷ names)
  pub deep : d ≡ depth (name ∷ names)
  pub rest : Accepts true (behind_part name names seen) (drop at x) e

-- at the name of an attribute at depth d
pub record AtAttribute (x : List ℕ) (at d : ℕ) (e : List Event) : Type 0 where
  pub name : Name
  pub names : List Name
  pub seen : List Name
  pub spelled : Spelled (name ∷ names)
  pub deep : d ≡ depth (name ∷ names)
  pub inside : at < length x
  pub starts : name_start (get_or x at 0) ≡ true
  pub rest : Accepts true (in_tag name names seen) (drop at x) e

-- behind the name of an attribute at depth d
pub record AtEquals (x : List ℕ) (at d : ℕ) (e : List Event) : Type 0 where
  pub name : Name
  pub names : List Name
  pub seen : List Name
  pub spelled : Spelled (name ∷ names)
  pub deep : d ≡ depth (name ∷ names)
  pub rest : Accepts true (before_equals name names seen) (drop at x) e

-- behind a < among nodes at depth d
pub record AtTag (x : List ℕ) (at d : ℕ) (e : List Event) : Type 0 where
  pub name : Name
  pub names : List Name
  pub spelled : Spelled (name ∷ names)
  pub deep : d ≡ depth (name ∷ names)
  pub rest : Accepts true (behind_open name names) (drop at x) e

-- at the name of an element at depth d, whose first byte tells of it
pub record AtElement (x : List ℕ) (at d : ℕ) (e : List Event) : Type 0 where
  pub names : List Name
  pub later : List Event
  pub spelled : Spelled names
  pub deep : d ≡ depth names
  pub inside : at < length x
  pub starts : name_start (get_or x at 0) ≡ true
  pub tells : e ≡ born d element_kind ∷ byte (get_or x at 0) ∷ later
  pub rest : Accepts true (tag_name names (get_or x at 0 ∷ [])) (drop (at + 1) x) later

-- filling ------------------------------------------------------------------------------------

-- the table s holds the nodes that the input x tells before the offset `at`; what stands there is such a place at depth d
pub record Filling (place : List ℕ → ℕ → ℕ → List Event → Type 0) (x s : List ℕ) (at d : ℕ) : Type 0 where
  pub shape : Shape
  pub spelled : Spells x shape
  pub rows : List Row
  pub rest : place x at d (told rows [])
  pub filled : with_rows s rows ≡ flat 0 (tree_of (document shape))
  pub room : length (nodes s) + length rows ≤ node_limit
  pub short : Short rows
  pub layout : Layout s
  pub deep : d ≤ length (nodes s)
  pub inside : at ≤ length x

-- what every function of this crate leaves as it was
pub record Same (s s' : List ℕ) : Type 0 where
  pub long : length s' ≡ length s
  pub behind : drop state_size s' ≡ drop state_size s
  pub header : header s' ≡ header s

-- the numbers of the kinds that an input tells
abbrev pub kind_number : Kind → ℕ
kind_number Element = element_kind
kind_number Attribute = attribute_kind
kind_number Text = text_kind

-- these rows were put behind the last
abbrev pub Put : List ℕ → List ℕ → List Row → Type 0
Put s s' l = Left s s' (header s) (with_rows s l)

-- the least byte that a literal byte of a value or a text which ends with stop is read as
unfoldable pub least : ℕ → ℕ
least stop = cond (eqb stop less_than) 0 space

-- n bytes of the buffer b are what the characters from `at` on stand for, and c is behind them
pub record Decodes (x : List ℕ) (stop at : ℕ) (b : List ℕ) (n : ℕ) (c : Cursor) : Type 0 where
  pub few : n ≤ content_limit
  pub tells : (C : ℕ → Config) (R : Words → Config) (D : Config) → Characters stop C R D → {e : List Event} → peak 0 e ≤ content_limit
      → Accepts true (C 0) (drop at x) e
      → (at ≤ c.at) × (c.at ≤ length x) × ((l : List Event) × (e ≡ tell_bytes (take n b) l) × Accepts true D (drop c.at x) l)

-- S stands before a value or a text at depth d that ends with the byte stop, D behind it
pub record Valued (stop d : ℕ) (S D : Config) : Type 0 where
  pub characters : ℕ → Config
  pub references : Words → Config
  pub contents : Contents stop S characters references D
  pub at_depth : contents.depth ≡ d

-- such a one stands at `at`, and what is told is within the limits
pub record Fits (x s : List ℕ) (stop at d : ℕ) : Type 0 where
  pub before : Config
  pub behind : Config
  pub valued : Valued stop d before behind
  pub events : List Event
  pub rest : Accepts true before (drop at x) events
  pub room : length (nodes s) + births events ≤ node_limit
  pub short : peak 0 events ≤ content_limit

-- rows were put, which were told first; D reads on at j
pub record Putting (x s s' : List ℕ) (D : Config) (j : ℕ) (e : List Event) : Type 0 where
  pub rows : List Row
  pub later : List Event
  pub tells : e ≡ told rows later
  pub put : Put s s' rows
  pub rest : Accepts true D (drop j x) later

-- a value or a text was put behind the last node, and c is behind it
pub record TextPut (x : List ℕ) (stop at d : ℕ) (s s' : List ℕ) (c : Cursor) : Type 0 where
  pub put : {S D : Config} → Valued stop d S D → {e : List Event} → peak 0 e ≤ content_limit → Accepts true S (drop at x) e
      → (at ≤ c.at) × (c.at ≤ length x) × Putting x s s' D c.at e

-- c is behind the end tag whose name stands at `at`
pub record EndsAt (x : List ℕ) (at : ℕ) (c : Cursor) : Type 0 where
  pub closes : (n : Name) (ns : List Name) → every name_byte n ≡ true → {e : List Event} → peak 0 e ≤ content_limit
      → Accepts true (end_name n ns n) (drop at x) e
      → (at < c.at) × (c.at ≤ length x) × Accepts true (closed ns) (drop c.at x) e

-- the whole: node 0 alone before, and the document of the input after
pub record Begun (x s : List ℕ) : Type 0 where
  pub shape : Shape
  pub spelled : Spells x shape
  pub few : suc (size shape) ≤ node_limit
  pub short : longest shape ≤ content_limit
  pub layout : Layout s
  pub alone : nodes s ≡ flat 0 (tree_of node_0_alone)

pub record Filled (x s s' : List ℕ) : Type 0 where
  pub same : Same s s'
  pub layout : Layout s'
  pub nodes : (f : Shape) → Spells x f → nodes s' ≡ flat 0 (tree_of (document f))
