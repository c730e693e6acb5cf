-- Load: the state is replaced by the document that the input stands for.
use Rattle.std.specs.Prelude.{ℕ, suc, ◌+◌, ◌≤◌, ◌≡◌, true, List, length, drop}
use Rattle.tree.specs.Content.{content_limit}
use Rattle.tree.specs.Document.{lines}
use Rattle.protocol.specs.State.{tree_of, with_commits}
use Rattle.protocol.specs.Calls.{loadable, Input, unreadable, stands_for, node_limit}
use Rattle.table.specs.Flat.{flat}
use Rattle.table.specs.Layout.{state_size, header, nodes, Layout}
use Rattle.xml.specs.Shape.{Shape, size, longest, document}
use Rattle.xml.specs.Grammar.{Spells}
use Rattle.xml.specs.Reading.{input_limit, ReadsWithin}

-- where so many nodes may be held, the input stands for a document that leaves room for so many more, and for nothing else
pub record Stands (limit : ℕ) (x : List ℕ) (left : ℕ) : Type 0 where
  pub shape : Shape
  pub spelled : Spells x shape
  pub few : suc (size shape) ≤ limit
  pub short : longest shape ≤ content_limit
  pub fits : loadable node_limit (document shape) ≡ true
  pub nodes : left + length (lines (document shape)) ≡ limit
  pub only : (i : Input) → ReadsWithin limit x i → i ≡ stands_for (document shape) fits

-- the input is refused by this cause at this offset
pub record Fails (limit : ℕ) (x : List ℕ) (cause offset : ℕ) : Type 0 where
  pub most : offset ≤ input_limit
  pub only : (i : Input) → ReadsWithin limit x i → i ≡ unreadable cause offset

-- the header is as it was, with 0 commits, and the nodes are those of the input's document
pub record Replaced (x s s' : List ℕ) : Type 0 where
  pub layout : Layout s'
  pub long : length s' ≡ length s
  pub behind : drop state_size s' ≡ drop state_size s
  pub header : header s' ≡ with_commits 0 (header s)
  pub nodes : (f : Shape) → Spells x f → nodes s' ≡ flat 0 (tree_of (document f))
