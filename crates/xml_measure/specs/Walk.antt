-- A pass over the rows of a document, with the place and the kind of the last node at each depth.
use Rattle.std.specs.Prelude.{◌≡◌, ℕ, zero, suc, ◌-◌, ◌≤◌, ◌<◌, cond, List, [], ◌∷◌, length, get_or, ltb}
use Rattle.table.specs.Layout.{Entry}
use Rattle.rows.specs.Places.{depth}
use Rattle.xml.specs.Shape.{Label}
use Rattle.xml_text.specs.Rows.{Line}
use Rattle.xml_measure.specs.Lines.{label_at, line_at}

-- the n open nodes, the innermost first; `path` has their places by depth
unfoldable pub open_labels : List Entry → List ℕ → ℕ → List Label
open_labels l path zero = []
open_labels l path (suc n) = label_at l (get_or path n 0) ∷ open_labels l path n

-- the rows before the i-th, the nearest first
unfoldable pub before_lines : List Entry → List ℕ → ℕ → List Line
before_lines l places zero = []
before_lines l places (suc i) = line_at l (get_or places i 0) ∷ before_lines l places i

-- places for the depths up to top
pub record OnPath (l : List Entry) (path : List ℕ) (top : ℕ) : Type 0 where
  pub long : length path ≡ 1024
  pub deep : top < 1024
  pub inside : (j : ℕ) → j ≤ top → get_or path j 0 < length l

-- the kinds of the nodes at these places
pub record OfKinds (l : List Entry) (path kinds : List ℕ) (top : ℕ) : Type 0 where
  pub long : length kinds ≡ 1024
  pub same : (j : ℕ) → j ≤ top → get_or kinds j 0 ≡ (label_at l (get_or path j 0)).kind

-- the kind of the previous sibling of a node at depth d, 0 for none
unfoldable pub previous_kind : List ℕ → ℕ → ℕ → ℕ
previous_kind kinds top d = cond (ltb top d) 0 (get_or kinds d 0)

-- before the i-th row: top is the depth of the row before it
pub record Walk (l : List Entry) (places path kinds : List ℕ) (top i : ℕ) : Type 0 where
  pub on_path : OnPath l path top
  pub of_kinds : OfKinds l path kinds top
  pub some : 1 ≤ i
  pub high : top < i
  pub row : top ≡ depth l (get_or places (i - 1) 0)
