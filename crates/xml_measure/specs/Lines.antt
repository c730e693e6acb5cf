-- The rows of the committed document: document 01, "the one held if they all aborted".
use Rattle.std.specs.Prelude.{◌≡◌, ℕ, suc, ◌≤◌, ◌<◌, List, Option, None, Some, map, length, get_or, take}
use Rattle.protocol.specs.State.{Marked, as_shown, nothing}
use Rattle.table.specs.Flat.{second, prune}
use Rattle.table.specs.Layout.{Entry}
use Rattle.rows.specs.Places.{depth, item, is_committed}
use Rattle.xml.specs.Shape.{Label, unnumbered}
use Rattle.xml_text.specs.Rows.{Line, measured}
use Rattle.xml_measure.specs.declared.committed.Rows.{Rows}

-- a node as it is if all abort
unfoldable pub committed_label : Marked → Label
committed_label a = unnumbered (as_shown nothing a)

unfoldable pub committed_lines : List Entry → List Line
committed_lines l = map (second committed_label) (prune is_committed 0 l)

-- the node at a place
unfoldable pub label_at : List Entry → ℕ → Label
label_at l p = committed_label (item l p)

abbrev pub line_at : List Entry → ℕ → Line
line_at l p = (depth l p, label_at l p)

-- the nodes at the first n of these places
unfoldable pub lines : List Entry → List ℕ → ℕ → List Line
lines l places n = map (line_at l) (take n places)

-- each is a place of the rows
pub record Inside (l : List Entry) (places : List ℕ) (count : ℕ) : Type 0 where
  pub long : length places ≡ 1024
  pub room : count ≤ 1024
  pub inside : (j : ℕ) → j < count → get_or places j 0 < length l

pub record Selected (l : List Entry) (w : Rows) : Type 0 where
  pub inside : Inside l w.places w.count
  pub lines : lines l w.places w.count ≡ committed_lines l

-- the rows of a document: the first at depth 0, each other below it and at most one deeper than the row before it
pub record Listed (l : List Entry) (places : List ℕ) (count : ℕ) : Type 0 where
  pub long : length places ≡ 1024
  pub room : count ≤ 1024
  pub some : 1 ≤ count
  pub inside : (j : ℕ) → j < count → get_or places j 0 < length l
  pub first : depth l (get_or places 0 0) ≡ 0
  pub below : (i : ℕ) → suc i < count → 1 ≤ depth l (get_or places (suc i) 0)
  pub steps : (i : ℕ) → suc i < count → depth l (get_or places (suc i) 0) ≤ suc (depth l (get_or places i 0))

-- the length of what is written for these rows, if they can be written: then it is at most 65,536
pub data Measured (rows : List Line) : Option ℕ → Type 0 where
  is_none : measured rows ≡ 0 → Measured rows None
  is_length : {n : ℕ} → n ≡ measured rows → 1 ≤ n → n ≤ 65536 → Measured rows (Some n)
