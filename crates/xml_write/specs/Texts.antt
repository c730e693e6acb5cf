-- Pieces of a text, as the functions of this crate group them.
use Rattle.std.specs.Prelude.{ℕ, suc, ◌-◌, cond, List, [], ◌++◌, get_or}
use Rattle.tree.specs.Text.{bytes}
use Rattle.table.specs.Layout.{Entry}
use Rattle.xml.specs.Shape.{Label}
use Rattle.xml.specs.Writing.{escaped, is_element, is_attribute}
use Rattle.xml_text.specs.Rows.{begin, ends, previous_of}
use Rattle.xml_measure.specs.Lines.{label_at}
use Rattle.xml_measure.specs.Walk.{open_labels}

-- a parent, of which only the kind counts
abbrev pub of_kind : ℕ → Label
of_kind k = record { kind = k; content = [] }

-- the beginning of an element's start tag, or a text, below this parent
unfoldable pub opening : Label → Label → List ℕ
opening parent a = cond (is_element a) (bytes "<" ++ a.content) (escaped (is_attribute parent) a.content)

-- the ends before the node at p, of depth d, and what stands for it up to its children
unfoldable pub row_text : List Entry → List ℕ → ℕ → ℕ → ℕ → List ℕ
row_text l path top d p =
    ends (suc top - d) (open_labels l path (suc top)) 0
    ++ begin (label_at l (get_or path (d - 1) 0)) (previous_of (open_labels l path (suc top)) 0 d) (label_at l p)
