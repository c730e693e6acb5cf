-- What stands for a node and for the open nodes, as the types of the code have them.
use Rattle.std.specs.Prelude.{ℕ, suc, ◌-◌, List}
use Rattle.table.specs.Layout.{nodes}
use Rattle.xml.specs.Shape.{Label}
use Rattle.xml_text.specs.Rows.{ends}
use Rattle.xml_measure.specs.Lines.{label_at}
use Rattle.xml_measure.specs.Walk.{open_labels}
use Rattle.xml_write.specs.declared.node.Node.{Node}
use Rattle.xml_write.specs.declared.open.Open.{Open}
use Rattle.xml_write.specs.Texts.{row_text}

-- the kind and the committed content of a node
abbrev pub label_of : Node → Label
label_of n = label_at (nodes n.s.now) n.place

-- the ends of the open nodes up to depth d
abbrev pub ends_of : Open → ℕ → List ℕ
ends_of o d = ends (suc o.top - d) (open_labels (nodes o.s.now) o.path (suc o.top)) 0

-- the ends before the node at p, of depth d, and what stands for it
abbrev pub row_of : Open → ℕ → ℕ → List ℕ
row_of o d p = row_text (nodes o.s.now) o.path o.top d p
