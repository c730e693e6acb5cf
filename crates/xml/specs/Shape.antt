-- Trees without node numbers: what an input spells before load numbers its nodes, and what writing takes.
use Rattle.std.specs.Prelude.{ℕ, suc, ◌+◌, max, true, List, [], length}
use Rattle.tree.specs.Forest.{Forest, nil, node, view}
use Rattle.tree.specs.Content.{document_kind, element_kind, attribute_kind, text_kind}
use Rattle.tree.specs.Document.{Node, Document}

-- a node without its number
pub record Label : Type 0 where
  pub kind : ℕ
  pub content : List ℕ

abbrev pub Shape : Type 0
Shape = Forest Label

abbrev pub element : List ℕ → Label
element n = record { kind = element_kind; content = n }

abbrev pub attribute : List ℕ → Label
attribute n = record { kind = attribute_kind; content = n }

abbrev pub text : List ℕ → Label
text c = record { kind = text_kind; content = c }

-- how many nodes
unfoldable pub size : Shape → ℕ
size nil = 0
size (node a ks fs) = suc (size ks + size fs)

-- the length of the longest content
unfoldable pub longest : Shape → ℕ
longest nil = 0
longest (node a ks fs) = max (length a.content) (max (longest ks) (longest fs))

-- the nodes numbered in document order from i
unfoldable pub numbered : ℕ → Shape → Document
numbered i nil = nil
numbered i (node a ks fs) =
    node (record { number = i; kind = a.kind; content = a.content }) (numbered (suc i) ks) (numbered (suc i + size ks) fs)

-- with the document node above: "load numbers nodes in document order from 0"
abbrev pub document : Shape → Document
document f = numbered 0 (node (record { kind = document_kind; content = [] }) f nil)

abbrev pub unnumbered : Node → Label
unnumbered a = record { kind = a.kind; content = a.content }

-- the tree but for its node numbers
unfoldable pub shape : Document → Shape
shape d = view (λ a. true) unnumbered d
