-- A plain document: document 01, "The tree". Documents are equal when numbers, kinds, order, parents and contents are.
use Rattle.std.specs.Prelude.{ℕ, Bool, true, false, ◌&&◌, List, [], ◌∷◌, map, eqb}
use Rattle.tree.specs.Lists.{keep, has, leads, distinct}
use Rattle.tree.specs.Forest.{Forest, nil, node, Row, row, rows}
use Rattle.tree.specs.Content.{document_kind, allowed, children_rule}

pub record Node : Type 0 where
  pub number : ℕ
  pub kind : ℕ
  pub content : List ℕ

abbrev pub Document : Type 0
Document = Forest Node

-- at the start there is node 0 alone
unfoldable pub node_0_alone : Document
node_0_alone = node (record { number = 0; kind = document_kind; content = [] }) nil nil

-- a node of a document with the numbers of its proper ancestors, the parent first
abbrev pub Line : Type 0
Line = Row Node ℕ

unfoldable pub lines : Document → List Line
lines d = rows (λ a. a.number) [] d

-- the node numbered n; the children of n; n and all below it
abbrev pub is : ℕ → Line → Bool
is n r = eqb r.it.number n

abbrev pub child : ℕ → Line → Bool
child n r = leads n r.above

abbrev pub in_subtree : ℕ → Line → Bool
in_subtree n r = has n (r.it.number ∷ r.above)

-- in document order
unfoldable pub select : (Line → Bool) → Document → List Line
select t d = keep t (lines d)

-- where there is none, a line that no document has
abbrev pub first_line : List Line → Line
first_line [] = row (record { number = 0; kind = 0; content = [] }) []
first_line (r ∷ rs) = r

abbrev pub some? : List Line → Bool
some? [] = false
some? (r ∷ rs) = true

-- a node numbered n is there; its line
abbrev pub here : ℕ → Document → Bool
here n d = some? (select (is n) d)

abbrev pub at : ℕ → Document → Line
at n d = first_line (select (is n) d)

abbrev pub numbers : List Line → List ℕ
numbers l = map (λ r. r.it.number) l

abbrev pub kinds : List Line → List ℕ
kinds l = map (λ r. r.it.kind) l

-- the rules of the tree ------------------------------------------------------

-- the kinds of the topmost nodes, in order
abbrev pub top_kinds : Document → List ℕ
top_kinds nil = []
top_kinds (node a ks fs) = a.kind ∷ top_kinds fs

-- every node has a content that its kind allows, and children by the rule
unfoldable pub ruled : Document → Bool
ruled nil = true
ruled (node a ks fs) = allowed a.kind a.content && children_rule a.kind (top_kinds ks) && ruled ks && ruled fs

-- every node has children by the rule, whatever its content is
unfoldable pub ordered : Document → Bool
ordered nil = true
ordered (node a ks fs) = children_rule a.kind (top_kinds ks) && ordered ks && ordered fs

-- one document node, numbered 0, alone at the top
abbrev pub rooted : Document → Bool
rooted nil = false
rooted (node a ks nil) = eqb a.number 0 && eqb a.kind document_kind
rooted (node a ks (node b js fs)) = false

-- a document by the rules: no two nodes have one number
unfoldable pub legal : Document → Bool
legal d = rooted d && ruled d && distinct (numbers (lines d))
