-- Writing by a pass over rows: the nodes of a document in document order, each with its depth, kind and content.
use Rattle.std.specs.Prelude.{ℕ, zero, suc, ◌+◌, ◌-◌, Bool, true, cond, not, ◌&&◌, ◌||◌, List, [], ◌∷◌, ◌++◌, map, length, get_or, drop, eqb, leb, ltb}
use Rattle.tree.specs.Text.{bytes}
use Rattle.tree.specs.Forest.{nil, node}
use Rattle.tree.specs.Content.{element_kind, attribute_kind, text_kind, takes}
use Rattle.xml.specs.Bytes.{line_feed, used, long_declaration}
use Rattle.xml.specs.Shape.{Label, Shape}
use Rattle.xml.specs.Reading.{input_limit}
use Rattle.xml.specs.Writing.{escaped, is_element, is_attribute}

abbrev pub Line : Type 0
Line = ℕ × Label

-- where there is none
abbrev pub no_label : Label
no_label = record { kind = 0; content = [] }

abbrev pub kinds : List Label → List ℕ
kinds es = map (λ a. a.kind) es

-- the children rule, child by child ----------------------------------------------------------

-- a child behind which the start tag of its parent is still open, by its kind; 0: there is none
abbrev pub in_start_tag : ℕ → Bool
in_start_tag previous = eqb previous 0 || eqb previous attribute_kind

-- the rule for a node of a kind below a parent of a kind, behind a sibling of kind `previous` (0: it is the first)
unfoldable pub may_stand : ℕ → ℕ → ℕ → Bool
may_stand parent previous kind =
    takes parent kind && cond (eqb parent element_kind) (not (eqb kind attribute_kind) || in_start_tag previous) (eqb previous 0)

-- every node may stand where it is, below this parent and behind this sibling; for the children of the document node this is `ordered`
-- (law ordered_document)
unfoldable pub in_order : ℕ → ℕ → Shape → Bool
in_order parent previous nil = true
in_order parent previous (node a ks fs) =
    may_stand parent previous a.kind && (in_order a.kind 0 ks && in_order parent a.kind fs)

-- the rule for one node, and no text right behind a text
unfoldable pub fits : ℕ → ℕ → ℕ → Bool
fits parent previous kind = may_stand parent previous kind && not (eqb previous text_kind && eqb kind text_kind)

-- the pieces of a text -----------------------------------------------------------------------

-- the end of the parent's start tag, before its first child that is no attribute
unfoldable pub tag_end : Label → ℕ → List ℕ
tag_end parent previous = cond (is_element parent && in_start_tag previous) (bytes ">") []

-- what stands for a node up to its children, below this parent and behind a sibling of kind `previous`; a text below an attribute is a
-- value
unfoldable pub begin : Label → ℕ → Label → List ℕ
begin parent previous a =
    cond (is_attribute a) ((bytes " " ++ a.content) ++ bytes "=\"")
    (tag_end parent previous ++ cond (is_element a) (bytes "<" ++ a.content) (escaped (is_attribute parent) a.content))

-- what stands for a node behind its children, the last of which is of kind `last` (0: there is none)
unfoldable pub end : Label → ℕ → List ℕ
end a last =
    cond (is_element a) (cond (in_start_tag last) (bytes "/>") ((bytes "</" ++ a.content) ++ bytes ">"))
    (cond (is_attribute a) (bytes "\"") [])

-- the length that a node adds: an element is taken for childless, and its first child that is no attribute adds the length of the end tag
unfoldable pub extra : Label → ℕ → ℕ
extra parent previous = cond (is_element parent && in_start_tag previous) (length parent.content + 2) 0

unfoldable pub cost : Label → ℕ → Label → ℕ
cost parent previous a =
    cond (is_attribute a) (length a.content + 4)
    (extra parent previous + cond (is_element a) (length a.content + 3) (length (escaped (is_attribute parent) a.content)))

-- a pass over rows ---------------------------------------------------------------------------

-- the ends of the m innermost open nodes; `last` is the kind of the innermost one's last child (0: there is none)
unfoldable pub ends : ℕ → List Label → ℕ → List ℕ
ends zero es last = []
ends (suc m) [] last = []
ends (suc m) (a ∷ es) last = end a last ++ ends m es a.kind

-- how many open nodes end before a row of this depth
abbrev pub ending : List Label → ℕ → ℕ
ending es d = length es - d

-- the parent of a row of this depth, and the kind of its previous sibling
abbrev pub parent_of : List Label → ℕ → Label
parent_of es d = get_or es (ending es d) no_label

abbrev pub previous_of : List Label → ℕ → ℕ → ℕ
previous_of es last d = get_or (last ∷ kinds es) (ending es d) 0

-- the open nodes behind a row
abbrev pub opened : List Label → Line → List Label
opened es x = x.1 ∷ drop (ending es x.0) es

-- what stands for rows; es are the open nodes, the innermost first
unfoldable pub emit : List Label → ℕ → List Line → List ℕ
emit es last [] = ends (length es) es last
emit es last (x ∷ xs) =
    (ends (ending es x.0) es last ++ begin (parent_of es x.0) (previous_of es last x.0) x.1) ++ emit (opened es x) 0 xs

-- the names of the attributes before one of depth d: pre are the rows before it, the nearest first
unfoldable pub names_before : ℕ → List Line → List (List ℕ)
names_before d [] = []
names_before d (x ∷ pre) =
    cond (ltb x.0 d) [] (cond (eqb x.0 d) (x.1.content ∷ names_before d pre) (names_before d pre))

-- an attribute behind one of its name
unfoldable pub repeated : List Line → Line → Bool
repeated pre x = is_attribute x.1 && used (names_before x.0 pre) x.1.content

-- the length, `sum` being that of what stands before these rows; 0 where they cannot be written
unfoldable pub judge : List Label → ℕ → List Line → ℕ → List Line → ℕ
judge es last pre sum [] = cond (leb sum input_limit) sum 0
judge es last pre sum (x ∷ xs) =
    cond (fits (parent_of es x.0).kind (previous_of es last x.0) x.1.kind)
    (cond (repeated pre x) 0
    (judge (opened es x) 0 (x ∷ pre) (sum + cost (parent_of es x.0) (previous_of es last x.0) x.1) xs))
    0

-- what stands before the root element
unfoldable pub prolog : List ℕ
prolog = long_declaration ++ (line_feed ∷ [])

-- what stands for the rows below the document's, which is the first
unfoldable pub body : List Line → List ℕ
body [] = []
body (x ∷ xs) = emit (x.1 ∷ []) 0 xs

-- what stands for the rows of a document
unfoldable pub written_rows : List Line → List ℕ
written_rows l = prolog ++ body l

-- the length of what is written, or 0 where a document is not ordered or not expressible
unfoldable pub measured : List Line → ℕ
measured [] = 0
measured (x ∷ []) = 0
measured (x ∷ (y ∷ xs)) = judge (x.1 ∷ []) 0 (x ∷ []) (length prolog) (y ∷ xs)
