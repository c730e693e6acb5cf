-- Writing: document 01, "Reading and writing XML", and document 02, A.3. Numbers are not written, so this is about shapes.
use Rattle.std.specs.Prelude.{◌≡◌, ℕ, Bool, true, false, cond, not, ◌&&◌, ◌||◌, List, [], ◌∷◌, ◌++◌, length, eqb, leb}
use Rattle.tree.specs.Text.{bytes}
use Rattle.tree.specs.Forest.{nil, node}
use Rattle.tree.specs.Content.{element_kind, attribute_kind, text_kind}
use Rattle.tree.specs.Document.{Document}
use Rattle.xml.specs.Bytes.{tab, line_feed, quotation_mark, ampersand, less_than, greater_than, amp, gt, lt, quot, tab_reference}
use Rattle.xml.specs.Bytes.{line_feed_reference, used, long_declaration}
use Rattle.protocol.specs.Calls.{loadable, stands_for, node_limit}
use Rattle.xml.specs.Shape.{Label, Shape, shape, document}
use Rattle.xml.specs.Reading.{input_limit, ReadsAs}

-- "&amp; &lt; &gt; &quot; in texts and values"; A.3: "Writing uses them for those bytes in values", as read back a literal tab or line
-- feed would be a space
abbrev pub escape : (in_value : Bool) → ℕ → List ℕ
escape in_value b =
    cond (eqb b ampersand) (ampersand ∷ amp)
    (cond (eqb b less_than) (ampersand ∷ lt)
    (cond (eqb b greater_than) (ampersand ∷ gt)
    (cond (eqb b quotation_mark) (ampersand ∷ quot)
    (cond (in_value && eqb b tab) (ampersand ∷ tab_reference)
    (cond (in_value && eqb b line_feed) (ampersand ∷ line_feed_reference) (b ∷ []))))))

unfoldable pub escaped : (in_value : Bool) → List ℕ → List ℕ
escaped in_value [] = []
escaped in_value (b ∷ c) = escape in_value b ++ escaped in_value c

abbrev pub is_element : Label → Bool
is_element a = eqb a.kind element_kind

abbrev pub is_attribute : Label → Bool
is_attribute a = eqb a.kind attribute_kind

abbrev pub is_text_node : Label → Bool
is_text_node a = eqb a.kind text_kind

-- the value of an attribute with these children
abbrev pub value : Shape → List ℕ
value nil = []
value (node a ks fs) = escaped true a.content

-- the attributes among the children, for the start tag
unfoldable pub attributes : Shape → List ℕ
attributes nil = []
attributes (node a ks fs) =
    cond (is_attribute a) (bytes " " ++ (a.content ++ (bytes "=\"" ++ (value ks ++ (bytes "\"" ++ attributes fs))))) (attributes fs)

-- "childless elements (attributes aside)"
abbrev pub childless : Shape → Bool
childless nil = true
childless (node a ks fs) = is_attribute a && childless fs

-- the elements and texts among the children
unfoldable pub contents : Shape → List ℕ
contents nil = []
contents (node a ks fs) =
    cond (is_element a)
    (bytes "<" ++ (a.content ++ (attributes ks ++
    (cond (childless ks) (bytes "/>") (bytes ">" ++ (contents ks ++ (bytes "</" ++ (a.content ++ bytes ">")))) ++ contents fs))))
    (cond (is_text_node a) (escaped false a.content ++ contents fs) (contents fs))

-- the children of the topmost node
abbrev pub below : Shape → Shape
below nil = nil
below (node a ks fs) = ks

-- "the longer declaration, one byte 10, the tree without added blanks"
unfoldable pub write : Document → List ℕ
write d = long_declaration ++ (line_feed ∷ contents (below (shape d)))

-- not expressible ----------------------------------------------------------------

-- "no root"
abbrev pub no_root : Shape → Bool
no_root nil = true
no_root (node a ks fs) = false

-- "two attributes of one element with one name": among these children, `seen` being the names so far, or further below
unfoldable pub repeats : List (List ℕ) → Shape → Bool
repeats seen nil = false
repeats seen (node a ks fs) =
    cond (is_attribute a) (used seen a.content || repeats (a.content ∷ seen) fs) (repeats [] ks || repeats seen fs)

abbrev pub begins_with_text : Shape → Bool
begins_with_text nil = false
begins_with_text (node a ks fs) = is_text_node a

-- "two neighbouring texts"
unfoldable pub neighbouring_texts : Shape → Bool
neighbouring_texts nil = false
neighbouring_texts (node a ks fs) = (is_text_node a && begins_with_text fs) || neighbouring_texts ks || neighbouring_texts fs

-- "not expressible: no root, two attributes of one element with one name, two neighbouring texts, more than 65,536 bytes in all"
unfoldable pub expressible : Document → Bool
expressible d =
    not (no_root (below (shape d))) && not (repeats [] (below (shape d))) && not (neighbouring_texts (below (shape d))) &&
    leb (length (write d)) input_limit

-- reading back -------------------------------------------------------------------

-- numbered anew in document order
abbrev pub renumbered : Document → Document
renumbered d = document (below (shape d))

-- "reading back what was written gives the same tree but for node numbers"
pub record ReadBack (d : Document) : Type 0 where
  pub same_tree : shape (renumbered d) ≡ shape d
  pub is_loadable : loadable node_limit (renumbered d) ≡ true
  pub reads : ReadsAs (write d) (stands_for (renumbered d) is_loadable)
