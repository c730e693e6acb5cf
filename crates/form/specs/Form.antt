-- The form of the lent bytes (docs/STATE.md), and the state that bytes of the form hold.
use Rattle.std.specs.Prelude.{◌≡◌, ℕ, suc, Bool, true, false, not, ◌&&◌, ◌||◌, List, [], ◌∷◌, length, get_or, eqb, leb, ltb}
use Rattle.tree.specs.Lists.{every, distinct, same}
use Rattle.tree.specs.Content.{document_kind, element_kind, text_kind, content_limit, between}
use Rattle.protocol.specs.State.{nobody, transactions, Marked, Tree, Header, State, writer_of}
use Rattle.protocol.specs.Rings.{AmongOpen}
use Rattle.protocol.specs.Calls.{node_limit}
use Rattle.table.specs.Encoding.{tabulate, state_size, format_mark, part, count, slot, cell, Entry, nodes, unique, Layout, header}
use Rattle.table.specs.Flat.{flat}

-- nodes --------------------------------------------------------------------------------

-- a kind from low to high, nobody or one of sixteen transactions as the writer, and inserter and deleter at most `most`
unfoldable pub in_range : ℕ → ℕ → ℕ → Marked → Bool
in_range low high most a =
    between low high a.now.kind && (leb (writer_of a.update) 16 && (leb a.inserter most && leb a.deleter most))

-- a node below the document: element, attribute or text
unfoldable pub valid : Marked → Bool
valid a = in_range element_kind text_kind 16 a

-- the document: numbered 0, and nobody inserted or deleted it, so that no end takes it out
unfoldable pub valid_document : Marked → Bool
valid_document a = in_range document_kind document_kind nobody a && eqb a.now.number 0

-- rows -----------------------------------------------------------------------------------

-- of the rows behind one of depth `before`: each is valid, at least at depth 1 and at most one deeper than the row before it
unfoldable pub valid_below : ℕ → List Entry → Bool
valid_below before [] = true
valid_below before (x ∷ xs) = between 1 (suc before) x.0 && valid x.1 && valid_below x.0 xs

-- the document at depth 0, and all other rows below it
unfoldable pub valid_rows : List Entry → Bool
valid_rows [] = false
valid_rows (x ∷ xs) = eqb x.0 0 && valid_document x.1 && valid_below 0 xs

-- the same of a tree
unfoldable pub valid_tree : Tree → Bool
valid_tree f = valid_rows (flat 0 f)

-- bytes ------------------------------------------------------------------------------------

-- the slots of all entries of the outline, of the used ones first
unfoldable pub slots : List ℕ → List ℕ
slots s = tabulate node_limit (slot s)

-- the cells of the nodes, in document order
unfoldable pub cells : List ℕ → List (List ℕ)
cells s = tabulate (count s) (λ i. cell s (slot s i))

-- the sizes of a cell are those of contents; a content is saved only where somebody wrote
unfoldable pub sizes_in_range : List ℕ → Bool
sizes_in_range c = leb (get_or c 4 0) content_limit && (eqb (get_or c 1 0) nobody || leb (get_or c 5 0) content_limit)

-- each number below the limit, and no two alike
unfoldable pub apart : ℕ → List ℕ → Bool
apart limit l = every (λ k. ltb k limit) l && distinct l

-- only open transactions have a set that is not empty, and only open ones are in it (`AmongOpen`)
unfoldable pub sets_open : Header → Bool
sets_open h = every (λ t. every (λ u. not (h.remembered t u) || (h.is_open t && h.is_open u)) transactions) transactions

-- long enough, the format mark, 1 to 1,024 nodes, slots that are a permutation of 0 to 1,023, sizes in range, rows of a tree, no two of
-- one number, and wait sets of open transactions
unfoldable pub form : List ℕ → Bool
form s =
    leb state_size (length s) && same (part s 0 8) format_mark && between 1 node_limit (count s)
    && apart node_limit (slots s) && every sizes_in_range (cells s) && valid_rows (nodes s) && unique (nodes s)
    && sets_open (header s)

-- states -------------------------------------------------------------------------------------

-- the bytes hold the state M
pub record Holds (s : List ℕ) (M : State) : Type 0 where
  pub layout : Layout s
  pub header : header s ≡ M.header
  pub rows : nodes s ≡ flat 0 M.tree
  pub unique : unique (nodes s) ≡ true
  pub valid : valid_tree M.tree ≡ true
  pub sets : AmongOpen M.header
