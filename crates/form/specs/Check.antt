-- What the parts of the check of the form compute.
use Rattle.std.specs.Prelude.{◌≡◌, ℕ, zero, suc, ◌+◌, ◌*◌, ◌/◌, ◌%◌, ◌≤◌, ◌<◌, Bool, true, false, cond, not, ◌&&◌, ◌||◌, List, [], ◌∷◌, length, get_or, set, eqb, leb}
use Rattle.tree.specs.Lists.{every, same}
use Rattle.tree.specs.Content.{document_kind, between}
use Rattle.locks.specs.Modes.{no_mode}
use Rattle.protocol.specs.State.{nobody, transactions, in_set}
use Rattle.protocol.specs.Calls.{node_limit}
use Rattle.table.specs.Encoding.{state_size, format_mark, part, count, slot, depth, number, cell, decode, nodes}
use Rattle.form.specs.Form.{in_range, valid_rows, cells, sizes_in_range}

-- the first sixteen bytes: length, mark and count
unfoldable pub valid_header : List ℕ → Bool
valid_header s = leb state_size (length s) && same (part s 0 8) format_mark && between 1 node_limit (count s)

-- marks, with 1 stored at the remainder of each number modulo the limit
unfoldable pub marked : List ℕ → List ℕ → List ℕ
marked met [] = met
marked met (k ∷ ks) = marked (set met (k % node_limit) 1) ks

unfoldable pub sum : List ℕ → ℕ
sum [] = 0
sum (x ∷ xs) = x + sum xs

-- a cell of such a node
unfoldable pub cell_in_range : ℕ → ℕ → ℕ → List ℕ → Bool
cell_in_range low high most c = in_range low high most (decode 0 c (λ t. no_mode)) && sizes_in_range c

-- the first row is that of the document
unfoldable pub valid_first : List ℕ → Bool
valid_first s = eqb (depth s 0) 0 && (eqb (number s 0) 0 && cell_in_range document_kind document_kind nobody (cell s (slot s 0)))

-- the sizes and the rows of all nodes
unfoldable pub valid_nodes : List ℕ → Bool
valid_nodes s = every sizes_in_range (cells s) && valid_rows (nodes s)

-- each number was not met, and is not met again
unfoldable pub fresh : (ℕ → Bool) → List ℕ → Bool
fresh old [] = true
fresh old (w ∷ ws) = cond (old w) false true && fresh (λ k. eqb k w || old k) ws

-- the bucket of a number
unfoldable pub bucket : ℕ → ℕ
bucket w = w * 2654435761 / 2097152 % 2048

-- a chain of at most n places has one of number w; f has the number of each place. Link j + 1 leads to place j, and 0 ends the chain.
unfoldable pub chained : (ℕ → ℕ) → List ℕ → ℕ → ℕ → ℕ → Bool
chained f next w zero link = false
chained f next w (suc n) zero = false
chained f next w (suc n) (suc j) = eqb w (f j) || chained f next w n (get_or next j 0)

-- numbers of places that were entered: each is in the chain of its bucket
unfoldable pub entered : (ℕ → ℕ) → List ℕ → List ℕ → ℕ → Bool
entered f heads next w = chained f next w 1024 (get_or heads (bucket w) 0)

-- links while the first i places are entered: each leads to one of them, and from a place to a smaller one
pub record Chains (i : ℕ) (heads next : List ℕ) : Type 0 where
  pub buckets : length heads ≡ 2048
  pub places : length next ≡ 1024
  pub low : (b : ℕ) → get_or heads b 0 ≤ i
  pub falls : (j : ℕ) → get_or next j 0 ≤ j

-- nobody is in the set w of t, or t and all in it are in the set `opens`, that of the open transactions
unfoldable pub set_open : ℕ → ℕ → ℕ → Bool
set_open opens t w = every (λ u. not (in_set w u) || (in_set opens t && in_set opens u)) transactions

-- bytes long enough for a state, and a slot below 1,024 in each entry of the outline
pub record Outlined (s : List ℕ) : Type 0 where
  pub size : state_size ≤ length s
  pub some : 1 ≤ count s
  pub room : count s ≤ 1024
  pub slots : (i : ℕ) → i < 1024 → slot s i < 1024
