-- Where the lent bytes hold what: docs/STATE.md.
use Rattle.std.specs.Prelude.{ℕ, zero, suc, ◌+◌, ◌*◌, ◌-◌, ◌≤◌, ◌<◌, ◌≡◌, Bool, false, cond, List, [], ◌∷◌, map, eqb, length, get_or, take, drop}
use Rattle.tree.specs.Text.{bytes}
use Rattle.tree.specs.Lists.{distinct}
use Rattle.locks.specs.Modes.{ModeSet, no_mode, in_word}
use Rattle.protocol.specs.State.{nobody, is_transaction, in_set, WaitSets, Update, unwritten, wrote, Marked, Header}

-- offsets ----------------------------------------------------------------------------

-- the bytes that a state takes; those behind are never touched
abbrev pub state_size : ℕ
state_size = 116784

-- the first eight bytes
abbrev pub format_mark : List ℕ
format_mark = bytes "NFSTATE4"

abbrev pub open_at : ℕ
open_at = 8

abbrev pub count_at : ℕ
count_at = 10

abbrev pub commits_at : ℕ
commits_at = 12

-- the outline's entry for a place in document order: slot, depth, number
abbrev pub entry_at : ℕ → ℕ
entry_at i = 16 + 8 * i

-- the cell of a slot: kind, writer, inserter, deleter, two sizes, 32 bytes of content, 32 of saved content, four of count (A.7)
abbrev pub cell_size : ℕ
cell_size = 74

abbrev pub cell_at : ℕ → ℕ
cell_at k = 8208 + cell_size * k

-- the lock word of a transaction (from 1) and a slot
abbrev pub lock_at : ℕ → ℕ → ℕ
lock_at t k = 83984 + 2048 * (t - 1) + 2 * k

-- the word of a transaction's remembered wait set
abbrev pub set_at : ℕ → ℕ
set_at t = 116752 + 2 * (t - 1)

-- what they hold -----------------------------------------------------------------------

-- sixteen bits, low byte first
unfoldable pub word : List ℕ → ℕ → ℕ
word s k = get_or s k 0 + 256 * get_or s (k + 1) 0

-- thirty-two bits, low byte first
unfoldable pub double_word : List ℕ → ℕ → ℕ
double_word s k = word s k + 65536 * word s (k + 2)

-- n bytes from k on
unfoldable pub part : List ℕ → ℕ → ℕ → List ℕ
part s k n = take n (drop k s)

unfoldable pub count : List ℕ → ℕ
count s = word s count_at

unfoldable pub slot : List ℕ → ℕ → ℕ
slot s i = word s (entry_at i)

unfoldable pub depth : List ℕ → ℕ → ℕ
depth s i = word s (entry_at i + 2)

unfoldable pub number : List ℕ → ℕ → ℕ
number s i = double_word s (entry_at i + 4)

unfoldable pub cell : List ℕ → ℕ → List ℕ
cell s k = part s (cell_at k) cell_size

-- bit t-1 for each open transaction t
unfoldable pub is_open : List ℕ → ℕ → Bool
is_open s t = in_set (word s open_at) t

-- the same for each transaction in its remembered set
unfoldable pub remembered : List ℕ → WaitSets
remembered s t u = cond (is_transaction t) (in_set (word s (set_at t)) u) false

-- how many transactions were committed since the last granted start or load
unfoldable pub commits : List ℕ → ℕ
commits s = double_word s commits_at

-- what is not per node; no part is open
abbrev pub header : List ℕ → Header
header s = record { is_open = is_open s; remembered = remembered s; commits = commits s; depth = λ t. 0 }

-- the modes that a transaction was granted on the node of a slot
unfoldable pub held : List ℕ → ℕ → ℕ → ModeSet
held s k t = cond (is_transaction t) (in_word (word s (lock_at t k))) no_mode

-- the contents in a cell's bytes: 0 the one now, 1 the one saved
abbrev pub stored : ℕ → List ℕ → List ℕ
stored o c = take (get_or c (4 + o) 0) (take 32 (drop (6 + 32 * o) c))

-- nothing written where the writer u is 0, whatever the bytes b of the saved content are; all is done at level 0
abbrev pub update_of : ℕ → List ℕ → Update
update_of u b = cond (eqb u nobody) unwritten (wrote u 0 b [])

-- a node of its number, its cell's bytes and the modes held on it
unfoldable pub decode : ℕ → List ℕ → (ℕ → ModeSet) → Marked
decode n c h = record {
  now = record { number = n; kind = get_or c 0 0; content = stored 0 c };
  update = update_of (get_or c 1 0) (stored 1 c);
  inserter = get_or c 2 0;
  insertion_level = 0;
  deleter = get_or c 3 0;
  deletion_level = 0;
  held = h;
  count = double_word c 70;
}

-- a node with its depth
abbrev pub Entry : Type 0
Entry = ℕ × Marked

unfoldable pub entry : List ℕ → ℕ → Entry
entry s i = (depth s i, decode (number s i) (cell s (slot s i)) (held s (slot s i)))

-- the first n of a rule: f 0, f 1, ..
unfoldable pub tabulate : {A : Type 0} → ℕ → (ℕ → A) → List A
tabulate zero f = []
tabulate (suc n) f = f 0 ∷ tabulate n (λ i. f (suc i))

-- all nodes held, in document order: what the other crates see of the bytes
unfoldable pub nodes : List ℕ → List Entry
nodes s = tabulate (count s) (entry s)

-- no two of them have the same number
abbrev pub unique : List Entry → Bool
unique l = distinct (map (λ x. x.1.now.number) l)

-- the layout -----------------------------------------------------------------------------

-- the sizes of a cell are those of contents; a content is saved only where somebody wrote
pub record Sized (c : List ℕ) : Type 0 where
  pub now : get_or c 4 0 ≤ 32
  pub saved : (get_or c 1 0 ≡ nobody → ⊥) → get_or c 5 0 ≤ 32

-- what every function of this crate keeps: the format mark, 1 to 1,024 nodes, an outline whose slots are a permutation, sizes in range
pub record Layout (s : List ℕ) : Type 0 where
  pub size : state_size ≤ length s
  pub mark : part s 0 8 ≡ format_mark
  pub some : 1 ≤ count s
  pub room : count s ≤ 1024
  pub many : length (nodes s) ≡ count s
  pub slots : (i : ℕ) → i < 1024 → slot s i < 1024
  pub apart : (i j : ℕ) → i < 1024 → j < 1024 → slot s i ≡ slot s j → i ≡ j
  pub sizes : (i : ℕ) → i < count s → Sized (cell s (slot s i))
