-- The engine's state: the open transactions, and the tree of all nodes held, each with its marks; documents are views of it.
use Rattle.std.specs.Prelude.{ℕ, suc, ◌-◌, Bool, true, false, cond, not, ◌&&◌, ◌||◌, List, [], ◌∷◌, map, eqb, leb}
use Rattle.tree.specs.Lists.{any, every}
use Rattle.tree.specs.Forest.{Forest, Row, rows, amend, view, put}
use Rattle.tree.specs.Content.{between}
use Rattle.tree.specs.Document.{Node, Document, node_0_alone}
use Rattle.tree.specs.Steps.{Step, T, C, R, U, D, I, TT, RR, UU, is_named, with_content}
use Rattle.tree.specs.Counts.{CountedDocument}
use Rattle.locks.specs.Modes.{ModeSet, no_mode, union, among, bit}
use Rattle.locks.specs.Needs.{Lock}
pub use Rattle.protocol.specs.Marked.{nobody, Saved, Update, unwritten, wrote, writer_of, level_of, saved_of, Marked}
pub use Rattle.protocol.specs.Marked.{with_now, with_update, with_inserter, with_insertion_level, with_deleter, with_deletion_level}
pub use Rattle.protocol.specs.Marked.{with_held, with_count}

-- transaction numbers are 1 to 16
abbrev pub is_transaction : ℕ → Bool
is_transaction t = between 1 16 t

abbrev pub transactions : List ℕ
transactions = 1 ∷ 2 ∷ 3 ∷ 4 ∷ 5 ∷ 6 ∷ 7 ∷ 8 ∷ 9 ∷ 10 ∷ 11 ∷ 12 ∷ 13 ∷ 14 ∷ 15 ∷ 16 ∷ []

abbrev pub Tree : Type 0
Tree = Forest Marked

-- a set of transactions as a word: "bit t-1 for each such transaction t"
abbrev pub in_set : ℕ → ℕ → Bool
in_set w t = cond (is_transaction t) (bit w (t - 1)) false

-- the waits-for graph: for each transaction, the set of those that it waits for
abbrev pub WaitSets : Type 0
WaitSets = ℕ → ℕ → Bool

-- what is not per node: which transactions are open, the wait set that is remembered of each (A.6), which is empty where none is, how many
-- were committed since the last granted start or load (A.7), and how many parts of each are open (A.8)
pub record Header : Type 0 where
  pub is_open : ℕ → Bool
  pub remembered : WaitSets
  pub commits : ℕ
  pub depth : ℕ → ℕ

pub record State : Type 0 where
  pub header : Header
  pub tree : Tree

-- all nodes held, in document order
unfoldable pub nodes : Tree → List Marked
nodes f = map (λ r. r.it) (rows (λ a. a) [] f)

abbrev pub has_number : ℕ → Marked → Bool
has_number n a = eqb a.now.number n

-- a number is held by any node
abbrev pub number_held : ℕ → Tree → Bool
number_held n f = any (has_number n) (nodes f)

-- documents ------------------------------------------------------------------------

-- the caller t sees all but what it deleted, with the contents as they are now
abbrev pub seen_by : ℕ → Marked → Bool
seen_by t a = not (eqb a.deleter t)

unfoldable pub callers_document : ℕ → Tree → Document
callers_document t f = view (seen_by t) (λ a. a.now) f

-- a set of transactions and levels: for each transaction, the levels at which what it did is shown. The claims are of `all_of` and `nothing`,
-- their proofs also of the levels below an open part
abbrev pub Levels : Type 0
Levels = ℕ → ℕ → Bool

-- these transactions, at all levels
abbrev pub all_of : (ℕ → Bool) → Levels
all_of S u l = S u

-- a transaction of the set deleted the node, at a level of the set
abbrev pub deleted_in : Levels → Marked → Bool
deleted_in S a = not (eqb a.deleter nobody) && S a.deleter a.deletion_level

-- "the tree in the lent state without nodes that open transactions deleted"
unfoldable pub held_document : State → Document
held_document M = view (λ a. not (deleted_in (all_of M.header.is_open) a)) (λ a. a.now) M.tree

-- a set shows what was done in it, and nothing else of what open transactions did
abbrev pub done_by : Levels → ℕ → ℕ → Bool
done_by S u l = eqb u nobody || S u l

abbrev pub shown : Levels → Marked → Bool
shown S a = done_by S a.inserter a.insertion_level && not (deleted_in S a)

-- of a content b, those saved since, the last first, and the one saved first at level l: what the last write at one of these levels left, and
-- `saved` where none is of them; asked only for levels that have with each all lower ones, so that no write which is left out comes before
abbrev pub content_at : (ℕ → Bool) → List ℕ → List Saved → ℕ → List ℕ → List ℕ
content_at S b [] l saved = cond (S l) b saved
content_at S b (x ∷ xs) l saved = cond (S x.0) b (content_at S x.1 xs l saved)

abbrev pub content_shown : Levels → List ℕ → Update → List ℕ
content_shown S b unwritten = b
content_shown S b (wrote u l saved deeper) = content_at (S u) b deeper l saved

abbrev pub as_shown : Levels → Marked → Node
as_shown S a = with_content a.now (content_shown S a.now.content a.update)

unfoldable pub document_of : Levels → Tree → Document
document_of S f = view (shown S) (as_shown S) f

-- nothing that an open transaction did
abbrev pub nothing : Levels
nothing u l = false

-- "the one held if they all aborted"
abbrev pub committed_document : State → Document
committed_document M = document_of nothing M.tree

-- the same with the counts (A.7)
unfoldable pub committed_with_counts : State → CountedDocument
committed_with_counts M = view (shown nothing) (λ a. record { node = as_shown nothing a; count = a.count }) M.tree

-- marks ------------------------------------------------------------------------------

-- a content was saved at level d or deeper
abbrev pub saved_since : ℕ → ℕ → List Saved → Bool
saved_since d l deeper = leb d l || any (λ x. leb d x.0) deeper

-- t writes at level d over the content b, which is saved unless one was saved at this level or deeper
abbrev pub saving : ℕ → ℕ → List ℕ → Update → Update
saving t d b unwritten = wrote t d b []
saving t d b (wrote u l saved deeper) = wrote t l saved (cond (saved_since d l deeper) deeper ((d, b) ∷ deeper))

-- t wrote b at level d
abbrev pub written_by : ℕ → ℕ → List ℕ → Marked → Marked
written_by t d b a = with_update (saving t d a.now.content a.update) (with_now (with_content a.now b) a)

abbrev pub deleted_by : ℕ → ℕ → Marked → Marked
deleted_by t d a = with_deletion_level d (with_deleter t a)

abbrev pub unmarked : Node → Marked
unmarked a = record {
  now = a;
  update = unwritten;
  inserter = nobody;
  insertion_level = 0;
  deleter = nobody;
  deletion_level = 0;
  held = λ u. no_mode;
  count = 0;
}

abbrev pub inserted_by : ℕ → ℕ → Node → Marked
inserted_by t d a = with_insertion_level d (with_inserter t (unmarked a))

-- t is granted the locks that are on this node
abbrev pub modes_on : List Lock → ℕ → ModeSet
modes_on [] n = no_mode
modes_on (l ∷ ls) n = cond (eqb l.0 n) (union (among (l.1 ∷ [])) (modes_on ls n)) (modes_on ls n)

abbrev pub granted_to : ℕ → List Lock → Marked → Marked
granted_to t ls a = with_held (λ u. cond (eqb u t) (union (a.held u) (modes_on ls a.now.number)) (a.held u)) a

abbrev pub none_of : ℕ → (ℕ → ModeSet) → ℕ → ModeSet
none_of t h u = cond (eqb u t) no_mode (h u)

-- the mark u without transaction t
abbrev pub without : ℕ → ℕ → ℕ
without t u = cond (eqb u t) nobody u

-- what was written without transaction t
abbrev pub update_without : ℕ → Update → Update
update_without t u = cond (eqb (writer_of u) t) unwritten u

-- the locks of t go
abbrev pub released : ℕ → Marked → Marked
released t a = with_held (none_of t a.held) a

-- t inserted the node or updated its content
abbrev pub touched_by : ℕ → Marked → Bool
touched_by t a = eqb a.inserter t || eqb (writer_of a.update) t

-- the count after the k-th commit (A.7), that of t: k where t inserted the node or updated its content
abbrev pub count_touched : ℕ → ℕ → Marked → Marked
count_touched k t a = with_count (cond (touched_by t a) k a.count) a

-- "commit makes changes lasting"; it is the k-th
abbrev pub lasting : ℕ → ℕ → Marked → Marked
lasting k t a = released t (with_update (update_without t a.update) (with_inserter (without t a.inserter) (count_touched k t a)))

-- the content without what t wrote
abbrev pub content_without : ℕ → Marked → List ℕ
content_without t a = cond (eqb (writer_of a.update) t) (saved_of a.update) a.now.content

-- "abort removes them"
abbrev pub undone : ℕ → Marked → Marked
undone t a = released t (with_now (with_content a.now (content_without t a))
    (with_update (update_without t a.update) (with_deleter (without t a.deleter) a)))

-- parts ----------------------------------------------------------------------------------

-- t inserted the node at level d; t deleted it there
abbrev pub inserted_at : ℕ → ℕ → Marked → Bool
inserted_at t d a = eqb a.inserter t && eqb a.insertion_level d

abbrev pub deleted_at : ℕ → ℕ → Marked → Bool
deleted_at t d a = eqb a.deleter t && eqb a.deletion_level d

-- the content that was saved last, if it was at level d, otherwise the content b
abbrev pub content_undone : ℕ → List ℕ → Update → List ℕ
content_undone d b unwritten = b
content_undone d b (wrote u l saved []) = cond (eqb l d) saved b
content_undone d b (wrote u l saved (x ∷ xs)) = cond (eqb x.0 d) x.1 b

-- what is left of the saved contents: where the first was saved at level d, and none deeper, nobody wrote
abbrev pub update_undone : ℕ → Update → Update
update_undone d unwritten = unwritten
update_undone d (wrote u l saved []) = cond (eqb l d) unwritten (wrote u l saved [])
update_undone d (wrote u l saved (x ∷ xs)) = wrote u l saved (cond (eqb x.0 d) xs (x ∷ xs))

-- the writes of t at level d are taken back
abbrev pub writes_undone : ℕ → ℕ → Marked → Marked
writes_undone t d a =
    cond (eqb (writer_of a.update) t)
    (with_update (update_undone d a.update) (with_now (with_content a.now (content_undone d a.now.content a.update)) a))
    a

-- its deletions
abbrev pub deletion_undone : ℕ → ℕ → Marked → Marked
deletion_undone t d a = cond (deleted_at t d a) (with_deleter nobody a) a

-- and its insertions: "numbers inserted in an undone part stay in use until the transaction ends", so the node stays, deleted by t at
-- level 0, where no undo takes it back
abbrev pub insertion_undone : ℕ → ℕ → Marked → Marked
insertion_undone t d a = cond (inserted_at t d a) (deleted_by t 0 a) a

-- "undoing takes back exactly its own insertions, deletions and updates"; "locks remain"
abbrev pub part_undone : ℕ → ℕ → Marked → Marked
part_undone t d a = insertion_undone t d (deletion_undone t d (writes_undone t d a))

-- the level at which a content was saved last
abbrev pub last_level : ℕ → List Saved → ℕ
last_level l [] = l
last_level l (x ∷ xs) = x.0

-- contents saved at level d are saved at level d - 1, unless one was saved there before
abbrev pub update_joined : ℕ → Update → Update
update_joined d unwritten = unwritten
update_joined d (wrote u l saved []) = wrote u (cond (eqb l d) (d - 1) l) saved []
update_joined d (wrote u l saved (x ∷ xs)) =
    wrote u l saved (cond (eqb x.0 d) (cond (leb (d - 1) (last_level l xs)) xs ((d - 1, x.1) ∷ xs)) (x ∷ xs))

-- what t did at level d it did at level d - 1: close "joins it to what surrounds it"
abbrev pub part_joined : ℕ → ℕ → Marked → Marked
part_joined t d a =
    with_update (cond (eqb (writer_of a.update) t) (update_joined d a.update) a.update)
    (with_insertion_level (cond (inserted_at t d a) (d - 1) a.insertion_level)
    (with_deletion_level (cond (deleted_at t d a) (d - 1) a.deletion_level) a))

-- edits of the tree ------------------------------------------------------------------

-- each node anew, computed from the node and its proper ancestors
abbrev pub mark : (Row Marked Marked → Marked) → Tree → Tree
mark g f = amend (λ a. a) g [] f

-- the node numbered n
abbrev pub mark_node : ℕ → (Marked → Marked) → Tree → Tree
mark_node n g f = mark (λ r. cond (has_number n r.it) (g r.it) r.it) f

-- t sees it, it is in the subtree of n, and it is an element named a
abbrev pub renamed : ℕ → ℕ → List ℕ → Row Marked Marked → Bool
renamed t n a r = every (seen_by t) (r.it ∷ r.above) && any (has_number n) (r.it ∷ r.above) && is_named a r.it.now

-- what a granted step of t does at level d
abbrev pub act : ℕ → ℕ → Step → Tree → Tree
act t d (T n) f = f
act t d (C n k) f = f
act t d (R n) f = f
act t d (U n b) f = mark_node n (written_by t d b) f
act t d (D n) f = mark_node n (deleted_by t d) f
-- among siblings that t deleted, or whose insertion it undid, the place is a free choice, which no document can show: an undo that brings
-- such a sibling back takes this insertion back too. Right behind the one counted last, for k = 1 before all
act t d (I m kind b n k) f = put (has_number n) (seen_by t) k (inserted_by t d (record { number = m; kind = kind; content = b })) f
act t d (TT n) f = f
act t d (RR n) f = f
act t d (UU n a b) f = mark (λ r. cond (renamed t n a r) (written_by t d b r.it) r.it) f

unfoldable pub grant : ℕ → List Lock → Tree → Tree
grant t ls f = mark (λ r. granted_to t ls r.it) f

-- the k-th commit: what t deleted goes with all below it; the rest of what it did is everybody's; its locks go
unfoldable pub commit_tree : ℕ → ℕ → Tree → Tree
commit_tree k t f = view (seen_by t) (lasting k t) f

-- what t inserted goes with all below it; what it deleted and wrote is as before; its locks go
unfoldable pub abort_tree : ℕ → Tree → Tree
abort_tree t f = view (λ a. not (eqb a.inserter t)) (undone t) f

-- the part of t at level d is undone; it is closed
unfoldable pub undo_tree : ℕ → ℕ → Tree → Tree
undo_tree t d f = mark (λ r. part_undone t d r.it) f

unfoldable pub join_tree : ℕ → ℕ → Tree → Tree
join_tree t d f = mark (λ r. part_joined t d r.it) f

unfoldable pub tree_of : Document → Tree
tree_of d = view (λ a. true) unmarked d

-- states -----------------------------------------------------------------------------

-- a state with another header, or with another tree
abbrev pub with_header : Header → State → State
with_header h M = record { header = h; tree = M.tree }

abbrev pub with_tree : State → Tree → State
with_tree M f = record { header = M.header; tree = f }

-- a header with other open transactions, with other remembered sets, with another number of commits, or with other depths
abbrev pub with_open : (ℕ → Bool) → Header → Header
with_open f h = record { is_open = f; remembered = h.remembered; commits = h.commits; depth = h.depth }

abbrev pub with_remembered : WaitSets → Header → Header
with_remembered r h = record { is_open = h.is_open; remembered = r; commits = h.commits; depth = h.depth }

abbrev pub with_commits : ℕ → Header → Header
with_commits k h = record { is_open = h.is_open; remembered = h.remembered; commits = k; depth = h.depth }

abbrev pub with_depths : (ℕ → ℕ) → Header → Header
with_depths f h = record { is_open = h.is_open; remembered = h.remembered; commits = h.commits; depth = f }

-- d parts of t are open
abbrev pub with_depth : ℕ → ℕ → Header → Header
with_depth t d h = with_depths (λ u. cond (eqb u t) d (h.depth u)) h

-- "node 0 alone and nothing is open"
abbrev pub start_header : Header
start_header = record { is_open = λ u. false; remembered = λ u v. false; commits = 0; depth = λ u. 0 }

abbrev pub start_state : State
start_state = record { header = start_header; tree = tree_of node_0_alone }

abbrev pub opened : ℕ → State → State
opened t M = with_header (with_open (λ u. eqb u t || M.header.is_open u) M.header) M

-- waiting ------------------------------------------------------------------------------

-- the set of t is S, in place of the one before
abbrev pub with_set : ℕ → (ℕ → Bool) → WaitSets → WaitSets
with_set t S r u = cond (eqb u t) S (r u)

abbrev pub set_header : ℕ → (ℕ → Bool) → Header → Header
set_header t S h = with_remembered (with_set t S h.remembered) h

-- the set of t is remembered as S, and nothing else changes
abbrev pub remembering : ℕ → (ℕ → Bool) → State → State
remembering t S M = with_header (set_header t S M.header) M

-- t waits for nobody
abbrev pub forgetting : ℕ → State → State
forgetting t M = remembering t (λ u. false) M

-- "a transaction that ends is struck from all sets", and its own is remembered until "its end"
abbrev pub struck : ℕ → WaitSets → WaitSets
struck t r u v = not (eqb u t) && (not (eqb v t) && r u v)

abbrev pub struck_header : ℕ → Header → Header
struck_header t h = with_remembered (struck t h.remembered) h

-- the end of t: it is not open, none of its parts is, it waits for nobody, and nobody waits for it
abbrev pub ended : ℕ → Header → Header
ended t h = struck_header t (with_depth t 0 (with_open (λ u. not (eqb u t) && h.is_open u) h))

abbrev pub closed : ℕ → Tree → State → State
closed t f M = with_tree (with_header (ended t M.header) M) f

-- "commits since the last granted start or load count from 1": the count of the next
abbrev pub next_count : State → ℕ
next_count M = suc M.header.commits

-- t commits
abbrev pub committed : ℕ → State → State
committed t M = closed t (commit_tree (next_count M) t M.tree) (with_header (with_commits (next_count M) M.header) M)

-- t aborts
abbrev pub aborted : ℕ → State → State
aborted t M = closed t (abort_tree t M.tree) M

-- the document d was loaded: its nodes bear 0, and commits count from 1 again
abbrev pub with_document : Document → State → State
with_document d M = with_tree (with_header (with_commits 0 M.header) M) (tree_of d)

-- t opens a part, closes the last one open, or undoes it
abbrev pub part_opened : ℕ → State → State
part_opened t M = with_header (with_depth t (suc (M.header.depth t)) M.header) M

abbrev pub part_left : ℕ → (ℕ → ℕ → Tree → Tree) → State → State
part_left t edit M =
    with_tree (with_header (with_depth t (M.header.depth t - 1) M.header) M) (edit t (M.header.depth t) M.tree)

abbrev pub part_closed : ℕ → State → State
part_closed t M = part_left t join_tree M

abbrev pub part_taken_back : ℕ → State → State
part_taken_back t M = part_left t undo_tree M
