-- The fields of a node, and a node with one of them changed.
use Rattle.std.specs.Prelude.{◌≡◌, ℕ, zero, suc, ◌+◌, ◌≤◌, Bool, true, false, cond, not, List, length, get_or, take, eqb}
use Rattle.tree.specs.Steps.{with_content}
use Rattle.locks.specs.Modes.{no_mode, in_word}
use Rattle.tree.specs.Document.{Node}
use Rattle.protocol.specs.State.{nobody, unwritten, writer_of, saved_of, Marked, saving}
use Rattle.protocol.specs.State.{with_now, with_update, with_inserter, with_deleter, with_held}
use Rattle.table.specs.Layout.{slot, cell, stored, update_of, nodes, Kept}
use Rattle.table.specs.Lists.{modify}
use Rattle.table.specs.Flat.{second}

-- the four bytes of a cell that stand for themselves: 0 kind, 1 writer, 2 inserter, 3 deleter
abbrev pub field : ℕ → Marked → ℕ
field o a = cond (eqb o 0) a.now.kind (cond (eqb o 1) (writer_of a.update) (cond (eqb o 2) a.inserter a.deleter))

-- storing a writer would make bytes that are not looked at the saved content: of the writers only 0 is stored alone
abbrev pub storable : ℕ → ℕ → Bool
storable zero v = true
storable (suc zero) v = eqb v nobody
storable (suc (suc o)) v = true

-- the kind as it is in the node
abbrev pub of_kind : ℕ → Node → Node
of_kind v x = record { number = x.number; kind = v; content = x.content }

abbrev pub with_field : ℕ → ℕ → Marked → Marked
with_field o v a =
    with_now (of_kind (cond (eqb o 0) v a.now.kind) a.now) (with_update (cond (eqb o 1) unwritten a.update)
    (with_inserter (cond (eqb o 2) v a.inserter) (with_deleter (cond (eqb o 3) v a.deleter) a)))

abbrev pub with_kind : ℕ → Marked → Marked
with_kind v a = with_now (of_kind v a.now) a

-- the 32 bytes that a content may take: it stands at their beginning
pub record Begins (content window : List ℕ) : Type 0 where
  pub long : length window ≡ 32
  pub first : take (length content) window ≡ content

-- the bytes of the cell of the node at place i that are its saved content if somebody wrote, and their number
unfoldable pub saved_bytes : List ℕ → ℕ → List ℕ
saved_bytes s i = stored 1 (cell s (slot s i))

unfoldable pub saved_size : List ℕ → ℕ → ℕ
saved_size s i = get_or (cell s (slot s i)) 5 0

-- the contents of a node: 0 the one now, 1 the one saved, which is there only where somebody wrote
abbrev pub has_text : ℕ → Marked → Bool
has_text zero a = true
has_text (suc zero) a = not (eqb (writer_of a.update) nobody)
has_text (suc (suc o)) a = false

abbrev pub text : ℕ → Marked → List ℕ
text o a = cond (eqb o 0) a.now.content (saved_of a.update)

abbrev pub with_text : ℕ → List ℕ → Marked → Marked
with_text o b a =
    with_now (with_content a.now (cond (eqb o 0) b a.now.content))
    (with_update (cond (eqb o 0) a.update (update_of (writer_of a.update) b)) a)

-- the content now
abbrev pub with_bytes : List ℕ → Marked → Marked
with_bytes b a = with_now (with_content a.now b) a

-- the saved content is the content now
abbrev pub restored : Marked → Marked
restored a = with_bytes (saved_of a.update) a

-- what storing b as the content o of the node at i leaves; saved bytes are looked at when a writer is stored
pub record Stored (s s' : List ℕ) (i o : ℕ) (b : List ℕ) : Type 0 where
  pub kept : Kept s s' (modify i (second (with_text o b)) (nodes s))
  pub bytes : stored o (cell s' (slot s' i)) ≡ b
  pub size : get_or (cell s' (slot s' i)) (4 + o) 0 ≤ 32

-- transaction t writes at level 0: the content now is saved, if nobody wrote before
abbrev pub marked_written : ℕ → Marked → Marked
marked_written t a = with_update (saving t 0 a.now.content a.update) a

-- transaction t holds the modes of a word
abbrev pub with_modes : ℕ → ℕ → Marked → Marked
with_modes t w a = with_held (λ u. cond (eqb u t) (in_word w) (a.held u)) a

-- nobody holds anything
abbrev pub unlocked : Marked → Marked
unlocked a = with_held (λ u. no_mode) a
