-- A node held, with its marks: what open transactions did to it, and at which level.
use Rattle.std.specs.Prelude.{ℕ, List, []}
use Rattle.tree.specs.Document.{Node}
use Rattle.locks.specs.Modes.{ModeSet}

-- transaction numbers are 1 to 16; 0 stands for nobody
abbrev pub nobody : ℕ
nobody = 0

-- a transaction does what it does at a level: 0 outside of its parts, d within d open parts (A.8)

-- a content that was saved before the first write of a part, with the level of the part
abbrev pub Saved : Type 0
Saved = ℕ × List ℕ

-- what open transactions did to a node's content: nothing, or which one wrote it, the level of its first write and the content before it
-- (the committed one; where the writer itself inserted the node, the one that it inserted, which an undo may bring back), and the contents
-- saved at deeper levels since, the last first
pub data Update : Type 0 where
  unwritten : Update
  wrote : (writer level : ℕ) (saved : List ℕ) (deeper : List Saved) → Update

abbrev pub writer_of : Update → ℕ
writer_of unwritten = nobody
writer_of (wrote t l saved deeper) = t

-- these two are never asked for where nobody wrote
abbrev pub level_of : Update → ℕ
level_of unwritten = 0
level_of (wrote t l saved deeper) = l

abbrev pub saved_of : Update → List ℕ
saved_of unwritten = []
saved_of (wrote t l saved deeper) = saved

-- a node held: as it is now, what was done to its content, which open transaction inserted it and deleted it (0: none) and at which
-- level (of no meaning where none did), for each transaction the set of modes it was granted there, and the count that it bears in the
-- committed document (A.7), 0 where an open transaction inserted it
pub record Marked : Type 0 where
  pub now : Node
  pub update : Update
  pub inserter : ℕ
  pub insertion_level : ℕ
  pub deleter : ℕ
  pub deletion_level : ℕ
  pub held : ℕ → ModeSet
  pub count : ℕ

-- a node held with one field changed: all other changes are made of these, so that a further field passes through them
abbrev pub with_now : Node → Marked → Marked
with_now x a = record {
  now = x;
  update = a.update;
  inserter = a.inserter;
  insertion_level = a.insertion_level;
  deleter = a.deleter;
  deletion_level = a.deletion_level;
  held = a.held;
  count = a.count;
}

abbrev pub with_update : Update → Marked → Marked
with_update x a = record {
  now = a.now;
  update = x;
  inserter = a.inserter;
  insertion_level = a.insertion_level;
  deleter = a.deleter;
  deletion_level = a.deletion_level;
  held = a.held;
  count = a.count;
}

abbrev pub with_inserter : ℕ → Marked → Marked
with_inserter x a = record {
  now = a.now;
  update = a.update;
  inserter = x;
  insertion_level = a.insertion_level;
  deleter = a.deleter;
  deletion_level = a.deletion_level;
  held = a.held;
  count = a.count;
}

abbrev pub with_insertion_level : ℕ → Marked → Marked
with_insertion_level x a = record {
  now = a.now;
  update = a.update;
  inserter = a.inserter;
  insertion_level = x;
  deleter = a.deleter;
  deletion_level = a.deletion_level;
  held = a.held;
  count = a.count;
}

abbrev pub with_deleter : ℕ → Marked → Marked
with_deleter x a = record {
  now = a.now;
  update = a.update;
  inserter = a.inserter;
  insertion_level = a.insertion_level;
  deleter = x;
  deletion_level = a.deletion_level;
  held = a.held;
  count = a.count;
}

abbrev pub with_deletion_level : ℕ → Marked → Marked
with_deletion_level x a = record {
  now = a.now;
  update = a.update;
  inserter = a.inserter;
  insertion_level = a.insertion_level;
  deleter = a.deleter;
  deletion_level = x;
  held = a.held;
  count = a.count;
}

abbrev pub with_held : (ℕ → ModeSet) → Marked → Marked
with_held x a = record {
  now = a.now;
  update = a.update;
  inserter = a.inserter;
  insertion_level = a.insertion_level;
  deleter = a.deleter;
  deletion_level = a.deletion_level;
  held = x;
  count = a.count;
}

abbrev pub with_count : ℕ → Marked → Marked
with_count x a = record {
  now = a.now;
  update = a.update;
  inserter = a.inserter;
  insertion_level = a.insertion_level;
  deleter = a.deleter;
  deletion_level = a.deletion_level;
  held = a.held;
  count = x;
}
