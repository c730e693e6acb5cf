-- What the functions over the lent bytes leave. Where the bytes hold what is in specs/Encoding.antt, whose names are passed on here.
use Rattle.std.specs.Prelude.{ℕ, ◌≡◌, List, [], length, drop}
use Rattle.protocol.specs.State.{unmarked, Header}
unfoldable pub use Rattle.table.specs.Encoding.{state_size, format_mark, open_at, count_at, commits_at, entry_at, cell_size, cell_at}
unfoldable pub use Rattle.table.specs.Encoding.{lock_at, set_at, word, double_word, part, count, slot, depth, number, cell, is_open}
unfoldable pub use Rattle.table.specs.Encoding.{remembered, commits, header}
unfoldable pub use Rattle.table.specs.Encoding.{held, stored, update_of, decode, Entry, entry, tabulate, nodes, unique}
pub use Rattle.table.specs.Encoding.{Sized, Layout}

-- where there is no node
abbrev pub no_entry : Entry
no_entry = (0, unmarked (record { number = 0; kind = 0; content = [] }))

-- what a change leaves: the layout, the length and the bytes behind the state as they were, this header, these nodes
pub record Left (s s' : List ℕ) (h : Header) (ns : List Entry) : Type 0 where
  pub layout : Layout s'
  pub long : length s' ≡ length s
  pub behind : drop state_size s' ≡ drop state_size s
  pub header : header s' ≡ h
  pub nodes : nodes s' ≡ ns

-- the same where as many nodes are left and the header is as it was
pub record Kept (s s' : List ℕ) (ns : List Entry) : Type 0 where
  pub layout : Layout s'
  pub long : length s' ≡ length s
  pub behind : drop state_size s' ≡ drop state_size s
  pub header : header s' ≡ header s
  pub many : length (nodes s') ≡ length (nodes s)
  pub nodes : nodes s' ≡ ns
