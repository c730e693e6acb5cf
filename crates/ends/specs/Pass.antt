-- An end as two passes over the nodes, which is its specification, and what the one pass of the code leaves.
use Rattle.std.specs.Prelude.{◌≡◌, ℕ, ◌+◌, ◌≤◌, cond, List, map, length, get_or, eqb}
use Rattle.table.specs.Lists.{modify}
use Rattle.table.specs.Flat.{second, prune}
use Rattle.table.specs.Layout.{Entry, nodes, no_entry, Left, Kept, header}
use Rattle.table.specs.Outline.{next_below, exchange}
use Rattle.ends.specs.Marks.{stays, at_end, ended_marks, Closed}
use Rattle.ends.specs.declared.pass.Ending.{Ending}

-- "dropping all": the nodes without those that the end takes out, and all below them
abbrev pub dropped : Ending → ℕ → List Entry → List Entry
dropped end t l = prune (stays end t) 0 l

-- "and then releasing all": of each node what t did is lasting or undone, and t's locks go
abbrev pub released_all : Ending → ℕ → List Entry → List Entry
released_all end t l = map (second (at_end end t)) l

abbrev pub two_passes : Ending → ℕ → List Entry → List Entry
two_passes end t l = released_all end t (dropped end t l)

-- the one pass: a visit for each node, "at most 1,024 slot visits", and it leaves "what dropping all and then releasing all would"
pub record OnePass (end : Ending) (t : ℕ) (s s' : List ℕ) (visits : ℕ) : Type 0 where
  pub count : visits ≡ length (nodes s)
  pub bound : visits ≤ 1024
  pub left : Left s s' (header s) (two_passes end t (nodes s))

-- what an end of t leaves: the same, and t closed
abbrev pub Ended : Ending → ℕ → List ℕ → List ℕ → Type 0
Ended end t s s' = Closed t s s' (two_passes end t (nodes s))

-- parts of a visit ---------------------------------------------------------------------------

-- r is the least depth that is left out behind the node at j; where it is 0 the node stays, and its marks of t go
pub record IfKept (end : Ending) (t below j : ℕ) (s s' : List ℕ) (r : ℕ) : Type 0 where
  pub next : r ≡ next_below (stays end t) below (get_or (nodes s) j no_entry)
  pub kept : Kept s s' (modify j (second (λ a. cond (eqb r 0) (ended_marks end t a) a)) (nodes s))

-- where `next` is 0 places k and j are exchanged and r is k + 1; else nothing changes and r is k
pub record Moved (k j next : ℕ) (s s' : List ℕ) (r : ℕ) : Type 0 where
  pub kept : Kept s s' (cond (eqb next 0) (exchange k j (nodes s)) (nodes s))
  pub count : r ≡ cond (eqb next 0) (k + 1) k
