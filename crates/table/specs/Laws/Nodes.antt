-- What a change of the bytes leaves: one law for all changes, and its cases for the outline, the cells and the lock words.
use Rattle.std.specs.Prelude.{◌≡◌, refl, ℕ, ◌+◌, ◌≤◌, ◌<◌, Bool, List, length, get_or}
use Rattle.std.proofs.Common.{sym, ◌∙◌, arith, eqb-true}
use Rattle.std.proofs.Math.Path.{ap, fun_ext}
use Rattle.std.proofs.Math.Bool.{true, false}
use Rattle.std.proofs.Math.Dec.{eqb}
use Rattle.std.proofs.lemmas.Bool.{eqb-false}
use Rattle.locks.specs.Modes.{ModeSet}
use Rattle.protocol.specs.State.{in_set, WaitSets, Marked, Header}
use Rattle.table.specs.Lists.{modify}
use Rattle.table.specs.Layout.{tabulate, state_size, open_at, count_at, commits_at, entry_at, cell_size, cell_at, lock_at, count}
use Rattle.table.specs.Layout.{slot, depth, number, cell, set_at, is_open, remembered, commits, header, held, decode, Entry, entry}
use Rattle.table.specs.Layout.{nodes, no_entry, Sized, Layout, Left, Kept}
use Rattle.table.specs.Flat.{second}
use Rattle.table.specs.Laws.Lists.{length_tabulate, get_d_tabulate, tabulate_same, modify_tabulate}
use Rattle.table.specs.Laws.Bytes.{Only, word_off, double_word_off, part_off, drop_high, length_part}
use Rattle.table.specs.Laws.Kept.{kept_left}

pub length_nodes : (s : List ℕ) → length (nodes s) ≡ count s
unfolding nodes
length_nodes s = length_tabulate (count s) (entry s)

-- the node at a place
pub node_at : (s : List ℕ) (i : ℕ) → i < count s → get_or (nodes s) i no_entry ≡ entry s i
unfolding nodes
node_at s i h = get_d_tabulate (count s) (entry s) i no_entry h

pub length_cell : (s : List ℕ) (k : ℕ) → state_size ≤ length s → k < 1024 → length (cell s k) ≡ cell_size
unfolding cell
length_cell s k h l = length_part s (cell_at k) cell_size (omega arith)

-- the entry of the outline at place i
pub record Placed (s : List ℕ) (i k d n : ℕ) : Type 0 where
  pub slot : slot s i ≡ k
  pub depth : depth s i ≡ d
  pub number : number s i ≡ n

-- that at place i of s' is that at place j of s
abbrev pub Copy : List ℕ → ℕ → List ℕ → ℕ → Type 0
Copy s j s' i = Placed s' i (slot s j) (depth s j) (number s j)

pub placed_as : {s : List ℕ} {i k k' d d' n n' : ℕ} → Placed s i k d n → k ≡ k' → d ≡ d' → n ≡ n' → Placed s i k' d' n'
placed_as e a b c = record { slot = e.slot ∙ a; depth = e.depth ∙ b; number = e.number ∙ c }

-- an entry that was copied
pub placed_then : {s s' : List ℕ} {i j k d n : ℕ} → Placed s j k d n → Copy s j s' i → Placed s' i k d n
placed_then a b = placed_as b a.slot a.depth a.number

-- the header by its fields
pub header_is : (s : List ℕ) {f : ℕ → Bool} {r : WaitSets} {k : ℕ} → is_open s ≡ f → remembered s ≡ r → commits s ≡ k → header s
    ≡ record { is_open = f; remembered = r; commits = k; depth = λ t. 0 }
header_is s e d c = rw (e, d, c)

-- what a change outside of a region leaves there --------------------------------------------

module _ {k n : ℕ} {s s' : List ℕ} (o : Only k n s s') where
  -- the header, field by field
  pub same_open : (k < count_at → k + n ≤ open_at) → is_open s' ≡ is_open s
  unfolding is_open
  same_open h = ap in_set (word_off o open_at (λ z. h (omega arith)))

  pub same_remembered : k + n ≤ set_at 1 → remembered s' ≡ remembered s
  unfolding remembered
  same_remembered h = fun_ext (λ t. fun_ext (λ u. rw (word_off o (set_at t) (λ z. omega arith))))

  pub same_commits : (k < entry_at 0 → k + n ≤ commits_at) → commits s' ≡ commits s
  unfolding commits
  same_commits h = double_word_off o commits_at h

  pub same_header : count_at ≤ k → (k < entry_at 0 → k + n ≤ commits_at) → k + n ≤ set_at 1 → header s' ≡ header s
  same_header low beside high = header_is s' (same_open (λ z. omega arith)) (same_remembered high) (same_commits beside)

  pub same_count : (k < commits_at → k + n ≤ count_at) → count s' ≡ count s
  unfolding count
  same_count h = word_off o count_at (λ z. h (omega arith))

  pub same_place : (i : ℕ) → (k < entry_at i + 8 → k + n ≤ entry_at i) → Copy s i s' i
  unfolding slot depth number
  same_place i h = record {
    slot = word_off o (entry_at i) (λ z. h (omega arith));
    depth = word_off o (entry_at i + 2) (λ z. let w = h (omega arith) in omega arith);
    number = double_word_off o (entry_at i + 4) (λ z. let w = h (omega arith) in omega arith);
  }

  pub same_cell : (j : ℕ) → (k < cell_at j + cell_size → k + n ≤ cell_at j) → cell s' j ≡ cell s j
  unfolding cell
  same_cell j h = part_off o (cell_at j) cell_size h

  pub same_held : k + n ≤ lock_at 1 0 → (j : ℕ) → held s' j ≡ held s j
  unfolding held
  same_held h j = fun_ext (λ t. rw (word_off o (lock_at t j) (λ z. omega arith)))

-- THE LAW of all changes: behind the format mark, inside the state. Each place of the outline has the slot of some place of s, no two the
-- same: `back` says where the slot of a place of s went
pub left_of : {k n : ℕ} {s s' : List ℕ} → Only k n s s' → 8 ≤ k → k + n ≤ state_size → Layout s →
    (m : ℕ) → count s' ≡ m → 1 ≤ m → m ≤ 1024 → (back : ℕ → ℕ) →
    ((i : ℕ) → i < 1024 → (j : ℕ) × (j < 1024) × (slot s' i ≡ slot s j) × (back j ≡ i)) →
    ((i : ℕ) → i < m → Sized (cell s' (slot s' i))) →
    {h : Header} → header s' ≡ h → {ns : List Entry} → tabulate m (entry s') ≡ ns → Left s s' h ns
unfolding nodes
left_of {k} {n} {s} {s'} o low high l m c a b back from z e q =
    record {
      layout = record {
        size = rw o.long l.size;
        mark = part_off o 0 8 (λ x. omega arith) ∙ l.mark;
        some = rw c a;
        room = rw c b;
        many = length_nodes s';
        slots = λ i x. let f = from i x in rw f.2 (l.slots f.0 f.1);
        apart = λ i j x y v. let f = from i x in let g = from j y in
            sym f.3 ∙ ap back (l.apart f.0 g.0 f.1 g.1 (sym f.2 ∙ v ∙ g.2)) ∙ g.3;
        sizes = λ i x. z i (rw c at x);
      };
      long = o.long;
      behind = drop_high o state_size high;
      header = e;
      nodes = rw c q;
    }

-- the count and the outline stay ------------------------------------------------------------

module _ {k n : ℕ} {s s' : List ℕ} (o : Only k n s s') (h : Layout s) (mark : 8 ≤ k) (b : k + n ≤ state_size)
    (before : k < commits_at → k + n ≤ count_at) (out : k < cell_at 0 → k + n ≤ entry_at 0) where
  kept_count : count s' ≡ count s
  kept_count = same_count o before

  kept_place : (i : ℕ) → i < 1024 → Copy s i s' i
  kept_place i l = same_place o i (λ x. let w = out (omega arith) in omega arith)

  entry_as : (i : ℕ) → i < 1024 → entry s' i ≡ (depth s i, decode (number s i) (cell s' (slot s i)) (held s' (slot s i)))
  unfolding entry
  entry_as i l = let c = kept_place i l in rw (c.slot, c.depth, c.number)

  -- the nodes by a rule
  pub left_all : {q : Header} → header s' ≡ q → (ns : List Entry) → tabulate (count s) (entry s') ≡ ns
      → ((j : ℕ) → j < count s → Sized (cell s' (slot s j))) → Left s s' q ns
  left_all e ns f z =
      let m : count s ≤ 1024 = h.room in
      left_of o mark b h (count s) kept_count h.some m (λ i. i) (λ i l. (i, l, (kept_place i l).slot, refl))
      (λ i l. rw (kept_place i (omega arith)).slot (z i l)) e f

  -- the same nodes
  pub left_none : {q : Header} → header s' ≡ q
      → ((j : ℕ) → j < count s → (cell s' (slot s j) ≡ cell s (slot s j)) × (held s' (slot s j) ≡ held s (slot s j)))
      → Left s s' q (nodes s)
  unfolding nodes entry
  left_none e same =
      let m : count s ≤ 1024 = h.room in
      left_all e (nodes s) (tabulate_same (count s) (entry s') (entry s) (λ j x. entry_as j (omega arith) ∙ rw ((same j x).0, (same j x).1)))
      (λ j x. rw (same j x).0 (h.sizes j x))

-- the header stays too -------------------------------------------------------------------------

module _ {k n : ℕ} {s s' : List ℕ} (o : Only k n s s') (low : cell_at 0 ≤ k) (h : Layout s) (b : k + n ≤ set_at 1) where
  kept_all : (ns : List Entry) → tabulate (count s) (entry s') ≡ ns → ((j : ℕ) → j < count s → Sized (cell s' (slot s j))) → Kept s s' ns
  kept_all ns e z =
      kept_left (left_all o h (omega arith) (omega arith) (λ x. omega arith) (λ x. omega arith)
      (same_header o (omega arith) (λ x. omega arith) b) ns e z)
      (length_nodes s' ∙ same_count o (λ x. omega arith) ∙ sym (length_nodes s))

  nodes_as : (i : ℕ) → i < count s → entry s' i ≡ (depth s i, decode (number s i) (cell s' (slot s i)) (held s' (slot s i)))
  nodes_as i l =
      let m : count s ≤ 1024 = h.room in
      entry_as o h (omega arith) (omega arith) (λ x. omega arith) (λ x. omega arith) i (omega arith)

  -- one node changed
  pub kept_of :
      (i : ℕ) → i < count s → (g : Marked → Marked) →
      decode (number s i) (cell s' (slot s i)) (held s' (slot s i)) ≡ g (decode (number s i) (cell s (slot s i)) (held s (slot s i))) →
      ((j : ℕ) → j < count s → (j ≡ i → ⊥) → (cell s' (slot s j) ≡ cell s (slot s j)) × (held s' (slot s j) ≡ held s (slot s j))) →
      Sized (cell s' (slot s i)) → Kept s s' (modify i (second g) (nodes s))
  unfolding nodes entry
  kept_of i l g here there z =
      kept_all (modify i (second g) (nodes s))
      (modify_tabulate (count s) i (entry s) (entry s') (second g) l (nodes_as i l ∙ rw here)
      (λ j x y. nodes_as j x ∙ rw ((there j x y).0, (there j x y).1)))
      (λ j x. size_at j x (eqb j i) refl)
    where
      size_at : (j : ℕ) → j < count s → (t : Bool) → eqb j i ≡ t → Sized (cell s' (slot s j))
      size_at j x true p = rw (eqb-true j i p) z
      size_at j x false p = rw (there j x (eqb-false j i p)).0 (h.sizes j x)

-- one cell changed -----------------------------------------------------------------------------

module _ {k : ℕ} {s s' : List ℕ} (o : Only (cell_at k) cell_size s s') where
  pub other_cell : (j : ℕ) → (j ≡ k → ⊥) → cell s' j ≡ cell s j
  other_cell j ne = same_cell o j (λ z. omega (arith, ne))

  pub cell_kept :
      Layout s → (i : ℕ) → slot s i ≡ k → i < count s → (g : Marked → Marked) →
      ((m : ℕ) (h : ℕ → ModeSet) → length (cell s k) ≡ cell_size → Sized (cell s k) → decode m (cell s' k) h ≡ g (decode m (cell s k) h)) →
      (Sized (cell s k) → Sized (cell s' k)) → Kept s s' (modify i (second g) (nodes s))
  cell_kept h i e l g d z =
      let a : k < 1024 = rw e at (h.slots i (omega (arith, h.room))) in
      let y : Sized (cell s k) = rw e at (h.sizes i l) in
      let held_same = same_held o (omega arith) in
      kept_of o (omega arith) h (omega arith) i l g
      (rw (e, held_same k) (d (number s i) (held s k) (length_cell s k h.size a) y))
      (λ j x ne. (
        other_cell (slot s j) (λ q. ne (h.apart j i (omega (arith, h.room)) (omega (arith, h.room)) (q ∙ sym e))),
        held_same (slot s j),
      ))
      (rw e (z y))
