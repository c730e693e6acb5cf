-- The check of the rows, turn by turn, and the check as a whole.
use Rattle.std.specs.Prelude.{◌≡◌, refl, ℕ, suc, ◌+◌, ◌≤◌, ◌<◌, Bool, true, false, ◌&&◌, get_or, drop, eqb, leb}
use Rattle.std.proofs.Common.{sym, ap₂, ◌∙◌, arith, drop_of_length-le}
use Rattle.std.proofs.Math.Bool.{and-false}
use mathlib.Core.List.{List, [], ◌∷◌, map}
use Rattle.std.proofs.Math.Numerals.{add-one}
use Rattle.std.proofs.Math.ListN.{length}
use Rattle.std.proofs.Math.Seq.{drop-cons}
use Rattle.std.proofs.Math.Dec.{ltb}
use borrow.Author.Tests.{le-leb, lt-leb, leb-true, ltb-true, eq-eqb, ne_eqb}
use Rattle.tree.specs.Lists.{every, distinct, same}
use Rattle.tree.specs.Content.{document_kind, element_kind, text_kind, between}
use Rattle.tree.specs.Laws.Tests.{and_left, and_right}
use Rattle.locks.specs.Modes.{no_mode}
use Rattle.protocol.specs.State.{nobody}
use Rattle.protocol.specs.Calls.{node_limit}
use Rattle.table.specs.Layout.{state_size, format_mark, entry_at, word, part, count, slot, depth, number, cell, held, decode, Entry, entry}
use Rattle.table.specs.Layout.{tabulate, nodes, header, no_entry}
use Rattle.table.specs.Laws.Lists.{length_tabulate, get_d_tabulate, map_tabulate}
use Rattle.table.specs.Laws.Nodes.{length_nodes, node_at}
use Rattle.rows.specs.Places.{number_of, unique}
use Rattle.form.specs.Form.{in_range, valid, valid_document, valid_below, valid_rows, slots, cells, sizes_in_range, apart}
use Rattle.form.specs.Form.{sets_open, form}
use Rattle.form.specs.Check.{valid_header, cell_in_range, valid_first, valid_nodes, Outlined}
use Rattle.form.specs.Laws.Rows.{between_of, between_low, between_high}
use Rattle.form.specs.Laws.Holds.{every_tabulate}

-- lists ------------------------------------------------------------------------------------------

-- the sizes and rows from a place on
unfoldable pub valid_from : ℕ → List (List ℕ) → List Entry → Bool
valid_from before cs es = every sizes_in_range cs && valid_below before es

swap_and : (a b c d e : Bool) → ((a && b) && ((c && d) && e)) ≡ (c && ((d && a) && (b && e)))
swap_and true b true true e = refl
swap_and true b true false e = and-false b
swap_and true b false d e = and-false b
swap_and false b true true e = refl
swap_and false b true false e = refl
swap_and false b false d e = refl

from_cons : (before : ℕ) (c : List ℕ) (cs : List (List ℕ)) (x : Entry) (es : List Entry)
    → valid_from before (c ∷ cs) (x ∷ es) ≡ (between 1 (suc before) x.0 &&
    ((valid x.1 && sizes_in_range c) && valid_from x.0 cs es))
unfolding valid_from valid_below
from_cons before c cs x es =
    swap_and (sizes_in_range c) (every sizes_in_range cs) (between 1 (suc before) x.0) (valid x.1) (valid_below x.0 es)

-- the cell says all of the node that the test asks
cell_is_in_range : (low high most n : ℕ) (c : List ℕ) (h : ℕ → _)
    → in_range low high most (decode n c h) ≡ in_range low high most (decode 0 c (λ t. no_mode))
unfolding in_range decode
cell_is_in_range low high most n c h = refl

node_in_range : (s : List ℕ) (i : ℕ) → (valid (entry s i).1 && sizes_in_range (cell s (slot s i)))
    ≡ cell_in_range element_kind text_kind 16 (cell s (slot s i))
unfolding valid entry cell_in_range
node_in_range s i = rw (cell_is_in_range element_kind text_kind 16 (number s i) (cell s (slot s i)) _)

length_cells : (s : List ℕ) → length (cells s) ≡ count s
unfolding cells
length_cells s = length_tabulate (count s) (λ i. cell s (slot s i))

cell_is : (s : List ℕ) (i : ℕ) → i < count s → get_or (cells s) i [] ≡ cell s (slot s i)
unfolding cells
cell_is s i h = get_d_tabulate (count s) (λ i. cell s (slot s i)) i [] h

-- the loop over the rows -----------------------------------------------------------------------------

module _ (s : List ℕ) (before i : ℕ) where
  rows_turn : i < count s
      → valid_from before (drop i (cells s)) (drop i (nodes s))
      ≡ (between 1 (suc before) (depth s i) &&
      (cell_in_range element_kind text_kind 16 (cell s (slot s i)) && valid_from (depth s i) (drop (i + 1) (cells s))
      (drop (i + 1) (nodes s))))
  unfolding entry
  rows_turn h =
      let a : i < length (cells s) = omega (arith, length_cells s) in
      let b : i < length (nodes s) = omega (arith, length_nodes s) in
      rw (
        drop-cons (cells s) i [] a,
        drop-cons (nodes s) i no_entry b,
        cell_is s i h,
        node_at s i h,
        from_cons before (cell s (slot s i)) (drop (suc i) (cells s)) (entry s i) (drop (suc i) (nodes s)),
        add-one i,
      )
      (rw (node_in_range s i))

  module _ (d : ℕ) (v : valid_nodes s ≡ valid_from before (drop i (cells s)) (drop i (nodes s))) (h : i < count s)
      (q : d ≡ word s (entry_at i + 2)) where
    e : d ≡ depth s i
    unfolding depth
    e = q

    pub rows_low : d < 1 → false ≡ valid_nodes s
    rows_low l = sym (v ∙ rows_turn h ∙ rw (← e, lt-leb 1 d l))

    pub rows_high : 1 ≤ d → before + 1 < d → false ≡ valid_nodes s
    rows_high l m = sym (v ∙ rows_turn h ∙ rw (← e, le-leb 1 d l, lt-leb d (suc before) (omega arith)))

    module _ (k : ℕ) (g : k ≡ word s (entry_at i)) (l : 1 ≤ d) (m : d ≤ before + 1) where
      f : k ≡ slot s i
      unfolding slot
      f = g

      pub rows_bad : cell_in_range element_kind text_kind 16 (cell s k) ≡ false → false ≡ valid_nodes s
      rows_bad n = sym (v ∙ rows_turn h ∙ rw (← e, ← f, between_of 1 (suc before) d l (omega arith), n))

      pub rows_next : cell_in_range element_kind text_kind 16 (cell s k) ≡ true
          → valid_nodes s ≡ valid_from d (drop (i + 1) (cells s)) (drop (i + 1) (nodes s))
      rows_next n = v ∙ rows_turn h ∙ rw (← e, ← f, between_of 1 (suc before) d l (omega arith), n)

pub rows_end : (s : List ℕ) (before i : ℕ) → valid_nodes s ≡ valid_from before (drop i (cells s)) (drop i (nodes s)) → count s ≤ i
    → true ≡ valid_nodes s
unfolding valid_from valid_below
rows_end s before i v h =
    let a : length (cells s) ≤ i = omega (arith, length_cells s) in
    let b : length (nodes s) ≤ i = omega (arith, length_nodes s) in
    sym (v ∙ rw (drop_of_length-le (cells s) a, drop_of_length-le (nodes s) b))

-- the first row ----------------------------------------------------------------------------------------

first_swap : (a b c d e f : Bool) → ((a && b) && ((c && (d && e)) && f)) ≡ ((c && (e && (d && a))) && (b && f))
first_swap a b false d e f = and-false (a && b)
first_swap a b true false true f = and-false (a && b)
first_swap a b true false false f = and-false (a && b)
first_swap a b true true false f = and-false (a && b)
first_swap true b true true true f = refl
first_swap false b true true true f = refl

cell_number : (s : List ℕ) → (decode (number s 0) (cell s (slot s 0)) (held s (slot s 0))).now.number ≡ number s 0
unfolding decode
cell_number s = refl

first_is : (s : List ℕ) → 1 ≤ count s → valid_nodes s ≡ (valid_first s && valid_from 0 (drop 1 (cells s)) (drop 1 (nodes s)))
unfolding valid_nodes valid_rows valid_first valid_document cell_in_range valid_from entry
first_is s h =
    let a : 0 < length (cells s) = omega (arith, length_cells s) in
    let b : 0 < length (nodes s) = omega (arith, length_nodes s) in
    ap₂ (λ (cs : List (List ℕ)) (es : List Entry). every sizes_in_range cs && valid_rows es) (drop-cons (cells s) 0 [] a)
    (drop-cons (nodes s) 0 no_entry b)
    ∙ rw (
      cell_is s 0 h,
      node_at s 0 h,
      cell_is_in_range document_kind document_kind nobody (number s 0) (cell s (slot s 0)) _,
      cell_number s,
    )
    (first_swap (sizes_in_range (cell s (slot s 0))) (every sizes_in_range (drop 1 (cells s))) (eqb (depth s 0) 0)
    (in_range document_kind document_kind nobody (decode 0 (cell s (slot s 0)) (λ t. no_mode))) (eqb (number s 0) 0)
    (valid_below 0 (drop 1 (nodes s))))

pub first_bad : (s : List ℕ) → 1 ≤ count s → valid_first s ≡ false → false ≡ valid_nodes s
first_bad s h e = sym (first_is s h ∙ rw e)

pub first_good : (s : List ℕ) → 1 ≤ count s → valid_first s ≡ true → valid_nodes s ≡ valid_from 0 (drop 1 (cells s)) (drop 1 (nodes s))
first_good s h e = first_is s h ∙ rw e

-- the test of the first row: d, n and k are the words that were read
module _ (s : List ℕ) (d : ℕ) (e : d ≡ word s 18) where
  pub first_deep : (d ≡ 0 → ⊥) → false ≡ valid_first s
  unfolding valid_first depth
  first_deep h = rw (← e, ne_eqb d 0 h)

  module _ (f : d ≡ 0) (n : ℕ) (g : n ≡ number s 0) where
    pub first_numbered : (n ≡ 0 → ⊥) → false ≡ valid_first s
    unfolding valid_first depth
    first_numbered h = rw (← e, eq-eqb d 0 f, ← g, ne_eqb n 0 h)

    pub first_cell : n ≡ 0 → (k : ℕ) → k ≡ word s 16 → (r : Bool) → r ≡ cell_in_range document_kind document_kind nobody (cell s k)
        → r ≡ valid_first s
    unfolding valid_first depth slot
    first_cell h k i r j = rw (← e, eq-eqb d 0 f, ← g, eq-eqb n 0 h, ← i) j

-- the whole ----------------------------------------------------------------------------------------------

-- the numbers of the nodes
numbers_are : (s : List ℕ) → map (λ x. number_of x.1) (nodes s) ≡ tabulate (count s) (number s)
unfolding nodes entry decode
numbers_are s = sym (map_tabulate (count s) (entry s) (number s) (λ x. number_of x.1) (λ j l. refl))

-- the form, in the order of the check
form_is : (s : List ℕ)
    → form s ≡ (valid_header s && (apart node_limit (slots s) && (valid_nodes s && (unique (nodes s) && sets_open (header s)))))
unfolding form valid_header valid_nodes
form_is s =
    go (leb state_size (length s) && same (part s 0 8) format_mark && between 1 node_limit (count s)) (apart node_limit (slots s))
    (every sizes_in_range (cells s)) (valid_rows (nodes s)) (unique (nodes s)) (sets_open (header s))
  where
    go : (h a z r u o : Bool) → (h && a && z && r && u && o) ≡ (h && (a && ((z && r) && (u && o))))
    go false a z r u o = refl
    go true false z r u o = refl
    go true true false r u o = refl
    go true true true false u o = refl
    go true true true true u o = refl

module _ (s : List ℕ) where
  header_parts : valid_header s ≡ true → (leb state_size (length s) ≡ true) × (between 1 node_limit (count s) ≡ true)
  unfolding valid_header
  header_parts h = (
    and_left (leb state_size (length s)) _ (and_left (leb state_size (length s) && same (part s 0 8) format_mark) _ h),
    and_right (leb state_size (length s) && same (part s 0 8) format_mark) _ h,
  )

  pub header_size : valid_header s ≡ true → state_size ≤ length s
  header_size h = leb-true state_size (length s) (header_parts h).0

  pub header_room : valid_header s ≡ true → count s ≤ 1024
  header_room h = between_high 1 node_limit (count s) (header_parts h).1

  pub outlined : valid_header s ≡ true → apart node_limit (slots s) ≡ true → Outlined s
  unfolding apart slots
  outlined h k =
      let small = and_left (every (λ k. ltb k node_limit) (slots s)) _ k in
      record {
        size = header_size h;
        some = between_low 1 node_limit (count s) (header_parts h).1;
        room = header_room h;
        slots = λ i l. ltb-true (slot s i) node_limit (every_tabulate (λ k. ltb k node_limit) node_limit (slot s) small i l);
      }

  -- the header, test by test
  pub header_short : length s < state_size → false ≡ valid_header s
  unfolding valid_header
  header_short h = rw (lt-leb state_size (length s) h)

  module _ (l : state_size ≤ length s) where
    pub header_mark : same (part s 0 8) format_mark ≡ false → false ≡ valid_header s
    unfolding valid_header
    header_mark h = rw (le-leb state_size (length s) l, h)

    module _ (m : same (part s 0 8) format_mark ≡ true) (n : ℕ) (e : n ≡ count s) where
      pub header_none : n < 1 → false ≡ valid_header s
      unfolding valid_header
      header_none h = rw (le-leb state_size (length s) l, m, ← e, lt-leb 1 n h)

      pub header_many : 1 ≤ n → leb n 1024 ≡ valid_header s
      unfolding valid_header
      header_many h = rw (le-leb state_size (length s) l, m, ← e, le-leb 1 n h)

  -- the check, part by part
  pub formed_header : valid_header s ≡ false → false ≡ form s
  formed_header h = sym (form_is s ∙ rw h)

  module _ (h : valid_header s ≡ true) where
    pub formed_slots : apart node_limit (slots s) ≡ false → false ≡ form s
    formed_slots k = sym (form_is s ∙ rw (h, k))

    module _ (k : apart node_limit (slots s) ≡ true) where
      pub formed_nodes : valid_nodes s ≡ false → false ≡ form s
      formed_nodes f = sym (form_is s ∙ rw (h, k, f))

      module _ (f : valid_nodes s ≡ true) (n : ℕ) (e : n ≡ count s) where
        same_numbers : unique (nodes s) ≡ distinct (tabulate n (number s))
        same_numbers = rw (numbers_are s, e)

        pub formed_numbers : distinct (tabulate n (number s)) ≡ false → false ≡ form s
        formed_numbers d = sym (form_is s ∙ rw (h, k, f, same_numbers, d))

        pub formed_sets : distinct (tabulate n (number s)) ≡ true → sets_open (header s) ≡ form s
        formed_sets d = sym (form_is s ∙ rw (h, k, f, same_numbers, d))
