-- The bytes of the beginning hold the state of the beginning.
use Rattle.std.specs.Prelude.{◌≡◌, Bool, List, [], ◌∷◌, length, get_or, eqb, ltb}
use Rattle.std.proofs.Math.Path.{refl, ap, fun_ext}
use Rattle.std.proofs.Common.{sym, ◌∙◌, subst, arith, zero-add, ext_get_or, eq-eqb, ne_eqb, lt-ltb, le-ltb, ltb-true, ltb-false, le-leb}
use Prim.Native.Nat.{ℕ, ◌+◌, ◌-◌, ◌*◌, ◌/◌, ◌%◌, ◌^◌, ◌≤◌, ◌<◌}
use Rattle.std.proofs.Math.Bool.{true, false, cond}
use Rattle.std.proofs.Math.Nat.{zero-div}
use Rattle.std.proofs.lemmas.Bool.{lt-leb}
use Rattle.tree.specs.Forest.{view}
use Rattle.tree.specs.Document.{Node, node_0_alone}
use Rattle.locks.specs.Modes.{no_mode, in_word}
use Rattle.protocol.specs.State.{is_transaction, in_set, unmarked, tree_of, start_state}
use Rattle.protocol.proofs.Laws.WaitSets.{among_start}
use Rattle.table.specs.Layout.{tabulate, state_size, format_mark, commits_at, entry_at, cell_size, lock_at, set_at, word, double_word, part}
use Rattle.table.specs.Layout.{count, slot, depth, number, cell, is_open, remembered, commits, held, decode, entry, nodes, Layout}
use Rattle.table.specs.Flat.{flat}
use Rattle.table.specs.Laws.Bytes.{Filled, length_part, part_at, drop_high}
use Rattle.table.specs.Laws.Nodes.{length_nodes, header_is}
use Rattle.table.specs.Laws.Fields.{cell_byte}
use Rattle.table.specs.Laws.Locks.{no_modes}
use Rattle.protocol.proofs.Laws.Transactions.{transaction_low, transaction_high, empty_set}
use Rattle.form.specs.Form.{Holds}
use Rattle.form.specs.Start.{outline_byte, start_byte, Started}
use Rattle.form.specs.Laws.Steps.{valid_start}

-- the rule, part by part ------------------------------------------------------------------------

pub byte_mark : (j : ℕ) → j < 8 → start_byte j ≡ get_or format_mark j 0
unfolding start_byte
byte_mark j h = rw (lt-ltb j 8 h)

byte_header : (j : ℕ) → 8 ≤ j → j < 16 → start_byte j ≡ cond (eqb j 10) 1 0
unfolding start_byte
byte_header j a b = rw (le-ltb j 8 a, lt-ltb j 16 b)

pub byte_outline : (j : ℕ) → 16 ≤ j → j < 8208 → start_byte j ≡ outline_byte (j - 16)
unfolding start_byte
byte_outline j a b = rw (le-ltb j 8 (omega arith), le-ltb j 16 a, lt-ltb j 8208 b)

byte_cell : (j : ℕ) → 8208 ≤ j → start_byte j ≡ cond (eqb j 8208) 1 0
unfolding start_byte
byte_cell j a = rw (le-ltb j 8 (omega arith), le-ltb j 16 (omega arith), le-ltb j 8208 a)

pub byte_count : (j : ℕ) → j ≡ 10 → 1 ≡ start_byte j
byte_count j e = rw e (sym (byte_header 10 (omega arith) (omega arith)))

pub byte_padding : (j : ℕ) → 8 ≤ j → j < 16 → (j ≡ 10 → ⊥) → 0 ≡ start_byte j
byte_padding j a b e = sym (byte_header j a b ∙ rw (ne_eqb j 10 e))

pub byte_kind : (j : ℕ) → 8208 ≤ j → j < 8209 → 1 ≡ start_byte j
byte_kind j a b = sym (byte_cell j a ∙ rw (eq-eqb j 8208 (omega arith)))

byte_behind : (j : ℕ) → 8208 < j → start_byte j ≡ 0
byte_behind j h = byte_cell j (omega arith) ∙ rw (ne_eqb j 8208 (λ e. omega arith))

pub outline_low : (j : ℕ) → j % 8 ≡ 0 → outline_byte j ≡ j / 8 % 256
unfolding outline_byte
outline_low j h = rw h

pub outline_high : (j : ℕ) → j % 8 ≡ 1 → outline_byte j ≡ j / 8 / 256
unfolding outline_byte
outline_high j h = rw h

pub outline_zero : (j : ℕ) → (j % 8 ≡ 0 → ⊥) → (j % 8 ≡ 1 → ⊥) → outline_byte j ≡ 0
unfolding outline_byte
outline_zero j a b = rw (ne_eqb (j % 8) 0 a, ne_eqb (j % 8) 1 b)

-- what bytes by the rule hold ---------------------------------------------------------------------

module _ (s : List ℕ) (l : state_size ≤ length s) (b : (j : ℕ) → j < state_size → get_or s j 0 ≡ start_byte j) where
  word_is : (k : ℕ) → k + 1 < state_size → word s k ≡ start_byte k + 256 * start_byte (k + 1)
  unfolding word
  word_is k h = rw (b k (omega arith), b (k + 1) h)

  mark_is : part s 0 8 ≡ format_mark
  mark_is =
      ext_get_or 0 (part s 0 8) format_mark (length_part s 0 8 (omega arith))
      (λ i h. let k : i < 8 = omega (arith, length_part s 0 8 (omega arith)) in
      part_at s 0 8 i k ∙ rw (zero-add i) (b i (omega arith) ∙ byte_mark i k))

  count_is : count s ≡ 1
  unfolding count start_byte
  count_is = word_is 10 (omega arith)

  open_is : is_open s ≡ (λ t. false)
  unfolding is_open start_byte
  open_is = fun_ext (λ t. rw (word_is 8 (omega arith), zero-div (2 ^ (t - 1))) (go (is_transaction t)))
    where
      go : (x : Bool) → cond x false false ≡ false
      go true = refl
      go false = refl

  sets_are : remembered s ≡ (λ t u. false)
  unfolding remembered
  sets_are = fun_ext (λ t. fun_ext (λ u. go t u (is_transaction t) refl))
    where
      go : (t u : ℕ) (x : Bool) → is_transaction t ≡ x → cond x (in_set (word s (set_at t)) u) false ≡ false
      go t u true e =
          let a : 1 ≤ t = transaction_low t e in
          let z : t ≤ 16 = transaction_high t e in
          rw (word_is (set_at t) (omega arith), byte_behind (set_at t) (omega arith), byte_behind (set_at t + 1) (omega arith))
          (ap (λ (S : ℕ → Bool). S u) empty_set)
      go t u false e = refl

  commits_are : commits s ≡ 0
  unfolding commits double_word start_byte
  commits_are = rw (word_is commits_at (omega arith), word_is 14 (omega arith))

  slot_is : (i : ℕ) → i < 1024 → slot s i ≡ i
  unfolding slot
  slot_is i h =
      word_is (entry_at i) (omega arith)
      ∙ rw (byte_outline (entry_at i) (omega arith) (omega arith), byte_outline (entry_at i + 1) (omega arith) (omega arith))
      (rw (outline_low (16 + 8 * i - 16) (omega arith), outline_high (16 + 8 * i + 1 - 16) (omega arith)) (omega arith))

  depth_is : depth s 0 ≡ 0
  unfolding depth start_byte outline_byte
  depth_is = word_is 18 (omega arith)

  number_is : number s 0 ≡ 0
  unfolding number double_word start_byte outline_byte
  number_is = rw (word_is 20 (omega arith), word_is 22 (omega arith))

  cell_is : (o : ℕ) → o < cell_size → get_or (cell s 0) o 0 ≡ cond (eqb (8208 + o) 8208) 1 0
  cell_is o h = sym (cell_byte s 0 o h) ∙ b (8208 + o) (omega arith) ∙ byte_cell (8208 + o) (omega arith)

  count_0 : double_word (cell s 0) 70 ≡ 0
  unfolding double_word word
  count_0 = rw (cell_is 70 (omega arith), cell_is 71 (omega arith), cell_is 72 (omega arith), cell_is 73 (omega arith))

  held_is : held s 0 ≡ (λ t. no_mode)
  unfolding held
  held_is = fun_ext (λ t. go t (is_transaction t) refl)
    where
      go : (t : ℕ) (x : Bool) → is_transaction t ≡ x → cond x (in_word (word s (lock_at t 0))) no_mode ≡ no_mode
      go t true e =
          let a : 1 ≤ t = transaction_low t e in
          let z : t ≤ 16 = transaction_high t e in
          rw (word_is (lock_at t 0) (omega arith), byte_behind (lock_at t 0) (omega arith), byte_behind (lock_at t 0 + 1) (omega arith))
          no_modes
      go t false e = refl

  abbrev document : Node
  document = record { number = 0; kind = 1; content = [] }

  entry_is : entry s 0 ≡ (0, unmarked document)
  unfolding entry decode
  entry_is =
      rw (
        depth_is,
        number_is,
        slot_is 0 (omega arith),
        held_is,
        cell_is 0 (omega arith),
        cell_is 1 (omega arith),
        cell_is 2 (omega arith),
        cell_is 3 (omega arith),
        cell_is 4 (omega arith),
        count_0,
      )

  nodes_is : nodes s ≡ (0, unmarked document) ∷ []
  unfolding nodes tabulate
  nodes_is = ap (λ (n : ℕ). tabulate n (entry s)) count_is ∙ rw entry_is

  start_layout : Layout s
  start_layout = record {
    size = l;
    mark = mark_is;
    some = omega (arith, count_is);
    room = omega (arith, count_is);
    many = length_nodes s;
    slots = λ i h. rw (slot_is i h) h;
    apart = λ i j h k e. sym (slot_is i h) ∙ e ∙ slot_is j k;
    sizes = λ i h. let z : i ≡ 0 = omega (arith, count_is) in
        rw (z, slot_is 0 (omega arith)) (record {
          now = rw (cell_is 4 (omega arith)) (omega arith);
          saved = λ n. rw
              (cell_is 5 (omega arith)) (omega arith);
        });
  }

  pub start_holds : Holds s start_state
  unfolding tree_of node_0_alone view flat
  start_holds = record {
    layout = start_layout;
    header = header_is s open_is sets_are commits_are;
    rows = nodes_is;
    unique =
        rw nodes_is;
    valid = valid_start;
    sets = among_start;
  }

-- the calls ------------------------------------------------------------------------------------------

pub started_short : (s : List ℕ) → length s < state_size → Started s s false
started_short s h = record {
  answer = sym (lt-leb state_size (length s) h);
  short = λ k. refl;
  bytes = λ k. absurd (omega arith);
  holds = λ k. absurd (omega arith);
  long = refl;
  behind = refl;
}

pub started : (s s' s'' : List ℕ) → state_size ≤ length s → Filled 0 8209 start_byte s s' → Filled 8209 108575 (λ j. 0) s' s''
    → Started s s'' true
started s s' s'' h f g = record {
  answer = sym (le-leb state_size (length s) h);
  short = λ k. absurd (omega arith);
  bytes = λ k. bytes;
  holds = λ k. start_holds s'' (omega (arith, f.only.long, g.only.long)) bytes;
  long = g.only.long ∙ f.only.long;
  behind = drop_high g.only state_size (omega arith) ∙ drop_high f.only state_size (omega arith);
}
  where
    bytes : (j : ℕ) → j < state_size → get_or s'' j 0 ≡ start_byte j
    bytes j k = go (ltb j 8209) refl
      where
        go : (t : Bool) → ltb j 8209 ≡ t → get_or s'' j 0 ≡ start_byte j
        go true e =
            let a : j < 8209 = ltb-true j 8209 e in
            g.only.low j a ∙ subst (λ (m : ℕ). get_or s' m 0 ≡ start_byte j) (zero-add j) (f.bytes j a)
        go false e =
            let a : 8209 ≤ j = ltb-false j 8209 e in
            let p : 8209 + (j - 8209) ≡ j = omega arith in
            subst (λ (m : ℕ). get_or s'' m 0 ≡ 0) p (g.bytes (j - 8209) (omega arith)) ∙ sym (byte_behind j (omega arith))
