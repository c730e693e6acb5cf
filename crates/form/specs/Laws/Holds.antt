-- Bytes of the form hold a state, and what holds a state is of the form.
use Rattle.std.specs.Prelude.{◌≡◌, Bool, true, false, cond, not, ◌&&◌, ◌||◌, length, get_or, eqb, leb, ltb}
use Rattle.std.proofs.Math.Path.{refl, ap}
use Rattle.std.proofs.Common.{sym, ◌∙◌, le-leb, leb-true, lt-ltb, ltb-true, ne_eqb}
use Prim.Native.Nat.{ℕ, zero, suc, ◌-◌, ◌≤◌, ◌<◌}
use Rattle.std.proofs.lemmas.Bool.{false≢true, eqb-false}
use mathlib.Core.List.{List, Memᴰ}
use native.Mathlib.Omega.{arith}
use Rattle.tree.specs.Lists.{every, has, distinct, same}
use Rattle.tree.specs.Content.{between, content_limit}
use Rattle.tree.specs.Laws.Tests.{and_left, and_right}
use Rattle.tree.specs.Laws.Lists.{every_at}
use Rattle.tree.specs.Laws.Distinct.{distinct_one}
use Rattle.tree.specs.Laws.Compare.{same_equal, same_self}
use Rattle.locks.specs.Modes.{bit}
use Rattle.protocol.specs.State.{nobody, is_transaction, transactions, Header, State}
use Rattle.protocol.specs.Rings.{AmongOpen}
use Rattle.protocol.specs.Calls.{node_limit}
use Rattle.table.specs.Layout.{tabulate, state_size, format_mark, set_at, word, part, count, slot, cell, is_open, remembered, header, nodes}
use Rattle.table.specs.Layout.{Sized, Layout}
use Rattle.table.specs.Laws.Lists.{map_tabulate}
use Rattle.table.specs.Laws.Nodes.{length_nodes}
use Rattle.protocol.proofs.Laws.Transactions.{transaction_low, transaction_high}
use Rattle.rows.specs.Places.{unique}
use Rattle.form.specs.Form.{valid_rows, valid_tree, slots, cells, sizes_in_range, apart, sets_open, form, Holds}
use Rattle.form.specs.Laws.Rows.{and_of, between_of, between_low, between_high, valid_forest}

-- tests of lists that are given by a rule ---------------------------------------------------------

in_tabulate : {A : Type 0} (n : ℕ) (f : ℕ → A) (i : ℕ) → i < n → Memᴰ (f i) (tabulate n f)
unfolding tabulate
in_tabulate zero f i h = absurd (omega arith)
in_tabulate (suc n) f zero h = Memᴰ.head refl
in_tabulate (suc n) f (suc i) h = Memᴰ.tail (in_tabulate n (λ j. f (suc j)) i (omega arith))

module _ {A : Type 0} (t : A → Bool) where
  pub every_tabulate : (n : ℕ) (f : ℕ → A) → every t (tabulate n f) ≡ true → (i : ℕ) → i < n → t (f i) ≡ true
  every_tabulate n f h i k = every_at t (tabulate n f) h {a = f i} (in_tabulate n f i k)

  pub tabulate_every : (n : ℕ) (f : ℕ → A) → ((i : ℕ) → i < n → t (f i) ≡ true) → every t (tabulate n f) ≡ true
  unfolding tabulate
  tabulate_every zero f h = refl
  tabulate_every (suc n) f h = and_of (h 0 (omega arith)) (tabulate_every n (λ j. f (suc j)) (λ i k. h (suc i) (omega arith)))

distinct_tabulate : (n : ℕ) (f : ℕ → ℕ) → distinct (tabulate n f) ≡ true → (i j : ℕ) → i < n → j < n → f i ≡ f j → i ≡ j
distinct_tabulate n f h i j a b e =
    distinct_one f (tabulate n (λ i. i)) (ap distinct (sym (map_tabulate n (λ i. i) f f (λ j l. refl))) ∙ h)
    {a = i} {b = j} (in_tabulate n (λ i. i) i a) (in_tabulate n (λ i. i) j b) e

tabulate_has : (x n : ℕ) (f : ℕ → ℕ) → ((i : ℕ) → i < n → f i ≡ x → ⊥) → has x (tabulate n f) ≡ false
unfolding tabulate
tabulate_has x zero f h = refl
tabulate_has x (suc n) f h = rw (ne_eqb (f 0) x (h 0 (omega arith))) (tabulate_has x n (λ j. f (suc j)) (λ i k. h (suc i) (omega arith)))

tabulate_distinct : (n : ℕ) (f : ℕ → ℕ) → ((i j : ℕ) → i < n → j < n → f i ≡ f j → i ≡ j) → distinct (tabulate n f) ≡ true
unfolding tabulate
tabulate_distinct zero f h = refl
tabulate_distinct (suc n) f h =
    rw (tabulate_has (f 0) n (λ k. f (suc k)) (λ i k e. let z : suc i ≡ 0 = h (suc i) 0 (omega arith) (omega arith) e in omega arith))
    (tabulate_distinct n (λ k. f (suc k)) (λ i j a b e.
    let z : suc i ≡ suc j = h (suc i) (suc j) (omega arith) (omega arith) e in omega arith))

-- sizes -----------------------------------------------------------------------------------------------

sized_of : (c : List ℕ) → sizes_in_range c ≡ true → Sized c
unfolding sizes_in_range
sized_of c h = record {
  now = leb-true (get_or c 4 0) content_limit (and_left (leb (get_or c 4 0) content_limit) _ h);
  saved = λ n. leb-true (get_or c 5 0) content_limit
      (or_rest (ne_eqb (get_or c 1 0) nobody n)
      (and_right (leb (get_or c 4 0) content_limit) (eqb (get_or c 1 0) nobody || leb (get_or c 5 0) content_limit) h));
}
  where
    or_rest : {a b : Bool} → a ≡ false → (a || b) ≡ true → b ≡ true
    or_rest e h = rw e at h

of_sized : (c : List ℕ) → Sized c → sizes_in_range c ≡ true
unfolding sizes_in_range
of_sized c z = rw (le-leb (get_or c 4 0) content_limit z.now) (go (eqb (get_or c 1 0) nobody) refl)
  where
    go : (x : Bool) → eqb (get_or c 1 0) nobody ≡ x → (x || leb (get_or c 5 0) content_limit) ≡ true
    go true e = refl
    go false e = le-leb (get_or c 5 0) content_limit (z.saved (eqb-false (get_or c 1 0) nobody e))

-- wait sets --------------------------------------------------------------------------------------------

-- a test of all sixteen transactions
module _ (q : ℕ → Bool) where
  pub of_sixteen : every q transactions ≡ true → (t : ℕ) → 1 ≤ t → t ≤ 16 → q t ≡ true
  unfolding tabulate
  of_sixteen h t a b = let e : suc (t - 1) ≡ t = omega arith in ap q (sym e) ∙ every_tabulate q 16 suc h (t - 1) (omega arith)

  pub all_sixteen : ((t : ℕ) → 1 ≤ t → t ≤ 16 → q t ≡ true) → every q transactions ≡ true
  unfolding tabulate
  all_sixteen h = tabulate_every q 16 suc (λ i k. h (suc i) (omega arith) (omega arith))

-- no set is that of another number, or has one
waiting : (s : List ℕ) (t u : ℕ) → remembered s t u ≡ true → (is_transaction t ≡ true) × (is_transaction u ≡ true)
unfolding remembered
waiting s t u e = go (is_transaction t) (is_transaction u) e
  where
    go : (a b : Bool) → cond a (cond b (bit (word s (set_at t)) (u - 1)) false) false ≡ true → (a ≡ true) × (b ≡ true)
    go true true e = (refl, refl)
    go true false e = absurd (false≢true e)
    go false b e = absurd (false≢true e)

-- the test of the sets is exact
open_among : (s : List ℕ) → sets_open (header s) ≡ true → AmongOpen (header s)
unfolding sets_open
open_among s h t u e =
    let w = waiting s t u e in
    let all = of_sixteen (λ t. every (λ u. not (remembered s t u) || (is_open s t && is_open s u)) transactions) h t
    (transaction_low t w.0) (transaction_high t w.0) in
    let one = of_sixteen (λ u. not (remembered s t u) || (is_open s t && is_open s u)) all u
    (transaction_low u w.1) (transaction_high u w.1) in
    let both : (is_open s t && is_open s u) ≡ true = rw e at one in
    (and_left (is_open s t) _ both, and_right (is_open s t) _ both)

among_open : (h : Header) → AmongOpen h → sets_open h ≡ true
unfolding sets_open
among_open h f = all_sixteen _ (λ t a b. all_sixteen _ (λ u c d. go t u (h.remembered t u) refl))
  where
    go : (t u : ℕ) (x : Bool) → h.remembered t u ≡ x → (not x || (h.is_open t && h.is_open u)) ≡ true
    go t u true e = and_of (f t u e).0 (f t u e).1
    go t u false e = refl

-- the theorems ------------------------------------------------------------------------------------------

-- the tests of the form, one by one
pub record Parts (s : List ℕ) : Type 0 where
  pub size : leb state_size (length s) ≡ true
  pub mark : same (part s 0 8) format_mark ≡ true
  pub count : between 1 node_limit (count s) ≡ true
  pub slots : apart node_limit (slots s) ≡ true
  pub sizes : every sizes_in_range (cells s) ≡ true
  pub rows : valid_rows (nodes s) ≡ true
  pub unique : unique (nodes s) ≡ true
  pub sets : sets_open (header s) ≡ true

all_eight : (a b c d e f g o : Bool) → (a && b && c && d && e && f && g && o) ≡ true
    → (a ≡ true) × (b ≡ true) × (c ≡ true) × (d ≡ true) × (e ≡ true) × (f ≡ true) × (g ≡ true) × (o ≡ true)
all_eight a b c d e f g o h =
    let h₇ = and_left (a && b && c && d && e && f && g) o h in
    let h₆ = and_left (a && b && c && d && e && f) g h₇ in
    let h₅ = and_left (a && b && c && d && e) f h₆ in
    let h₄ = and_left (a && b && c && d) e h₅ in
    let h₃ = and_left (a && b && c) d h₄ in
    let h₂ = and_left (a && b) c h₃ in (
      and_left a b h₂,
      and_right a b h₂,
      and_right (a && b) c h₃,
      and_right (a && b && c) d h₄,
      and_right (a && b && c && d) e h₅,
      and_right (a && b && c && d && e) f h₆,
      and_right (a && b && c && d && e && f) g h₇,
      and_right (a && b && c && d && e && f && g) o h,
    )

pub form_parts : {s : List ℕ} → form s ≡ true → Parts s
unfolding form
form_parts {s} h =
    let p = all_eight (leb state_size (length s)) (same (part s 0 8) format_mark) (between 1 node_limit (count s))
    (apart node_limit (slots s))
    (every sizes_in_range (cells s)) (valid_rows (nodes s)) (unique (nodes s)) (sets_open (header s)) h in
    record { size = p.0; mark = p.1; count = p.2; slots = p.3; sizes = p.4; rows = p.5; unique = p.6; sets = p.7 }

pub parts_form : {s : List ℕ} → Parts s → form s ≡ true
unfolding form
parts_form {s} p =
    and_of (and_of (and_of (and_of (and_of (and_of (and_of p.size p.mark) p.count) p.slots) p.sizes) p.rows) p.unique)
    p.sets

pub form_layout : {s : List ℕ} → form s ≡ true → Layout s
unfolding slots cells apart
form_layout {s} h = let p = form_parts h in record {
  size = leb-true state_size (length s) p.size;
  mark = same_equal (part s 0 8) format_mark p.mark;
  some = between_low 1 node_limit (count s) p.count;
  room = between_high 1 node_limit (count s) p.count;
  many = length_nodes s;
  slots = λ i l. ltb-true (slot s i) node_limit (every_tabulate (λ k. ltb k node_limit) node_limit (slot s)
      (and_left _ (distinct (slots s)) p.slots) i l);
  apart = λ i j a b e. distinct_tabulate node_limit (slot s) (and_right (every (λ k. ltb k node_limit) (slots s)) _ p.slots) i j a b e;
  sizes = λ i l. sized_of (cell s (slot s i)) (every_tabulate sizes_in_range (count s) (λ i. cell s (slot s i)) p.sizes i l);
}

pub form_holds : (s : List ℕ) → form s ≡ true → (M : State) × Holds s M
unfolding valid_tree
form_holds s h =
    let p = form_parts h in
    let t = valid_forest (nodes s) p.rows in (
      record { header = header s; tree = t.0 },
      record {
        layout = form_layout h;
        header = refl;
        rows = t.1;
        unique = p.unique;
        valid = ap valid_rows (sym t.1) ∙ p.rows;
        sets = open_among s p.sets;
      },
    )

pub holds_form : {s : List ℕ} {M : State} → Holds s M → form s ≡ true
unfolding slots cells apart valid_tree
holds_form {s} {M} h = let l = h.layout in
    let small = tabulate_every (λ k. ltb k node_limit) node_limit (slot s) (λ i a. lt-ltb (slot s i) node_limit (l.slots i a)) in
    parts_form (record {
      size = le-leb state_size (length s) l.size;
      mark = rw l.mark (same_self format_mark);
      count = between_of 1 node_limit (count s) l.some l.room;
      slots = and_of small (tabulate_distinct node_limit (slot s) l.apart);
      sizes = tabulate_every sizes_in_range (count s) (λ i. cell s (slot s i)) (λ i a. of_sized (cell s (slot s i)) (l.sizes i a));
      rows = rw h.rows h.valid;
      unique = h.unique;
      sets = rw h.header (among_open M.header h.sets);
    })
