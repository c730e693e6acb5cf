-- The slots, as two loops check them: the first marks them, the second counts the marks.
use Rattle.std.specs.Prelude.{◌≡◌, refl, ℕ, ◌+◌, ◌%◌, ◌≤◌, ◌<◌, Bool, true, false, ◌&&◌, get_or, set, eqb, ltb}
use Rattle.std.proofs.Math.Path.{sym}
use Rattle.std.proofs.Common.{◌∙◌, drop-cons, lt-ltb, le-ltb, ltb-true, ltb-false, eqb-true}
use Rattle.std.proofs.Math.Bool.{and-true}
use mathlib.Core.List.{List, [], ◌∷◌}
use native.Mathlib.Omega.{arith}
use Rattle.std.proofs.Math.Numerals.{add-one}
use Rattle.std.proofs.Math.ListN.{length, drop, drop_of_length-le}
use Rattle.std.specs.Int.Bits.{bit_or, or_add_and}
use Rattle.std.proofs.lemmas.Nat.{or_lt, and_le_l, and_le_r}
use Rattle.tree.specs.Lists.{every}
use Rattle.tree.specs.Laws.Tests.{and_left, and_right}
use Rattle.protocol.specs.Calls.{node_limit}
use Rattle.table.specs.Layout.{entry_at, word, slot}
use Rattle.table.specs.Laws.Lists.{length_tabulate, get_d_tabulate}
use Rattle.form.specs.Form.{slots, apart}
use Rattle.form.specs.Check.{marked, sum}
use Rattle.form.specs.Laws.Fresh.{fresh_from, fresh_begin, zeros}
use Rattle.form.specs.Laws.Marks.{mark_at, length_marked, sum_marked, as_many_marks}

-- the bits of two numbers together are below 1,024 exactly if both numbers are
or_low : (a b : ℕ) → ltb (bit_or a b) node_limit ≡ (ltb a node_limit && ltb b node_limit)
or_low a b = go (ltb a node_limit) refl (ltb b node_limit) refl
  where
    go : (x : Bool) → ltb a node_limit ≡ x → (y : Bool) → ltb b node_limit ≡ y → ltb (bit_or a b) node_limit ≡ (x && y)
    go true p true q = lt-ltb (bit_or a b) node_limit (or_lt 10 a b (ltb-true a node_limit p) (ltb-true b node_limit q))
    go true p false q = le-ltb (bit_or a b) node_limit (omega (arith, ltb-false b node_limit q, or_add_and a b, and_le_l a b))
    go false p y q = le-ltb (bit_or a b) node_limit (omega (arith, ltb-false a node_limit p, or_add_and a b, and_le_r a b))

-- the loop that marks ------------------------------------------------------------------------------

-- all numbers are below the limit
abbrev all_low : List ℕ → Bool
all_low = every (λ k. ltb k node_limit)

-- the slots from place i on; k is the one that was read
module _ (s : List ℕ) (i : ℕ) where
  slots_turn : (k : ℕ) → i < 1024 → k ≡ word s (entry_at i) → drop i (slots s) ≡ k ∷ drop (i + 1) (slots s)
  unfolding slots slot
  slots_turn k h e =
      let l : i < length (slots s) = omega (arith, length_tabulate node_limit (slot s)) in
      rw (drop-cons (slots s) i 0 l, get_d_tabulate node_limit (slot s) i 0 h, add-one i, e)

  slots_end : 1024 ≤ i → drop i (slots s) ≡ []
  unfolding slots
  slots_end h = let l : length (slots s) ≤ i = omega (arith, length_tabulate node_limit (slot s)) in drop_of_length-le (slots s) l

  pub marked_next : (met₀ met : List ℕ) → marked met₀ (slots s) ≡ marked met (drop i (slots s)) → (k : ℕ) → i < 1024
      → k ≡ word s (entry_at i) → marked met₀ (slots s) ≡ marked (set met (k % 1024) 1) (drop (i + 1) (slots s))
  unfolding marked
  marked_next met₀ met v k h e = v ∙ rw (slots_turn k h e)

  pub marked_end : (met₀ met : List ℕ) → marked met₀ (slots s) ≡ marked met (drop i (slots s)) → 1024 ≤ i → met ≡ marked met₀ (slots s)
  unfolding marked
  marked_end met₀ met v h = sym (v ∙ rw (slots_end h))

  pub low_next : (b : ℕ) → all_low (slots s) ≡ (ltb b node_limit && all_low (drop i (slots s))) → (k : ℕ) → i < 1024
      → k ≡ word s (entry_at i) → all_low (slots s) ≡ (ltb (bit_or b k) node_limit && all_low (drop (i + 1) (slots s)))
  low_next b v k h e = v ∙ rw (slots_turn k h e, or_low b k) (assoc (ltb b node_limit) (ltb k node_limit) _)
    where
      assoc : (x y z : Bool) → (x && (y && z)) ≡ ((x && y) && z)
      assoc true y z = refl
      assoc false y z = refl

  pub low_end : (b : ℕ) → all_low (slots s) ≡ (ltb b node_limit && all_low (drop i (slots s))) → 1024 ≤ i → ltb b 1024 ≡ all_low (slots s)
  low_end b v h = sym (v ∙ rw (slots_end h) (and-true (ltb b node_limit)))

-- the loop that counts -----------------------------------------------------------------------------

-- n is the sum up to place i
module _ (l : List ℕ) (n i : ℕ) (v : n + sum (drop i l) ≡ sum l) where
  sum_turn : i < length l → sum (drop i l) ≡ get_or l i 0 + sum (drop (i + 1) l)
  unfolding sum
  sum_turn h = rw (drop-cons l i 0 h, add-one i)

  pub sum_next : i < length l → n + get_or l i 0 + sum (drop (i + 1) l) ≡ sum l
  sum_next h = omega (arith, v, sum_turn h)

  pub sum_end : length l ≤ i → n ≡ sum l
  unfolding sum
  sum_end h = let e : drop i l ≡ [] = drop_of_length-le l h in let w : n + 0 ≡ sum l = rw e at v in omega arith

-- the whole ----------------------------------------------------------------------------------------

pub slots_high : (s : List ℕ) → all_low (slots s) ≡ false → false ≡ apart node_limit (slots s)
unfolding apart
slots_high s f = rw f

sum_zeros : (l : List ℕ) → every (λ x. eqb x 0) l ≡ true → sum l ≡ 0
unfolding sum
sum_zeros [] h = refl
sum_zeros (x ∷ l) h = omega (arith, eqb-true x 0 (and_left (eqb x 0) _ h), sum_zeros l (and_right (eqb x 0) _ h))

-- there is no mark at the beginning
module _ (s met : List ℕ) (e : length met ≡ 1024) (z : every (λ x. eqb x 0) met ≡ true) where
  many_slots : length (slots s) ≡ 1024
  unfolding slots
  many_slots = length_tabulate node_limit (slot s)

  pub slots_marked : (length (marked met (slots s)) ≡ 1024) × (sum (marked met (slots s)) ≤ 1024)
  slots_marked = (length_marked met (slots s) ∙ e, omega (arith, sum_marked met (slots s) e, sum_zeros met z, many_slots))

  pub slots_counted : all_low (slots s) ≡ true → eqb (sum (marked met (slots s))) 1024 ≡ apart node_limit (slots s)
  unfolding apart slots fresh_from
  slots_counted low =
      let m : sum met + length (slots s) ≡ 1024 = omega (arith, sum_zeros met z, many_slots) in
      let p = as_many_marks met (slots s) e low in
      rw low ((rw m at p) ∙ sym (fresh_begin (slot s) node_limit (mark_at met) (λ k. rw (zeros met z k))))
