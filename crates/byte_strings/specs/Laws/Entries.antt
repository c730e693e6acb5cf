-- Entries of an array: one place further, and a new one among them.
use Rattle.std.specs.Prelude.{ℕ, suc, ◌+◌, ◌≤◌, ◌<◌, ◌≡◌, List, Result, length, get_or, take, drop}
use Rattle.std.proofs.Common.{length-drop, ap, ◌∙◌, arith}
use Rattle.std.proofs.Math.Seq.{length-take-le, get_or-drop, get_or-take}
use Rattle.std.specs.declared.cmp.Ordering.{Ordering}
use Rattle.byte_strings.specs.Order.{Ordered}
use Rattle.byte_strings.specs.Sorted.{entries, Belongs, Orders, Increasing, Between, Inserted, Added}
use Rattle.byte_strings.specs.Laws.Sorted.{Side, side, side_before, side_here, side_behind, added}

-- what holds for each entry and the new one
pub each_entry : {os os' : List ℕ} {k n v : ℕ} → Inserted os os' k n v → (P : ℕ → Type 0) → ((i : ℕ) → i < n → P (get_or os i 0)) → P v
    → (i : ℕ) → i < n + 1 → P (get_or os' i 0)
each_entry {os} {os'} {k} {n} x P e p i h = go i h (side k i)
  where
    go : (i : ℕ) → i < n + 1 → Side k i → P (get_or os' i 0)
    go i h (side_before q) = rw (x.ahead i q) (e i (omega (arith, x.inside)))
    go i h side_here = rw x.here p
    go (suc i) h (side_behind q) = rw (x.further i q (omega arith)) (e i (omega arith))

-- the name of the new entry is put among the others
pub entry_added : (f : ℕ → List ℕ) {os os' : List ℕ} (lo : ℕ) {at end k n v : ℕ} → at ≡ lo + k → end ≡ lo + n
    → Inserted os os' at end v → Increasing (entries f os lo) n → Between (entries f os lo) n k k (f v)
    → Added (entries f os lo) (entries f os' lo) n (f v)
unfolding entries
entry_added f lo p q x s b =
    added s b (omega (arith, x.inside)) (λ i h. ap f (x.ahead (lo + i) (omega arith))) (rw (← p) (ap f x.here))
    (λ i h j. let z : lo + suc i ≡ suc (lo + i) = omega arith in ap f (rw z (x.further (lo + i) (omega arith) (omega arith))))

-- n entries from place lo on, as a slice
module _ (os : List ℕ) (lo n : ℕ) (h : lo + n ≤ length os) where
  length_part : length (take n (drop lo os)) ≡ n
  length_part = length-take-le n (drop lo os) (omega (arith, length-drop lo os))

  entry_part : (i : ℕ) → i < n → get_or (take n (drop lo os)) i 0 ≡ get_or os (lo + i) 0
  entry_part i k = get_or-take n (drop lo os) i 0 k ∙ get_or-drop lo os i 0

-- what is found among them
pub found_part : (os : List ℕ) (lo : ℕ) {m : ℕ} (n : ℕ) (f : ℕ → List ℕ) (w : List ℕ) {says : ℕ → Ordering → Type 0} {r : Result ℕ ℕ}
    → m ≡ n → lo + n ≤ length os
    → ((name : ℕ → List ℕ) (v : List ℕ) → Increasing name (length (take m (drop lo os))) → Orders says (take m (drop lo os)) name v
    → Belongs name (length (take m (drop lo os))) v r)
    → Increasing (entries f os lo) n
    → ((i : ℕ) (o : Ordering) → i < n → says (get_or os (lo + i) 0) o → Ordered (f (get_or os (lo + i) 0)) w o)
    → Belongs (entries f os lo) n w r
unfolding entries
found_part os lo n f w e h b s o =
    let l = length_part os lo n h in
    let g = rw (e, l) at b in
    g (entries f os lo) w s (record { lies = λ i {r = x} k y. o i x (omega (arith, l)) (rw (entry_part os lo n h i (omega (arith, l))) at y) })
