-- Numbers below the limit leave as many marks as they are exactly if they are distinct.
use Rattle.std.specs.Prelude.{◌≡◌, refl, ℕ, zero, suc, ◌+◌, ◌%◌, ◌≤◌, ◌<◌, Bool, true, false, cond, not, ◌&&◌, ◌||◌, List, [], ◌∷◌, length, get_or, set, eqb, ltb}
use Rattle.std.proofs.Common.{◌∙◌, mod-eq_of_lt, arith, length-set, get_or-set_same, get_or-set_other, eqb-true, eq-eqb, ne_eqb, ltb-true}
use Rattle.std.proofs.Math.Path.{fun_ext}
use Rattle.std.proofs.lemmas.Bool.{eqb-false}
use Rattle.tree.specs.Lists.{every}
use Rattle.tree.specs.Laws.Tests.{and_left, and_right}
use Rattle.protocol.specs.Calls.{node_limit}
use Rattle.form.specs.Check.{marked, sum, fresh}

-- a store
sum_set : (l : List ℕ) (i v : ℕ) → i < length l → sum (set l i v) + get_or l i 0 ≡ sum l + v
unfolding sum
sum_set [] i v h = absurd (omega arith)
sum_set (x ∷ l) zero v h = omega arith
sum_set (x ∷ l) (suc i) v h = omega (arith, sum_set l i v (omega arith))

pub length_marked : (met ks : List ℕ) → length (marked met ks) ≡ length met
unfolding marked
length_marked met [] = refl
length_marked met (k ∷ ks) = length_marked (set met (k % node_limit) 1) ks ∙ length-set met (k % node_limit) 1

-- a number more is one mark more, or none
pub sum_marked : (met ks : List ℕ) → length met ≡ node_limit → sum (marked met ks) ≤ sum met + length ks
unfolding marked
sum_marked met [] e = omega arith
sum_marked met (k ∷ ks) e =
    omega (
      arith,
      sum_marked (set met (k % node_limit) 1) ks (length-set met (k % node_limit) 1 ∙ e),
      sum_set met (k % node_limit) 1 (omega arith),
    )

-- there is a mark at a place
abbrev pub mark_at : List ℕ → ℕ → Bool
mark_at met k = not (eqb (get_or met k 0) 0)

mark_more : (met : List ℕ) (k j : ℕ) → k < length met → mark_at (set met k 1) j ≡ (eqb j k || mark_at met j)
mark_more met k j h = go (eqb j k) refl
  where
    go : (b : Bool) → eqb j k ≡ b → mark_at (set met k 1) j ≡ (b || mark_at met j)
    go true p = rw (eqb-true j k p, get_or-set_same met k 1 0 h)
    go false p = rw (get_or-set_other met k j 1 0 (eqb-false j k p))

-- none of the numbers has a mark before, and they are distinct
pub as_many_marks : (met ks : List ℕ) → length met ≡ node_limit → every (λ k. ltb k node_limit) ks ≡ true
    → eqb (sum (marked met ks)) (sum met + length ks) ≡ fresh (mark_at met) ks
unfolding marked fresh
as_many_marks met [] e h = eq-eqb (sum met) (sum met + 0) (omega arith)
as_many_marks met (k ∷ ks) e h =
    let place : k % node_limit ≡ k = mod-eq_of_lt (ltb-true k node_limit (and_left (ltb k node_limit) _ h)) in
    let long : length (set met k 1) ≡ node_limit = length-set met k 1 ∙ e in
    rw place
    (go (eqb (get_or met k 0) 0) refl (sum_set met k 1 (omega arith)) (sum_marked (set met k 1) ks long)
    (as_many_marks (set met k 1) ks long (and_right (ltb k node_limit) _ h) ∙ rw (fun_ext (λ j. mark_more met k j (omega arith)))))
  where
    go : (b : Bool) → eqb (get_or met k 0) 0 ≡ b → sum (set met k 1) + get_or met k 0 ≡ sum met + 1
        → sum (marked (set met k 1) ks) ≤ sum (set met k 1) + length ks
        → eqb (sum (marked (set met k 1) ks)) (sum (set met k 1) + length ks) ≡ fresh (λ j. eqb j k || mark_at met j) ks
        → eqb (sum (marked (set met k 1) ks)) (sum met + suc (length ks))
        ≡ (cond (not b) false true && fresh (λ j. eqb j k || mark_at met j) ks)
    go true p one most i =
        let more : sum met + suc (length ks) ≡ sum (set met k 1) + length ks = omega (arith, eqb-true (get_or met k 0) 0 p) in
        rw more i
    go false p one most i =
        let met_before : get_or met k 0 ≡ 0 → ⊥ = eqb-false (get_or met k 0) 0 p in
        ne_eqb (sum (marked (set met k 1) ks)) (sum met + suc (length ks)) (λ q. omega (arith, met_before))
