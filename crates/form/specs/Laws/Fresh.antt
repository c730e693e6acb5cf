-- Numbers that are all different, as a loop finds out that remembers those it met.
use Rattle.std.specs.Prelude.{◌≡◌, ℕ, zero, suc, ◌+◌, ◌≤◌, ◌<◌, Bool, false, cond, ◌&&◌, ◌||◌, get_or, drop, eqb}
use Rattle.std.proofs.Math.Path.{refl, sym}
use Rattle.std.proofs.Common.{◌∙◌, arith, drop_of_length-le, drop-cons, eqb-true}
use Rattle.std.proofs.Math.Bool.{true, not, and-false}
use mathlib.Core.List.{List, [], ◌∷◌}
use Rattle.std.proofs.Math.Numerals.{add-one}
use Rattle.std.proofs.Math.ListN.{length}
use Rattle.tree.specs.Lists.{every, has, distinct}
use Rattle.tree.specs.Laws.Tests.{and_left, and_right}
use Rattle.table.specs.Layout.{tabulate}
use Rattle.table.specs.Laws.Lists.{length_tabulate, get_d_tabulate}
use Rattle.form.specs.Check.{fresh}

-- the meaning of `fresh` -------------------------------------------------------------------------

not_met_again : (w : ℕ) (old : ℕ → Bool) (ws : List ℕ) → every (λ k. not (eqb k w || old k)) ws
    ≡ (not (has w ws) && every (λ k. not (old k)) ws)
not_met_again w old [] = refl
not_met_again w old (k ∷ ws) = rw (not_met_again w old ws) (go (eqb k w) (old k) (has w ws) (every (λ k. not (old k)) ws))
  where
    go : (a b c d : Bool) → (not (a || b) && (not c && d)) ≡ (not (a || c) && (not b && d))
    go true b c d = refl
    go false true true d = refl
    go false true false d = refl
    go false false c d = refl

fresh_is : (old : ℕ → Bool) (ws : List ℕ) → fresh old ws ≡ (every (λ k. not (old k)) ws && distinct ws)
unfolding fresh
fresh_is old [] = refl
fresh_is old (w ∷ ws) =
    rw (fresh_is (λ k. eqb k w || old k) ws, not_met_again w old ws)
    (go (old w) (has w ws) (every (λ k. not (old k)) ws) (distinct ws))
  where
    go : (o h n d : Bool) → (cond o false true && ((not h && n) && d)) ≡ ((not o && n) && cond h false d)
    go true h n d = refl
    go false true n d = sym (and-false n)
    go false false n d = refl

-- the loop, turn by turn ---------------------------------------------------------------------------

-- the numbers from place i on
unfoldable pub fresh_from : (ℕ → ℕ) → ℕ → (ℕ → Bool) → ℕ → Bool
fresh_from f n old i = fresh old (drop i (tabulate n f))

module _ (f : ℕ → ℕ) (n : ℕ) (old : ℕ → Bool) where
  pub fresh_begin : ((k : ℕ) → old k ≡ false) → distinct (tabulate n f) ≡ fresh_from f n old 0
  unfolding fresh_from
  fresh_begin h = sym (fresh_is old (tabulate n f) ∙ rw (none (tabulate n f)))
    where
      none : (ws : List ℕ) → every (λ k. not (old k)) ws ≡ true
      none [] = refl
      none (w ∷ ws) = rw (h w) (none ws)

  pub fresh_turn : (i : ℕ) → i < n
      → fresh_from f n old i ≡ (cond (old (f i)) false true && fresh_from f n (λ k. eqb k (f i) || old k) (i + 1))
  unfolding fresh fresh_from
  fresh_turn i h =
      let l : i < length (tabulate n f) = omega (arith, length_tabulate n f) in
      rw (drop-cons (tabulate n f) i 0 l, get_d_tabulate n f i 0 h, add-one i)

  pub fresh_end : (i : ℕ) → n ≤ i → fresh_from f n old i ≡ true
  unfolding fresh fresh_from
  fresh_end i h =
      let l : length (tabulate n f) ≤ i = omega (arith, length_tabulate n f) in
      rw (drop_of_length-le (tabulate n f) l)

-- what is remembered at the beginning
pub zeros : (l : List ℕ) → every (λ x. eqb x 0) l ≡ true → (i : ℕ) → get_or l i 0 ≡ 0
zeros [] h i = refl
zeros (x ∷ l) h zero = eqb-true x 0 (and_left (eqb x 0) _ h)
zeros (x ∷ l) h (suc i) = zeros l (and_right (eqb x 0) _ h) i
