-- The table of clashes is symmetric.
use Rattle.std.specs.Prelude.{◌≡◌, refl, ℕ, zero, suc, Bool, true, false, not, List, [], ◌∷◌, get_or}
use Rattle.std.proofs.Common.{sym}
use Rattle.tree.specs.Lists.{every}
use Rattle.tree.specs.Laws.Tests.{and_left, and_right}
use Rattle.locks.specs.Modes.{Mode, LT, LC, LR, LU, LW, LTT, LRR, LUU, LIR, LIU, LIW, LICW, modes, index, clash}

every_getD : {A : Type 0} (t : A → Bool) (l : List A) (i : ℕ) (d : A) → every t l ≡ true → t d ≡ true → t (get_or l i d) ≡ true
every_getD t [] i d h e = e
every_getD t (x ∷ l) zero d h e = and_left (t x) (every t l) h
every_getD t (x ∷ l) (suc i) d h e = every_getD t l i d (and_right (t x) (every t l) h) e

mode_at : (a : Mode) → get_or modes (index a) LT ≡ a
mode_at LT = refl
mode_at LC = refl
mode_at LR = refl
mode_at LU = refl
mode_at LW = refl
mode_at LTT = refl
mode_at LRR = refl
mode_at LUU = refl
mode_at LIR = refl
mode_at LIU = refl
mode_at LIW = refl
mode_at LICW = refl

-- a test that passes throughout the list of modes passes on every mode
pub every_mode : (t : Mode → Bool) → every t modes ≡ true → (a : Mode) → t a ≡ true
every_mode t h a = rw (mode_at a) at (every_getD t modes (index a) LT h (and_left (t LT) _ h))

alike : Bool → Bool → Bool
alike true b = b
alike false b = not b

alike_equal : (a b : Bool) → alike a b ≡ true → a ≡ b
unfolding alike
alike_equal true true h = refl
alike_equal true false h = sym h
alike_equal false true h = h
alike_equal false false h = refl

-- the whole table against its transpose
transposed : every (λ a. every (λ b. alike (clash a b) (clash b a)) modes) modes ≡ true
unfolding clash alike
transposed = refl

pub clash_symmetric : (a b : Mode) → clash a b ≡ clash b a
clash_symmetric a b =
    alike_equal _ _
    (every_mode (λ y. alike (clash a y) (clash y a)) (every_mode (λ x. every (λ y. alike (clash x y) (clash y x)) modes) transposed a) b)
