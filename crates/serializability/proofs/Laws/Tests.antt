-- Proofs by the two values of a test.
use Rattle.std.specs.Prelude.{ℕ, ◌≡◌, refl, Bool, true, false, cond, eqb}
use Rattle.std.proofs.Common.{sym, eqb-true, eq-eqb}
use Rattle.tree.specs.Laws.Lists.{eqb_flip}

pub by_test : {C : Type 0} (t : Bool) → (t ≡ true → C) → (t ≡ false → C) → C
by_test true f g = f refl
by_test false f g = g refl

-- a test that cannot fail passes
pub affirmed : (t : Bool) → (t ≡ false → ⊥) → t ≡ true
affirmed true h = refl
affirmed false h = absurd (h refl)

-- what is read off alike in both cases
pub cond_same : {A B : Type 0} (h : A → B) (x : Bool) (a a' : A) → h a ≡ h a' → h (cond x a a') ≡ h a'
cond_same h true a a' e = e
cond_same h false a a' e = refl

-- numbers compared in either order
pub eqb_sym : (m n : ℕ) → eqb m n ≡ eqb n m
eqb_sym m n = by_test (eqb n m) (λ e. rw (e, eq-eqb m n (sym (eqb-true n m e)))) (λ e. rw (e, eqb_flip n m e))
