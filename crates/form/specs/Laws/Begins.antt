-- The comparison of the first bytes: as `starts_with` compares, and as the form does.
use Rattle.std.specs.Prelude.{◌≡◌, refl, ℕ, Bool, true, false, List, [], ◌∷◌, length, eqb}
use Rattle.std.specs.List.{starts_with}
use Rattle.std.specs.Cmp.Lexicographic.{pointwise}
use Rattle.std.proofs.Common.{sym, ◌∙◌, eqb-true, eq-eqb}
use Rattle.std.proofs.lemmas.Bool.{eqb-false}
use borrow.Author.Tests.{ne_eqb}
use Rattle.tree.specs.Lists.{same}
use Rattle.table.specs.Layout.{part}

eqb_swap : (a b : ℕ) → eqb a b ≡ eqb b a
eqb_swap a b = go (eqb a b) refl
  where
    go : (t : Bool) → eqb a b ≡ t → eqb a b ≡ eqb b a
    go true p = p ∙ sym (eq-eqb b a (sym (eqb-true a b p)))
    go false p = p ∙ sym (ne_eqb b a (λ e. eqb-false a b p (sym e)))

same_pointwise : (a b : List ℕ) → same a b ≡ pointwise eqb b a
same_pointwise [] [] = refl
same_pointwise [] (y ∷ b) = refl
same_pointwise (x ∷ a) [] = refl
same_pointwise (x ∷ a) (y ∷ b) = rw (eqb_swap x y, same_pointwise a b)

pub starts_same : (s b : List ℕ) → same (part s 0 (length b)) b ≡ starts_with eqb s b
unfolding part
starts_same s b = same_pointwise _ b
