-- Lists with an element put in, and with two exchanged.
use Rattle.std.specs.Prelude.{◌≡◌, length, take, drop}
use Rattle.std.proofs.Math.Path.{refl, ap}
use Rattle.std.proofs.Common.{sym, ◌∙◌, arith, add-one}
use Prim.Native.Nat.{ℕ, zero, suc, ◌+◌, ◌≤◌, ◌<◌}
use mathlib.Core.List.{List, [], ◌∷◌}
use Rattle.table.specs.Lists.{modify, insert}
use Rattle.table.specs.Layout.{tabulate}
use Rattle.table.specs.Laws.Lists.{tabulate_same}

module _ {A : Type 0} where
  pub insert_tabulate : (n p : ℕ) (f f' : ℕ → A) (x : A) → p ≤ n → ((i : ℕ) → i < p → f' i ≡ f i) → f' p ≡ x
      → ((i : ℕ) → p ≤ i → i < n → f' (i + 1) ≡ f i) → tabulate (suc n) f' ≡ insert p x (tabulate n f)
  unfolding tabulate insert
  insert_tabulate n zero f f' x h low e high =
      rw (e, tabulate_same n (λ i. f' (suc i)) f (λ i l. ap f' (sym (add-one i)) ∙ high i (omega arith) l))
  insert_tabulate zero (suc p) f f' x h low e high = absurd (omega arith)
  insert_tabulate (suc n) (suc p) f f' x h low e high =
      rw (low 0 (omega arith))
      (ap (λ (l : List A). f 0 ∷ l) (insert_tabulate n p (λ i. f (suc i)) (λ i. f' (suc i)) x (omega arith)
      (λ i l. low (suc i) (omega arith)) e
      (λ i l m. ap f' (sym (add-one (i + 1)) ∙ omega arith) ∙ high (suc i) (omega arith) (omega arith))))

  pub take_modify : (i n : ℕ) (f : A → A) (l : List A) → n ≤ i → take n (modify i f l) ≡ take n l
  unfolding modify
  take_modify i n f [] h = refl
  take_modify i zero f (x ∷ xs) h = refl
  take_modify zero (suc n) f (x ∷ xs) h = absurd (omega arith)
  take_modify (suc i) (suc n) f (x ∷ xs) h = rw (take_modify i n f xs (omega arith))

  pub drop_modify : (i n : ℕ) (f : A → A) (l : List A) → i < n → drop n (modify i f l) ≡ drop n l
  unfolding modify
  drop_modify i zero f l h = absurd (omega arith)
  drop_modify i (suc n) f [] h = refl
  drop_modify zero (suc n) f (x ∷ xs) h = refl
  drop_modify (suc i) (suc n) f (x ∷ xs) h = drop_modify i n f xs (omega arith)

  pub take_tabulate : (n k : ℕ) (f : ℕ → A) → k ≤ n → tabulate k f ≡ take k (tabulate n f)
  unfolding tabulate
  take_tabulate n zero f h = refl
  take_tabulate zero (suc k) f h = absurd (omega arith)
  take_tabulate (suc n) (suc k) f h = rw (take_tabulate n k (λ i. f (suc i)) (omega arith))

  pub modify_insert : (p : ℕ) (f : A → A) (x : A) (l : List A) → p ≤ length l → modify p f (insert p x l) ≡ insert p (f x) l
  unfolding modify insert
  modify_insert zero f x l h = refl
  modify_insert (suc p) f x [] h = absurd (omega arith)
  modify_insert (suc p) f x (y ∷ l) h = rw (modify_insert p f x l (omega arith))
