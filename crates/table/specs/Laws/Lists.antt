-- Laws of lists by place.
use Rattle.std.specs.Prelude.{◌≡◌, Bool, true, false, cond, length, get_or, set, eqb}
use Rattle.std.proofs.Math.Path.{refl, ap}
use Rattle.std.proofs.Common.{sym, arith, get_or-set_same, get_or-set_other, eqb-true}
use Prim.Native.Nat.{ℕ, zero, suc, ◌<◌}
use mathlib.Core.List.{List, [], ◌∷◌, map}
use Rattle.std.proofs.lemmas.Bool.{eqb-false}
use Rattle.table.specs.Lists.{modify}
use Rattle.table.specs.Layout.{tabulate}

module _ {A : Type 0} where
  pub length_tabulate : (n : ℕ) (f : ℕ → A) → length (tabulate n f) ≡ n
  unfolding tabulate
  length_tabulate zero f = refl
  length_tabulate (suc n) f = ap suc (length_tabulate n (λ i. f (suc i)))

  pub get_d_tabulate : (n : ℕ) (f : ℕ → A) (i : ℕ) (d : A) → i < n → get_or (tabulate n f) i d ≡ f i
  unfolding tabulate
  get_d_tabulate zero f i d h = absurd (omega arith)
  get_d_tabulate (suc n) f zero d h = refl
  get_d_tabulate (suc n) f (suc i) d h = get_d_tabulate n (λ i. f (suc i)) i d (omega arith)

  pub tabulate_same : (n : ℕ) (f g : ℕ → A) → ((i : ℕ) → i < n → f i ≡ g i) → tabulate n f ≡ tabulate n g
  unfolding tabulate
  tabulate_same zero f g h = refl
  tabulate_same (suc n) f g h = rw (h 0 (omega arith), tabulate_same n (λ i. f (suc i)) (λ i. g (suc i)) (λ i k. h (suc i) (omega arith)))

  pub length_modify : (i : ℕ) (f : A → A) (l : List A) → length (modify i f l) ≡ length l
  unfolding modify
  length_modify i f [] = refl
  length_modify zero f (x ∷ xs) = refl
  length_modify (suc i) f (x ∷ xs) = ap suc (length_modify i f xs)

  pub getD_modify : (i : ℕ) (f : A → A) (l : List A) (d : A) → i < length l → get_or (modify i f l) i d ≡ f (get_or l i d)
  unfolding modify
  getD_modify i f [] d h = absurd (omega arith)
  getD_modify zero f (x ∷ xs) d h = refl
  getD_modify (suc i) f (x ∷ xs) d h = getD_modify i f xs d (omega arith)

  pub modify_modify : (i : ℕ) (f g : A → A) (l : List A) → modify i f (modify i g l) ≡ modify i (λ x. f (g x)) l
  unfolding modify
  modify_modify i f g [] = refl
  modify_modify zero f g (x ∷ xs) = refl
  modify_modify (suc i) f g (x ∷ xs) = rw (modify_modify i f g xs)

  pub modify_same : (i : ℕ) (f g : A → A) (l : List A) (d : A) → f (get_or l i d) ≡ g (get_or l i d) → modify i f l ≡ modify i g l
  unfolding modify
  modify_same i f g [] d h = refl
  modify_same zero f g (x ∷ xs) d h = rw h
  modify_same (suc i) f g (x ∷ xs) d h = rw (modify_same i f g xs d h)

  pub modify_none : (i : ℕ) (f : A → A) (l : List A) (d : A) → f (get_or l i d) ≡ get_or l i d → modify i f l ≡ l
  unfolding modify
  modify_none i f [] d h = refl
  modify_none zero f (x ∷ xs) d h = rw h
  modify_none (suc i) f (x ∷ xs) d h = rw (modify_none i f xs d h)

  -- one element of a rule changed
  pub modify_tabulate : (n i : ℕ) (f f' : ℕ → A) (g : A → A) → i < n → f' i ≡ g (f i) → ((j : ℕ) → j < n → (j ≡ i → ⊥) → f' j ≡ f j)
      → tabulate n f' ≡ modify i g (tabulate n f)
  unfolding tabulate modify
  modify_tabulate zero i f f' g h e k = absurd (omega arith)
  modify_tabulate (suc n) zero f f' g h e k =
      rw (e, tabulate_same n (λ j. f' (suc j)) (λ j. f (suc j)) (λ j l. k (suc j) (omega arith) (λ m. omega arith)))
  modify_tabulate (suc n) (suc i) f f' g h e k =
      rw (
        k 0 (omega arith) (λ m. omega arith),
        modify_tabulate n i (λ j. f (suc j)) (λ j. f' (suc j)) g (omega arith) e (λ j l m. k (suc j) (omega arith) (λ o. m (omega arith))),
      )

-- every element of a rule changed
pub map_tabulate : {A B : Type 0} (n : ℕ) (f : ℕ → A) (f' : ℕ → B) (g : A → B) → ((j : ℕ) → j < n → f' j ≡ g (f j))
    → tabulate n f' ≡ map g (tabulate n f)
unfolding tabulate
map_tabulate zero f f' g h = refl
map_tabulate (suc n) f f' g h = rw (h 0 (omega arith), map_tabulate n (λ j. f (suc j)) (λ j. f' (suc j)) g (λ j l. h (suc j) (omega arith)))

-- bytes after a store, by tests that compute at numerals
pub getD_set_eqb : (l : List ℕ) (i j v d : ℕ) → i < length l → get_or (set l i v) j d ≡ cond (eqb i j) v (get_or l j d)
getD_set_eqb l i j v d h = go (eqb i j) refl
  where
    go : (t : Bool) → eqb i j ≡ t → get_or (set l i v) j d ≡ cond t v (get_or l j d)
    go true p = rw (← eqb-true i j p, get_or-set_same l i v d h)
    go false p = get_or-set_other l i j v d (λ e. eqb-false i j p (sym e))
