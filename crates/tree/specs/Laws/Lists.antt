-- Laws of `keep`, `every`, `any`, `has` and `map`.
use Rattle.std.specs.Prelude.{◌≡◌, ℕ, ◌+◌, ◌≤◌, Bool, not, ◌&&◌, ◌||◌, ◌⊎◌, eqb}
use Rattle.std.proofs.Math.Path.{refl}
use Rattle.std.proofs.Common.{sym, ap, ◌∙◌, inl, inr, length-append, eqb-true, eq-eqb, ne_eqb}
use Rattle.std.proofs.Math.Bool.{true, false, cond, or-true, or_assoc}
use Rattle.std.proofs.lemmas.Bool.{false≢true, eqb-false}
use mathlib.Core.List.Memᴰ
use mathlib.Core.List.{List, [], ◌∷◌, ◌++◌, map, Memᴰ}
use Rattle.std.proofs.Math.ListN.{length}
use native.Mathlib.Omega.{arith}
use Rattle.tree.specs.Lists.{every, any, keep, has}
use Rattle.tree.specs.Laws.Tests.{and_left, and_right, or_cases}

module _ {A : Type 0} where
  -- every, any -------------------------------------------------------------------

  pub every_at : (t : A → Bool) (l : List A) → every t l ≡ true → {a : A} → Memᴰ a l → t a ≡ true
  every_at t [] h m = absurd (Memᴰ.not-nil m)
  every_at t (x ∷ xs) h (Memᴰ.head e) = ap t e ∙ and_left _ _ h
  every_at t (x ∷ xs) h (Memᴰ.tail m) = every_at t xs (and_right (t x) _ h) m

  pub at_every : (t : A → Bool) (l : List A) → ((a : A) → Memᴰ a l → t a ≡ true) → every t l ≡ true
  at_every t [] h = refl
  at_every t (x ∷ xs) h = rw (h x (Memᴰ.head refl)) (at_every t xs (λ a m. h a (Memᴰ.tail m)))

  pub any_at : (t : A → Bool) (l : List A) → any t l ≡ true → (a : A) × Memᴰ a l × (t a ≡ true)
  any_at t [] h = absurd (false≢true h)
  any_at t (x ∷ xs) h = go (or_cases (t x) _ h) (any_at t xs)
    where
      go : (t x ≡ true) ⊎ (any t xs ≡ true) → (any t xs ≡ true → (a : A) × Memᴰ a xs × (t a ≡ true))
          → (a : A) × Memᴰ a (x ∷ xs) × (t a ≡ true)
      go (inl e) f = (x, Memᴰ.head refl, e)
      go (inr e) f = let g = f e in (g.0, Memᴰ.tail g.1, g.2)

  pub at_any : (t : A → Bool) (l : List A) {a : A} → Memᴰ a l → t a ≡ true → any t l ≡ true
  at_any t [] m h = absurd (Memᴰ.not-nil m)
  at_any t (x ∷ xs) (Memᴰ.head e) h = rw (ap t (sym e) ∙ h)
  at_any t (x ∷ xs) (Memᴰ.tail m) h = rw (at_any t xs m h) (or-true (t x))

  pub every_same : (t s : A → Bool) (l : List A) → ((a : A) → Memᴰ a l → t a ≡ s a) → every t l ≡ every s l
  every_same t s [] h = refl
  every_same t s (x ∷ xs) h = rw (h x (Memᴰ.head refl), every_same t s xs (λ a m. h a (Memᴰ.tail m)))

  pub any_same : (t s : A → Bool) (l : List A) → ((a : A) → Memᴰ a l → t a ≡ s a) → any t l ≡ any s l
  any_same t s [] h = refl
  any_same t s (x ∷ xs) h = rw (h x (Memᴰ.head refl), any_same t s xs (λ a m. h a (Memᴰ.tail m)))

  -- none passes exactly if all fail
  pub every_not : (t : A → Bool) (l : List A) → every (λ a. not (t a)) l ≡ not (any t l)
  every_not t [] = refl
  every_not t (x ∷ xs) = rw (every_not t xs) (go (t x))
    where
      go : (b : Bool) → (not b && not (any t xs)) ≡ not (b || any t xs)
      go true = refl
      go false = refl

  pub every_map : {B : Type 0} (t : B → Bool) (f : A → B) (l : List A) → every t (map f l) ≡ every (λ a. t (f a)) l
  every_map t f [] = refl
  every_map t f (x ∷ xs) = rw (every_map t f xs)

  pub any_append : (t : A → Bool) (l k : List A) → any t (l ++ k) ≡ (any t l || any t k)
  any_append t [] k = refl
  any_append t (x ∷ xs) k = rw (any_append t xs k) (sym (or_assoc (t x) (any t xs) (any t k)))

  pub any_map : {B : Type 0} (t : B → Bool) (f : A → B) (l : List A) → any t (map f l) ≡ any (λ a. t (f a)) l
  any_map t f [] = refl
  any_map t f (x ∷ xs) = rw (any_map t f xs)

  -- keep -------------------------------------------------------------------------

  pub keep_append : (t : A → Bool) (l k : List A) → keep t (l ++ k) ≡ keep t l ++ keep t k
  unfolding keep
  keep_append t [] k = refl
  keep_append t (x ∷ xs) k = go (t x) (keep_append t xs k)
    where
      go : (b : Bool) → keep t (xs ++ k) ≡ keep t xs ++ keep t k
          → cond b (x ∷ keep t (xs ++ k)) (keep t (xs ++ k)) ≡ cond b (x ∷ keep t xs) (keep t xs) ++ keep t k
      go true e = rw e
      go false e = e

  -- two tests in either order
  pub keep_keep : (t s : A → Bool) (l : List A) → keep t (keep s l) ≡ keep s (keep t l)
  unfolding keep
  keep_keep t s [] = refl
  keep_keep t s (x ∷ xs) = go (t x) refl (s x) refl (keep_keep t s xs)
    where
      go : (b : Bool) → t x ≡ b → (c : Bool) → s x ≡ c → keep t (keep s xs) ≡ keep s (keep t xs)
          → keep t (cond c (x ∷ keep s xs) (keep s xs)) ≡ keep s (cond b (x ∷ keep t xs) (keep t xs))
      go true p true q e = rw (p, q, e)
      go true p false q e = rw (q, e)
      go false p true q e = rw (p, e)
      go false p false q e = e

  -- a test that all pass
  pub keep_all : (t : A → Bool) (l : List A) → ((a : A) → Memᴰ a l → t a ≡ true) → keep t l ≡ l
  unfolding keep
  keep_all t [] h = refl
  keep_all t (x ∷ xs) h = rw (h x (Memᴰ.head refl), keep_all t xs (λ a m. h a (Memᴰ.tail m)))

  -- a test that none passes
  pub keep_none : (t : A → Bool) (l : List A) → ((a : A) → Memᴰ a l → t a ≡ false) → keep t l ≡ []
  unfolding keep
  keep_none t [] h = refl
  keep_none t (x ∷ xs) h = rw (h x (Memᴰ.head refl), keep_none t xs (λ a m. h a (Memᴰ.tail m)))

  -- tests that agree
  pub keep_same : (t s : A → Bool) (l : List A) → ((a : A) → Memᴰ a l → t a ≡ s a) → keep t l ≡ keep s l
  unfolding keep
  keep_same t s [] h = refl
  keep_same t s (x ∷ xs) h = rw (h x (Memᴰ.head refl), keep_same t s xs (λ a m. h a (Memᴰ.tail m)))

  -- what is kept was there and passes
  pub in_keep : (t : A → Bool) (l : List A) {a : A} → Memᴰ a (keep t l) → Memᴰ a l × (t a ≡ true)
  unfolding keep
  in_keep t [] m = absurd (Memᴰ.not-nil m)
  in_keep t (x ∷ xs) {a} m = go (t x) refl (λ i. in_keep t xs i) m
    where
      down : Memᴰ a xs × (t a ≡ true) → Memᴰ a (x ∷ xs) × (t a ≡ true)
      down h = (Memᴰ.tail h.0, h.1)

      split : t x ≡ true → (Memᴰ a (keep t xs) → Memᴰ a xs × (t a ≡ true)) → (a ≡ x) ⊎ Memᴰ a (keep t xs)
          → Memᴰ a (x ∷ xs) × (t a ≡ true)
      split p below (inl e) = (Memᴰ.head e, ap t e ∙ p)
      split p below (inr i) = down (below i)

      go : (b : Bool) → t x ≡ b → (Memᴰ a (keep t xs) → Memᴰ a xs × (t a ≡ true))
          → Memᴰ a (cond b (x ∷ keep t xs) (keep t xs))
          → Memᴰ a (x ∷ xs) × (t a ≡ true)
      go true p below i = split p below (Memᴰ.cases_cons i)
      go false p below i = down (below i)

  -- what was there and passes is kept
  pub keep_in : (t : A → Bool) (l : List A) {a : A} → Memᴰ a l → t a ≡ true → Memᴰ a (keep t l)
  unfolding keep
  keep_in t [] m h = absurd (Memᴰ.not-nil m)
  keep_in t (x ∷ xs) (Memᴰ.head e) h = rw (ap t (sym e) ∙ h) (Memᴰ.head e)
  keep_in t (x ∷ xs) {a} (Memᴰ.tail m) h = go (t x) (keep_in t xs m h)
    where
      go : (b : Bool) → Memᴰ a (keep t xs) → Memᴰ a (cond b (x ∷ keep t xs) (keep t xs))
      go true i = Memᴰ.tail i
      go false i = i

  -- a test of what a map gives
  pub keep_map : {B : Type 0} (t : B → Bool) (s : A → Bool) (f : A → B) (l : List A) → ((a : A) → Memᴰ a l → t (f a) ≡ s a)
      → keep t (map f l) ≡ map f (keep s l)
  unfolding keep
  keep_map t s f [] h = refl
  keep_map t s f (x ∷ xs) h = rw (h x (Memᴰ.head refl)) (go (s x) (keep_map t s f xs (λ a m. h a (Memᴰ.tail m))))
    where
      go : (b : Bool) → keep t (map f xs) ≡ map f (keep s xs)
          → cond b (f x ∷ keep t (map f xs)) (keep t (map f xs)) ≡ map f (cond b (x ∷ keep s xs) (keep s xs))
      go true e = rw e
      go false e = e

  -- how many pass
  abbrev pub count : (A → Bool) → List A → ℕ
  count t l = length (keep t l)

  pub count_nil : (t : A → Bool) → count t [] ≡ 0
  unfolding keep
  count_nil t = refl

  pub count_cons : (t : A → Bool) (x : A) (l : List A) → count t (x ∷ l) ≡ cond (t x) 1 0 + count t l
  unfolding keep
  count_cons t x l = go (t x)
    where
      go : (b : Bool) → length (cond b (x ∷ keep t l) (keep t l)) ≡ cond b 1 0 + length (keep t l)
      go true = omega arith
      go false = omega arith

  pub count_append : (t : A → Bool) (l k : List A) → count t (l ++ k) ≡ count t l + count t k
  count_append t l k = ap length (keep_append t l k) ∙ length-append (keep t l) (keep t k)

  pub count_some : (t : A → Bool) (l : List A) {a : A} → Memᴰ a l → t a ≡ true → 1 ≤ count t l
  count_some t l {a} m h = go (keep t l) (keep_in t l m h)
    where
      go : (k : List A) → Memᴰ a k → 1 ≤ length k
      go [] i = absurd (Memᴰ.not-nil i)
      go (x ∷ k) i = omega arith

  -- map --------------------------------------------------------------------------

  pub map_map : {B C : Type 0} (g : B → C) (f : A → B) (h : A → C) (l : List A) → ((a : A) → Memᴰ a l → g (f a) ≡ h a)
      → map g (map f l) ≡ map h l
  map_map g f h [] e = refl
  map_map g f h (x ∷ xs) e = rw (e x (Memᴰ.head refl), map_map g f h xs (λ a m. e a (Memᴰ.tail m)))

  pub map_append : {B : Type 0} (f : A → B) (l k : List A) → map f (l ++ k) ≡ map f l ++ map f k
  map_append f [] k = refl
  map_append f (x ∷ xs) k = rw (map_append f xs k)

  pub map_same : {B : Type 0} (f g : A → B) (l : List A) → ((a : A) → Memᴰ a l → f a ≡ g a) → map f l ≡ map g l
  map_same f g [] h = refl
  map_same f g (x ∷ xs) h = rw (h x (Memᴰ.head refl), map_same f g xs (λ a m. h a (Memᴰ.tail m)))

  pub map_self : (f : A → A) (l : List A) → ((a : A) → Memᴰ a l → f a ≡ a) → map f l ≡ l
  map_self f [] h = refl
  map_self f (x ∷ xs) h = rw (h x (Memᴰ.head refl), map_self f xs (λ a m. h a (Memᴰ.tail m)))

  pub in_map : {B : Type 0} (f : A → B) (l : List A) {b : B} → Memᴰ b (map f l) → (a : A) × Memᴰ a l × (b ≡ f a)
  in_map f [] m = absurd (Memᴰ.not-nil m)
  in_map f (x ∷ xs) (Memᴰ.head e) = (x, Memᴰ.head refl, e)
  in_map f (x ∷ xs) (Memᴰ.tail m) = let g = in_map f xs m in (g.0, Memᴰ.tail g.1, g.2)

  pub map_in : {B : Type 0} (f : A → B) {a : A} {l : List A} → Memᴰ a l → Memᴰ (f a) (map f l)
  map_in f (Memᴰ.head e) = Memᴰ.head (ap f e)
  map_in f (Memᴰ.tail m) = Memᴰ.tail (map_in f m)

-- has ----------------------------------------------------------------------------

pub eqb_flip : (m n : ℕ) → eqb m n ≡ false → eqb n m ≡ false
eqb_flip m n h = ne_eqb n m (λ e. eqb-false m n h (sym e))

pub has_in : (n : ℕ) (l : List ℕ) → has n l ≡ true → Memᴰ n l
has_in n [] h = absurd (false≢true h)
has_in n (q ∷ l) h = go (or_cases (eqb q n) (has n l) h) (has_in n l)
  where
    go : (eqb q n ≡ true) ⊎ (has n l ≡ true) → (has n l ≡ true → Memᴰ n l) → Memᴰ n (q ∷ l)
    go (inl e) f = Memᴰ.head (sym (eqb-true q n e))
    go (inr e) f = Memᴰ.tail (f e)

pub in_has : (n : ℕ) (l : List ℕ) → Memᴰ n l → has n l ≡ true
in_has n l m = at_any (λ q. eqb q n) l m (eq-eqb n n refl)
