-- The rows of a forest, as data: induction on where a row stands.
use Rattle.std.specs.Prelude.{◌≡◌, refl, ℕ, Bool, true, false, ◌||◌, ◌⊎◌, eqb}
use Rattle.std.proofs.lemmas.Bool.{false≢true}
use Rattle.std.proofs.Math.Bool.{or-true, and-false}
use mathlib.Core.List.Memᴰ
use mathlib.Core.List.{List, [], ◌∷◌, ◌++◌, Memᴰ}
use Rattle.std.proofs.Common.{inl, inr, eqb-true}
use Rattle.tree.specs.Lists.{every, any, has}
use Rattle.tree.specs.Forest.{Forest, nil, node, Row, row, rows}

-- a row's own key and its proper ancestors'
abbrev pub line : {A K : Type 0} → (A → K) → Row A K → List K
line key r = key r.it ∷ r.above

module _ {A K : Type 0} (key : A → K) where
  -- r is a row of the forest, whose proper ancestors are p
  pub data In (r : Row A K) : List K → Forest A → Type 0 where
    self : {a : A} {p : List K} {ks fs : Forest A} → r ≡ row a p → In r p (node a ks fs)
    inner : {a : A} {p : List K} {ks fs : Forest A} → In r (key a ∷ p) ks → In r p (node a ks fs)
    later : {a : A} {p : List K} {ks fs : Forest A} → In r p fs → In r p (node a ks fs)

  pub not_in_nil : {r : Row A K} {p : List K} → In r p nil → ⊥
  not_in_nil m = elim m [ ]

  pub to_rows : {r : Row A K} {p : List K} {f : Forest A} → In r p f → Memᴰ r (rows key p f)
  unfolding rows
  to_rows (self e) = Memᴰ.head e
  to_rows (inner m) = Memᴰ.tail (Memᴰ.append_left _ (to_rows m))
  to_rows (later {a = a} {p = p} {ks = ks} m) = Memᴰ.tail (Memᴰ.append_right (rows key (key a ∷ p) ks) (to_rows m))

  pub of_rows : (r : Row A K) (p : List K) (f : Forest A) → Memᴰ r (rows key p f) → In r p f
  unfolding rows
  of_rows r p nil m = absurd (Memᴰ.not-nil m)
  of_rows r p (node a ks fs) m = go (of_rows r (key a ∷ p) ks) (of_rows r p fs) (Memᴰ.cases_cons m)
    where
      deeper : (Memᴰ r (rows key (key a ∷ p) ks) → In r (key a ∷ p) ks) → (Memᴰ r (rows key p fs) → In r p fs)
          → Memᴰ r (rows key (key a ∷ p) ks) ⊎ Memᴰ r (rows key p fs) → In r p (node a ks fs)
      deeper f g (inl i) = inner (f i)
      deeper f g (inr i) = later (g i)

      go : (Memᴰ r (rows key (key a ∷ p) ks) → In r (key a ∷ p) ks) → (Memᴰ r (rows key p fs) → In r p fs)
          → (r ≡ row a p) ⊎ Memᴰ r (rows key (key a ∷ p) ks ++ rows key p fs) → In r p (node a ks fs)
      go f g (inl e) = self e
      go f g (inr i) = deeper f g (Memᴰ.append_cases (rows key (key a ∷ p) ks) i)

  -- ancestors ----------------------------------------------------------------------

  -- a row's parent has a row
  pub parent_row : {r : Row A K} {p : List K} {f : Forest A} → In r p f
      → (r.above ≡ p) ⊎ ((s : Row A K) × In s p f × (r.above ≡ line key s))
  parent_row (self e) = inl (rw e)
  parent_row {r} (inner {a = a} {p = p} {ks = ks} {fs = fs} m) = go (parent_row m)
    where
      go : (r.above ≡ key a ∷ p) ⊎ ((s : Row A K) × In s (key a ∷ p) ks × (r.above ≡ line key s))
          → (r.above ≡ p) ⊎ ((s : Row A K) × In s p (node a ks fs) × (r.above ≡ line key s))
      go (inl e) = inr (row a p, self refl, e)
      go (inr g) = inr (g.0, inner g.1, g.2)
  parent_row {r} (later {a = a} {p = p} {ks = ks} {fs = fs} m) = go (parent_row m)
    where
      go : (r.above ≡ p) ⊎ ((s : Row A K) × In s p fs × (r.above ≡ line key s))
          → (r.above ≡ p) ⊎ ((s : Row A K) × In s p (node a ks fs) × (r.above ≡ line key s))
      go (inl e) = inl e
      go (inr g) = inr (g.0, later g.1, g.2)

  -- each key of the list, with those behind it
  abbrev pub Each : (K → List K → Type 0) → List K → Type 0
  Each q [] = Unit {0}
  Each q (k ∷ p) = q k p × Each q p

  -- what holds for every row, by its key and ancestors, holds for a row and all its ancestors
  pub each_above : (q : K → List K → Type 0) {r : Row A K} {p : List K} {f : Forest A} → Each q p
      → ((s : Row A K) → In s p f → q (key s.it) s.above) → In r p f → Each q (line key r)
  each_above q {r} u h (self e) = (h r (self e), rw e u)
  each_above q u h (inner {a = a} {p = p} m) = each_above q (h (row a p) (self refl), u) (λ s i. h s (inner i)) m
  each_above q u h (later m) = each_above q u (λ s i. h s (later i)) m

  -- an ancestor stands above the whole, or has a row
  pub ancestor_row : {r : Row A K} {p : List K} {f : Forest A} {k : K} → In r p f → Memᴰ k r.above
      → Memᴰ k p ⊎ ((s : Row A K) × In s p f × (k ≡ key s.it))
  ancestor_row {r} {k = k} (self {p = p} e) m = inl (rw e at m)
  ancestor_row {r} {k = k} (inner {a = a} {p = p} {ks = ks} {fs = fs} i) m = go (ancestor_row i m)
    where
      top : (k ≡ key a) ⊎ Memᴰ k p → Memᴰ k p ⊎ ((s : Row A K) × In s p (node a ks fs) × (k ≡ key s.it))
      top (inl e) = inr (row a p, self refl, e)
      top (inr j) = inl j

      go : Memᴰ k (key a ∷ p) ⊎ ((s : Row A K) × In s (key a ∷ p) ks × (k ≡ key s.it))
          → Memᴰ k p ⊎ ((s : Row A K) × In s p (node a ks fs) × (k ≡ key s.it))
      go (inl j) = top (Memᴰ.cases_cons j)
      go (inr g) = inr (g.0, inner g.1, g.2)
  ancestor_row {r} {k = k} (later {a = a} {p = p} {ks = ks} {fs = fs} i) m = go (ancestor_row i m)
    where
      go : Memᴰ k p ⊎ ((s : Row A K) × In s p fs × (k ≡ key s.it))
          → Memᴰ k p ⊎ ((s : Row A K) × In s p (node a ks fs) × (k ≡ key s.it))
      go (inl j) = inl j
      go (inr g) = inr (g.0, later g.1, g.2)

  -- a test that fails on an ancestor of the whole fails above every row; one that passes there passes above every row
  pub every_below : (t : K → Bool) {r : Row A K} {p : List K} {f : Forest A} → every t p ≡ false → In r p f → every t r.above ≡ false
  every_below t h (self e) = rw e h
  every_below t h (inner {a = a} m) = every_below t (rw h (and-false (t (key a)))) m
  every_below t h (later m) = every_below t h m

  pub any_below : (t : K → Bool) {r : Row A K} {p : List K} {f : Forest A} → any t p ≡ true → In r p f → any t r.above ≡ true
  any_below t h (self e) = rw e h
  any_below t h (inner {a = a} m) = any_below t (rw h (or-true (t (key a)))) m
  any_below t h (later m) = any_below t h m

-- keys that are numbers --------------------------------------------------------------

module _ {A : Type 0} (key : A → ℕ) where
  -- a row in the subtree of n, where n stands not above the whole: n has a row
  pub subtree_row : (n : ℕ) {r : Row A ℕ} {p : List ℕ} {f : Forest A} → has n p ≡ false → In key r p f → has n (line key r) ≡ true
      → (s : Row A ℕ) × In key s p f × (key s.it ≡ n)
  subtree_row n {r} h (self {a = a} {p = p} {ks = ks} {fs = fs} e) u = go (eqb (key a) n) refl (rw (e, h) at u)
    where
      go : (t : Bool) → eqb (key a) n ≡ t → (eqb (key a) n || false) ≡ true → (s : Row A ℕ) × In key s p (node a ks fs) × (key s.it ≡ n)
      go true q v = (row a p, self refl, eqb-true (key a) n q)
      go false q v = absurd (false≢true (rw q at v))
  subtree_row n {r} h (inner {a = a} {p = p} {ks = ks} {fs = fs} m) u = go (eqb (key a) n) refl (λ q. subtree_row n q m u)
    where
      go : (t : Bool) → eqb (key a) n ≡ t → (has n (key a ∷ p) ≡ false → (s : Row A ℕ) × In key s (key a ∷ p) ks × (key s.it ≡ n))
          → (s : Row A ℕ) × In key s p (node a ks fs) × (key s.it ≡ n)
      go true q f = (row a p, self refl, eqb-true (key a) n q)
      go false q f = let g = f (rw (q, h)) in (g.0, inner g.1, g.2)
  subtree_row n h (later m) u = let g = subtree_row n h m u in (g.0, later g.1, g.2)

  -- x has a row in the subtree of y
  abbrev pub Nested : ℕ → ℕ → List ℕ → Forest A → Type 0
  Nested x y p f = (s : Row A ℕ) × In key s p f × (key s.it ≡ x) × (has y (line key s) ≡ true)

  -- a row in the subtrees of both x and y: one of the two is in the other's subtree
  pub nested : (x y : ℕ) {r : Row A ℕ} {p : List ℕ} {f : Forest A} → has x p ≡ false → has y p ≡ false → In key r p f
      → has x (line key r) ≡ true → has y (line key r) ≡ true → Nested x y p f ⊎ Nested y x p f
  nested x y {r} hx hy (self {a = a} {p = p} {ks = ks} {fs = fs} e) u v = go (eqb (key a) x) refl (rw (e, hx) at u)
    where
      go : (t : Bool) → eqb (key a) x ≡ t → (eqb (key a) x || false) ≡ true → Nested x y p (node a ks fs) ⊎ Nested y x p (node a ks fs)
      go true q w = inl (row a p, self refl, eqb-true (key a) x q, rw e at v)
      go false q w = absurd (false≢true (rw q at w))
  nested x y {r} hx hy (inner {a = a} {p = p} {ks = ks} {fs = fs} m) u v =
      go (eqb (key a) x) refl (eqb (key a) y) refl (λ i j. nested x y i j m u v)
    where
      lift : Nested x y (key a ∷ p) ks ⊎ Nested y x (key a ∷ p) ks → Nested x y p (node a ks fs) ⊎ Nested y x p (node a ks fs)
      lift (inl g) = inl (g.0, inner g.1, g.2, g.3)
      lift (inr g) = inr (g.0, inner g.1, g.2, g.3)

      -- z has a row below a, which is w
      deep : (z w : ℕ) → has z (key a ∷ p) ≡ false → has w (key a ∷ p) ≡ true → has z (line key r) ≡ true → Nested z w p (node a ks fs)
      deep z w hz hw uz = let g = subtree_row z hz m uz in
          (g.0, inner g.1, g.2, rw (any_below key (λ q. eqb q w) hw g.1) (or-true (eqb (key g.0.it) w)))

      go : (s : Bool) → eqb (key a) x ≡ s → (t : Bool) → eqb (key a) y ≡ t
          → (has x (key a ∷ p) ≡ false → has y (key a ∷ p) ≡ false → Nested x y (key a ∷ p) ks ⊎ Nested y x (key a ∷ p) ks)
          → Nested x y p (node a ks fs) ⊎ Nested y x p (node a ks fs)
      go true i true j f = inl (row a p, self refl, eqb-true (key a) x i, rw j)
      go true i false j f = inr (deep y x (rw (j, hy)) (rw i) v)
      go false i true j f = inl (deep x y (rw (i, hx)) (rw j) u)
      go false i false j f = lift (f (rw (i, hx)) (rw (j, hy)))
  nested x y {r} hx hy (later {a = a} {p = p} {ks = ks} {fs = fs} m) u v = lift (nested x y hx hy m u v)
    where
      lift : Nested x y p fs ⊎ Nested y x p fs → Nested x y p (node a ks fs) ⊎ Nested y x p (node a ks fs)
      lift (inl g) = inl (g.0, later g.1, g.2, g.3)
      lift (inr g) = inr (g.0, later g.1, g.2, g.3)
