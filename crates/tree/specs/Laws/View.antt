-- `view`: the rows of what is shown, views of views, views that agree, and views of amended forests.
use Rattle.std.specs.Prelude.{◌≡◌, Bool, ◌&&◌}
use Rattle.std.proofs.Math.Path.{refl}
use Rattle.std.proofs.Common.{sym, ◌∙◌}
use Rattle.std.proofs.Math.Bool.{true, false, cond, and-false}
use mathlib.Core.List.{List, ◌∷◌, ◌++◌, map, Memᴰ}
use Rattle.tree.specs.Lists.{every, keep}
use Rattle.tree.specs.Forest.{Forest, nil, node, Row, row, rows, amend, view}
use Rattle.tree.specs.Laws.Lists.{map_append, keep_append, keep_none, keep_in, in_keep, in_map, map_in, map_self}
use Rattle.tree.specs.Laws.Rows.{In, self, inner, later, line, to_rows, of_rows, every_below}

-- a view of a view
pub view_view : {A B C : Type 0} (shown : A → Bool) (g : A → B) (shown' : B → Bool) (g' : B → C) (f : Forest A)
    → view shown' g' (view shown g f) ≡ view (λ a. shown a && shown' (g a)) (λ a. g' (g a)) f
unfolding view
view_view shown g shown' g' nil = refl
view_view {A} shown g shown' g' (node a ks fs) = go (shown a) (view_view shown g shown' g' ks) (view_view shown g shown' g' fs)
  where
    both : A → Bool
    both x = shown x && shown' (g x)

    go : (t : Bool) → view shown' g' (view shown g ks) ≡ view both (λ x. g' (g x)) ks
        → view shown' g' (view shown g fs) ≡ view both (λ x. g' (g x)) fs
        → view shown' g' (cond t (node (g a) (view shown g ks) (view shown g fs)) (view shown g fs))
        ≡ cond (t && shown' (g a)) (node (g' (g a)) (view both (λ x. g' (g x)) ks) (view both (λ x. g' (g x)) fs))
        (view both (λ x. g' (g x)) fs)
    go true u v = rw (u, v)
    go false u v = v

module _ {A K : Type 0} (key : A → K) (shown : A → Bool) (shown_key : K → Bool) (by_key : (a : A) → shown a ≡ shown_key (key a)) where
  -- the row and all its ancestors are shown
  abbrev pub visible : Row A K → Bool
  visible r = every shown_key (line key r)

  module _ {B K' : Type 0} (g : A → B) (key' : B → K') (above' : List K → List K')
      (new_line : (a : A) (p : List K) → key' (g a) ∷ above' p ≡ above' (key a ∷ p)) where
    abbrev pub viewed : Row A K → Row B K'
    viewed r = row (g r.it) (above' r.above)

    rows_view_along : (p : List K) (f : Forest A) → every shown_key p ≡ true
        → rows key' (above' p) (view shown g f) ≡ map viewed (keep visible (rows key p f))
    unfolding rows view keep
    rows_view_along p nil h = refl
    rows_view_along p (node a ks fs) h = rw (← by_key a) (go (shown a) refl (rows_view_along (key a ∷ p) ks) (rows_view_along p fs h))
      where
        gone : shown a ≡ false → (r : Row A K) → Memᴰ r (rows key (key a ∷ p) ks) → visible r ≡ false
        gone e r m = rw (every_below key shown_key (rw (← by_key a, e)) (of_rows key r (key a ∷ p) ks m))
            (and-false (shown_key (key r.it)))

        go : (t : Bool) → shown a ≡ t
            → (every shown_key (key a ∷ p) ≡ true
            → rows key' (above' (key a ∷ p)) (view shown g ks) ≡ map viewed (keep visible (rows key (key a ∷ p) ks)))
            → rows key' (above' p) (view shown g fs) ≡ map viewed (keep visible (rows key p fs))
            → rows key' (above' p) (cond t (node (g a) (view shown g ks) (view shown g fs)) (view shown g fs))
            ≡ map viewed (cond (t && every shown_key p) (row a p ∷ keep visible (rows key (key a ∷ p) ks ++ rows key p fs))
            (keep visible (rows key (key a ∷ p) ks ++ rows key p fs)))
        go true e u v =
            rw (
              h,
              keep_append visible (rows key (key a ∷ p) ks) (rows key p fs),
              map_append viewed (keep visible (rows key (key a ∷ p) ks)) (keep visible (rows key p fs)),
              ← u (rw (← by_key a, e, h)),
              ← v,
              new_line a p,
            )
        go false e u v = rw (
          keep_append visible (rows key (key a ∷ p) ks) (rows key p fs),
          keep_none visible (rows key (key a ∷ p) ks)
              (gone e),
          v,
        )

    -- a row of the view is shown with all its ancestors
    in_view_along : (p : List K) (f : Forest A) → every shown_key p ≡ true → {r : Row B K'} → In key' r (above' p) (view shown g f)
        → (s : Row A K) × In key s p f × (visible s ≡ true) × (r ≡ viewed s)
    in_view_along p f h {r} m =
        let i = in_map viewed (keep visible (rows key p f)) {b = r} (rw (rows_view_along p f h) at (to_rows key' m)) in
        let j = in_keep visible (rows key p f) {a = i.0} i.1 in
        (i.0, of_rows key i.0 p f j.0, j.1, i.2)

    -- what is shown with all its ancestors is a row of the view
    view_in_along : (p : List K) (f : Forest A) → every shown_key p ≡ true → {s : Row A K} → In key s p f → visible s ≡ true
        → In key' (viewed s) (above' p) (view shown g f)
    view_in_along p f h {s} m v =
        of_rows key' (viewed s) (above' p) (view shown g f)
        (rw (rows_view_along p f h) (map_in viewed (keep_in visible (rows key p f) (to_rows key m) v)))

  -- by another key, which is computed from the first
  module _ {B K' : Type 0} (g : A → B) (key' : B → K') (h : K → K') (keys : (a : A) → key' (g a) ≡ h (key a)) where
    abbrev pub seen : Row A K → Row B K'
    seen r = row (g r.it) (map h r.above)

    new_line : (a : A) (p : List K) → key' (g a) ∷ map h p ≡ map h (key a ∷ p)
    new_line a p = rw (keys a)

    pub rows_view : (p : List K) (f : Forest A) → every shown_key p ≡ true
        → rows key' (map h p) (view shown g f) ≡ map seen (keep visible (rows key p f))
    rows_view p f e = rows_view_along g key' (map h) new_line p f e

    pub in_view : (p : List K) (f : Forest A) → every shown_key p ≡ true → {r : Row B K'} → In key' r (map h p) (view shown g f)
        → (s : Row A K) × In key s p f × (visible s ≡ true) × (r ≡ seen s)
    in_view p f e m = in_view_along g key' (map h) new_line p f e m

    pub view_in : (p : List K) (f : Forest A) → every shown_key p ≡ true → {s : Row A K} → In key s p f → visible s ≡ true
        → In key' (seen s) (map h p) (view shown g f)
    view_in p f e m v = view_in_along g key' (map h) new_line p f e m v

  -- by the same key, of the same nodes: what is left of a forest
  pub rows_rest : (p : List K) (f : Forest A) → every shown_key p ≡ true → rows key p (view shown (λ a. a) f) ≡ keep visible (rows key p f)
  rows_rest p f e = rows_view_along (λ a. a) key (λ q. q) (λ a q. refl) p f e ∙ map_self _ (keep visible (rows key p f)) (λ a m. refl)

  -- views that agree on the rows whose ancestors are shown
  pub view_agree : {B : Type 0} (shown' : A → Bool) (g g' : A → B) (p : List K) (f : Forest A) → every shown_key p ≡ true
      → ((r : Row A K) → In key r p f → every shown_key r.above ≡ true → shown' r.it ≡ shown r.it)
      → ((r : Row A K) → In key r p f → visible r ≡ true → g' r.it ≡ g r.it)
      → view shown' g' f ≡ view shown g f
  unfolding view
  view_agree shown' g g' p nil e t c = refl
  view_agree shown' g g' p (node a ks fs) e t c =
      rw (t (row a p) (self refl) e) (go (shown a) refl
      (λ q. view_agree shown' g g' (key a ∷ p) ks (rw (q, e)) (λ r m. t r (inner m)) (λ r m. c r (inner m)))
      (view_agree shown' g g' p fs e (λ r m. t r (later m)) (λ r m. c r (later m))))
    where
      go : (s : Bool) → shown a ≡ s → (shown_key (key a) ≡ true → view shown' g' ks ≡ view shown g ks) → view shown' g' fs ≡ view shown g fs
          → cond s (node (g' a) (view shown' g' ks) (view shown' g' fs)) (view shown' g' fs)
          ≡ cond s (node (g a) (view shown g ks) (view shown g fs)) (view shown g fs)
      go true q u v = rw (c (row a p) (self refl) (rw (← by_key a, q, e)), u (sym (by_key a) ∙ q), v)
      go false q u v = v

  -- a view of an amended forest is an amended view, if the two amendments agree on what is shown
  pub view_amend : {B K' : Type 0} (shown' : A → Bool) (g g' : A → B) (c : Row A K → A) (key' : B → K') (c' : Row B K' → B)
      (above' : List K → List K')
      → ((a : A) (q : List K) → shown a ≡ true → key' (g a) ∷ above' q ≡ above' (key a ∷ q))
      → (p : List K) (f : Forest A) → every shown_key p ≡ true
      → ((r : Row A K) → In key r p f → every shown_key r.above ≡ true → shown' (c r) ≡ shown r.it)
      → ((r : Row A K) → In key r p f → visible r ≡ true → g' (c r) ≡ c' (row (g r.it) (above' r.above)))
      → view shown' g' (amend key c p f) ≡ amend key' c' (above' p) (view shown g f)
  unfolding view amend
  view_amend shown' g g' c key' c' above' n p nil e t d = refl
  view_amend {B} {K'} shown' g g' c key' c' above' n p (node a ks fs) e t d =
      rw (t (row a p) (self refl) e) (go (shown a) refl
      (λ q. view_amend shown' g g' c key' c' above' n (key a ∷ p) ks (rw (q, e)) (λ r m. t r (inner m)) (λ r m. d r (inner m)))
      (view_amend shown' g g' c key' c' above' n p fs e (λ r m. t r (later m)) (λ r m. d r (later m))))
    where
      go : (s : Bool) → shown a ≡ s
          → (shown_key (key a) ≡ true → view shown' g' (amend key c (key a ∷ p) ks) ≡ amend key' c' (above' (key a ∷ p)) (view shown g ks))
          → view shown' g' (amend key c p fs) ≡ amend key' c' (above' p) (view shown g fs)
          → cond s (node (g' (c (row a p))) (view shown' g' (amend key c (key a ∷ p) ks)) (view shown' g' (amend key c p fs)))
          (view shown' g' (amend key c p fs))
          ≡ amend key' c' (above' p) (cond s (node (g a) (view shown g ks) (view shown g fs)) (view shown g fs))
      go true q u v = rw (d (row a p) (self refl) (rw (← by_key a, q, e)), u (sym (by_key a) ∙ q), v, n a p q)
      go false q u v = v
