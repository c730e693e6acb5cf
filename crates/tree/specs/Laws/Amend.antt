-- `amend`: the rows afterwards, one amendment after another, and amendments that agree.
use Rattle.std.specs.Prelude.{◌≡◌, List, ◌∷◌, map}
use Rattle.std.proofs.Math.Path.{refl}
use Rattle.std.proofs.Common.{ap}
use Rattle.tree.specs.Forest.{Forest, nil, node, Row, row, rows, amend}
use Rattle.tree.specs.Laws.Lists.{map_append, in_map, map_in}
use Rattle.tree.specs.Laws.Rows.{In, self, inner, later, to_rows, of_rows}

module _ {A K : Type 0} (key : A → K) where
  -- amendments that agree on every row
  pub amend_agree : (g h : Row A K → A) (p : List K) (f : Forest A) → ((r : Row A K) → In key r p f → g r ≡ h r)
      → amend key g p f ≡ amend key h p f
  unfolding amend
  amend_agree g h p nil e = refl
  amend_agree g h p (node a ks fs) e =
      rw (e (row a p) (self refl), amend_agree g h (key a ∷ p) ks (λ r m. e r (inner m)), amend_agree g h p fs (λ r m. e r (later m)))

  module _ {K' : Type 0} (key' : A → K') (g : Row A K → A) (above' : List K → List K')
      (new_line : (a : A) (p : List K) → key' (g (row a p)) ∷ above' p ≡ above' (key a ∷ p)) where
    -- the rows afterwards, by any key; above' gives the ancestors' keys afterwards
    pub rows_amend : (p : List K) (f : Forest A)
        → rows key' (above' p) (amend key g p f) ≡ map (λ r. row (g r) (above' r.above)) (rows key p f)
    unfolding rows amend
    rows_amend p nil = refl
    rows_amend p (node a ks fs) =
        rw (
          new_line a p,
          rows_amend (key a ∷ p) ks,
          rows_amend p fs,
          map_append (λ (r : Row A K). row (g r) (above' r.above)) (rows key (key a ∷ p) ks) (rows key p fs),
        )

    -- one amendment after another
    pub amend_amend : (g' : Row A K' → A) (p : List K) (f : Forest A)
        → amend key' g' (above' p) (amend key g p f) ≡ amend key (λ r. g' (row (g r) (above' r.above))) p f
    unfolding amend
    amend_amend g' p nil = refl
    amend_amend g' p (node a ks fs) = rw (new_line a p, amend_amend g' (key a ∷ p) ks, amend_amend g' p fs)

    -- a row afterwards was there before
    pub in_amend : (p : List K) (f : Forest A) {r : Row A K'} → In key' r (above' p) (amend key g p f)
        → (s : Row A K) × In key s p f × (r ≡ row (g s) (above' s.above))
    in_amend p f {r} m =
        let i = in_map (λ (s : Row A K). row (g s) (above' s.above)) (rows key p f) {b = r} (rw (rows_amend p f) at (to_rows key' m)) in
        (i.0, of_rows key i.0 p f i.1, i.2)

    -- a row is there afterwards
    pub amend_in : (p : List K) (f : Forest A) {s : Row A K} → In key s p f
        → In key' (row (g s) (above' s.above)) (above' p) (amend key g p f)
    amend_in p f {s} m =
        of_rows key' _ (above' p) (amend key g p f)
        (rw (rows_amend p f) (map_in (λ (r : Row A K). row (g r) (above' r.above)) (to_rows key m)))

  -- where the keys stay
  module _ (g : Row A K → A) (same_key : (r : Row A K) → key (g r) ≡ key r.it) where
    pub rows_amend_same : (p : List K) (f : Forest A) → rows key p (amend key g p f) ≡ map (λ r. row (g r) r.above) (rows key p f)
    rows_amend_same p f = rows_amend key g (λ q. q) (λ a q. ap (λ (k : K). k ∷ q) (same_key (row a q))) p f

    pub amend_amend_same : (g' : Row A K → A) (p : List K) (f : Forest A)
        → amend key g' p (amend key g p f) ≡ amend key (λ r. g' (row (g r) r.above)) p f
    amend_amend_same g' p f = amend_amend key g (λ q. q) (λ a q. ap (λ (k : K). k ∷ q) (same_key (row a q))) g' p f

    pub in_amend_same : (p : List K) (f : Forest A) {r : Row A K} → In key r p (amend key g p f)
        → (s : Row A K) × In key s p f × (r ≡ row (g s) s.above)
    in_amend_same p f m = in_amend key g (λ q. q) (λ a q. ap (λ (k : K). k ∷ q) (same_key (row a q))) p f m

    pub amend_in_same : (p : List K) (f : Forest A) {s : Row A K} → In key s p f → In key (row (g s) s.above) p (amend key g p f)
    amend_in_same p f m = amend_in key g (λ q. q) (λ a q. ap (λ (k : K). k ∷ q) (same_key (row a q))) p f m
