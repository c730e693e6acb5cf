-- `put`: the rows that are kept and those that are new.
use Rattle.std.specs.Prelude.{◌≡◌, Bool, cond, List, ◌∷◌, ◌++◌, ◌⊎◌}
use Rattle.std.proofs.Math.Path.{refl, sym}
use Rattle.std.proofs.Common.{ap, ◌∙◌, arith}
use Prim.Native.Nat.{ℕ, zero, suc, ◌+◌}
use Rattle.std.proofs.Math.Bool.{true, false}
use Rattle.std.proofs.Math.Logic.{inl, inr}
use Rattle.tree.specs.Lists.{keep}
use Rattle.tree.specs.Forest.{Forest, nil, node, Row, row, rows, place, put}
use Rattle.tree.specs.Laws.Lists.{keep_append, count, count_nil, count_cons, count_append}
use Rattle.tree.specs.Laws.Rows.{In, self, inner, later, line, not_in_nil}

module _ {A : Type 0} (parent counts : A → Bool) (k : ℕ) (new : A) {K : Type 0} (key : A → K) where
  -- the new row below a parent's
  abbrev pub new_row : Row A K → Row A K
  new_row s = row new (line key s)

  place_kept : (t : Row A K → Bool) (k : ℕ) (p : List K) (f : Forest A) → t (row new p) ≡ false
      → keep t (rows key p (place counts k new f)) ≡ keep t (rows key p f)
  unfolding rows place keep
  place_kept t zero p f h = rw h
  place_kept t (suc zero) p f h = rw h
  place_kept t (suc (suc k)) p nil h = rw h
  place_kept t (suc (suc k)) p (node a ks fs) h = go (counts a) (place_kept t (suc k) p fs h) (place_kept t (suc (suc k)) p fs h)
    where
      go : (c : Bool) → keep t (rows key p (place counts (suc k) new fs)) ≡ keep t (rows key p fs)
          → keep t (rows key p (place counts (suc (suc k)) new fs)) ≡ keep t (rows key p fs)
          → keep t (rows key p (node a ks (cond c (place counts (suc k) new fs) (place counts (suc (suc k)) new fs))))
          ≡ keep t (rows key p (node a ks fs))
      go true u v =
          rw (
            keep_append t (rows key (key a ∷ p) ks) (rows key p (place counts (suc k) new fs)),
            u,
            ← keep_append t (rows key (key a ∷ p) ks) (rows key p fs),
          )
      go false u v =
          rw (
            keep_append t (rows key (key a ∷ p) ks) (rows key p (place counts (suc (suc k)) new fs)),
            v,
            ← keep_append t (rows key (key a ∷ p) ks) (rows key p fs),
          )

  -- of the rows that pass a test which new rows fail nothing changes
  pub put_kept : (t : Row A K → Bool) (p : List K) (f : Forest A)
      → ((s : Row A K) → In key s p f → parent s.it ≡ true → t (new_row s) ≡ false)
      → keep t (rows key p (put parent counts k new f)) ≡ keep t (rows key p f)
  unfolding rows put keep
  put_kept t p nil h = refl
  put_kept t p (node a ks fs) h =
      go (parent a) refl (put_kept t (key a ∷ p) ks (λ r m. h r (inner m))) (put_kept t p fs (λ r m. h r (later m)))
    where
      go : (e : Bool) → parent a ≡ e → keep t (rows key (key a ∷ p) (put parent counts k new ks)) ≡ keep t (rows key (key a ∷ p) ks)
          → keep t (rows key p (put parent counts k new fs)) ≡ keep t (rows key p fs)
          → keep t (rows key p (node a (cond e (place counts k new (put parent counts k new ks)) (put parent counts k new ks))
          (put parent counts k new fs)))
          ≡ keep t (rows key p (node a ks fs))
      go true e u v =
          rw (
            keep_append t (rows key (key a ∷ p) (place counts k new (put parent counts k new ks)))
                (rows key p (put parent counts k new fs)),
            v,
            place_kept t k (key a ∷ p) (put parent counts k new ks) (h (row a p) (self refl) e),
            u,
            ← keep_append t (rows key (key a ∷ p) ks) (rows key p fs),
          )
      go false e u v =
          rw (
            keep_append t (rows key (key a ∷ p) (put parent counts k new ks)) (rows key p (put parent counts k new fs)),
            v,
            u,
            ← keep_append t (rows key (key a ∷ p) ks) (rows key p fs),
          )

  -- the new row of some parent
  abbrev pub New : Row A K → List K → Forest A → Type 0
  New r p f = (s : Row A K) × In key s p f × (parent s.it ≡ true) × (r ≡ new_row s)

  in_place : (k : ℕ) {r : Row A K} (p : List K) (f : Forest A) → In key r p (place counts k new f) → In key r p f ⊎ (r ≡ row new p)
  unfolding place
  in_place zero p f (self e) = inr e
  in_place zero p f (inner i) = absurd (not_in_nil key i)
  in_place zero p f (later i) = inl i
  in_place (suc zero) p f (self e) = inr e
  in_place (suc zero) p f (inner i) = absurd (not_in_nil key i)
  in_place (suc zero) p f (later i) = inl i
  in_place (suc (suc k)) p nil (self e) = inr e
  in_place (suc (suc k)) p nil (inner i) = absurd (not_in_nil key i)
  in_place (suc (suc k)) p nil (later i) = absurd (not_in_nil key i)
  in_place (suc (suc k)) p (node a ks fs) (self e) = inl (self e)
  in_place (suc (suc k)) p (node a ks fs) (inner i) = inl (inner i)
  in_place (suc (suc k)) {r} p (node a ks fs) (later i) =
      go (counts a) i (λ j. in_place (suc k) p fs j) (λ j. in_place (suc (suc k)) p fs j)
    where
      lift : In key r p fs ⊎ (r ≡ row new p) → In key r p (node a ks fs) ⊎ (r ≡ row new p)
      lift (inl x) = inl (later x)
      lift (inr x) = inr x

      go : (c : Bool) → In key r p (cond c (place counts (suc k) new fs) (place counts (suc (suc k)) new fs))
          → (In key r p (place counts (suc k) new fs) → In key r p fs ⊎ (r ≡ row new p))
          → (In key r p (place counts (suc (suc k)) new fs) → In key r p fs ⊎ (r ≡ row new p))
          → In key r p (node a ks fs) ⊎ (r ≡ row new p)
      go true j u v = lift (u j)
      go false j u v = lift (v j)

  -- a row was there, or is new
  pub in_put : {r : Row A K} (p : List K) (f : Forest A) → In key r p (put parent counts k new f) → In key r p f ⊎ New r p f
  unfolding put
  in_put p nil m = absurd (not_in_nil key m)
  in_put p (node a ks fs) (self e) = inl (self e)
  in_put {r} p (node a ks fs) (inner m) = go (parent a) refl m (λ i. in_put (key a ∷ p) ks i)
    where
      up : In key r (key a ∷ p) ks ⊎ New r (key a ∷ p) ks → In key r p (node a ks fs) ⊎ New r p (node a ks fs)
      up (inl x) = inl (inner x)
      up (inr x) = inr (x.0, inner x.1, x.2, x.3)

      fresh : parent a ≡ true → (In key r (key a ∷ p) (put parent counts k new ks) → In key r (key a ∷ p) ks ⊎ New r (key a ∷ p) ks)
          → In key r (key a ∷ p) (put parent counts k new ks) ⊎ (r ≡ row new (key a ∷ p))
          → In key r p (node a ks fs) ⊎ New r p (node a ks fs)
      fresh e below (inl x) = up (below x)
      fresh e below (inr x) = inr (row a p, self refl, e, x)

      go : (t : Bool) → parent a ≡ t
          → In key r (key a ∷ p) (cond t (place counts k new (put parent counts k new ks)) (put parent counts k new ks))
          → (In key r (key a ∷ p) (put parent counts k new ks) → In key r (key a ∷ p) ks ⊎ New r (key a ∷ p) ks)
          → In key r p (node a ks fs) ⊎ New r p (node a ks fs)
      go true e x below = fresh e below (in_place k (key a ∷ p) (put parent counts k new ks) x)
      go false e x below = up (below x)
  in_put {r} p (node a ks fs) (later m) = go (in_put p fs m)
    where
      go : In key r p fs ⊎ New r p fs → In key r p (node a ks fs) ⊎ New r p (node a ks fs)
      go (inl x) = inl (later x)
      go (inr x) = inr (x.0, later x.1, x.2, x.3)

  place_in : (k : ℕ) {r : Row A K} {p : List K} (f : Forest A) → In key r p f → In key r p (place counts k new f)
  unfolding place
  place_in zero f m = later m
  place_in (suc zero) f m = later m
  place_in (suc (suc k)) nil m = absurd (not_in_nil key m)
  place_in (suc (suc k)) (node a ks fs) (self e) = self e
  place_in (suc (suc k)) (node a ks fs) (inner m) = inner m
  place_in (suc (suc k)) {r} {p} (node a ks fs) (later m) = later (go (counts a) (place_in (suc k) fs m) (place_in (suc (suc k)) fs m))
    where
      go : (c : Bool) → In key r p (place counts (suc k) new fs) → In key r p (place counts (suc (suc k)) new fs)
          → In key r p (cond c (place counts (suc k) new fs) (place counts (suc (suc k)) new fs))
      go true u v = u
      go false u v = v

  place_new : (k : ℕ) (p : List K) (f : Forest A) → In key (row new p) p (place counts k new f)
  unfolding place
  place_new zero p f = self refl
  place_new (suc zero) p f = self refl
  place_new (suc (suc k)) p nil = self refl
  place_new (suc (suc k)) p (node a ks fs) = later (go (counts a) (place_new (suc k) p fs) (place_new (suc (suc k)) p fs))
    where
      go : (c : Bool) → In key (row new p) p (place counts (suc k) new fs) → In key (row new p) p (place counts (suc (suc k)) new fs)
          → In key (row new p) p (cond c (place counts (suc k) new fs) (place counts (suc (suc k)) new fs))
      go true u v = u
      go false u v = v

  -- a row that was there is there
  pub put_in : {r : Row A K} {p : List K} {f : Forest A} → In key r p f → In key r p (put parent counts k new f)
  unfolding put
  put_in (self e) = self e
  put_in {r} (inner {a = a} {p = p} {ks = ks} m) = inner (go (parent a) (put_in m))
    where
      go : (t : Bool) → In key r (key a ∷ p) (put parent counts k new ks)
          → In key r (key a ∷ p) (cond t (place counts k new (put parent counts k new ks)) (put parent counts k new ks))
      go true i = place_in k (put parent counts k new ks) i
      go false i = i
  put_in (later m) = later (put_in m)

  -- each parent has a new row below it
  pub put_new : {s : Row A K} {p : List K} {f : Forest A} → In key s p f → parent s.it ≡ true
      → In key (new_row s) p (put parent counts k new f)
  unfolding put
  put_new {s} (self {a = a} {p = p} {ks = ks} {fs = fs} e) h =
      rw (e, sym (ap (λ (r : Row A K). parent r.it) e) ∙ h) (inner (place_new k (key a ∷ p) (put parent counts k new ks)))
  put_new {s} (inner {a = a} {p = p} {ks = ks} m) h = inner (go (parent a) (put_new m h))
    where
      go : (t : Bool) → In key (new_row s) (key a ∷ p) (put parent counts k new ks)
          → In key (new_row s) (key a ∷ p) (cond t (place counts k new (put parent counts k new ks)) (put parent counts k new ks))
      go true i = place_in k (put parent counts k new ks) i
      go false i = i
  put_new (later m) h = later (put_new m h)

  place_count : (t : Row A K → Bool) (k : ℕ) (p : List K) (f : Forest A) → t (row new p) ≡ true
      → count t (rows key p (place counts k new f)) ≡ 1 + count t (rows key p f)
  unfolding rows place keep
  place_count t zero p f h = rw h (omega arith)
  place_count t (suc zero) p f h = rw h (omega arith)
  place_count t (suc (suc k)) p nil h = rw h (omega arith)
  place_count t (suc (suc k)) p (node a ks fs) h =
      rw (count_cons t (row a p) (rows key (key a ∷ p) ks ++ rows key p fs), count_append t (rows key (key a ∷ p) ks) (rows key p fs))
      (go (counts a) (place_count t (suc k) p fs h) (place_count t (suc (suc k)) p fs h))
    where
      one_more : (f : Forest A) → count t (rows key p f) ≡ 1 + count t (rows key p fs)
          → count t (row a p ∷ (rows key (key a ∷ p) ks ++ rows key p f))
          ≡ 1 + (cond (t (row a p)) 1 0 + (count t (rows key (key a ∷ p) ks) + count t (rows key p fs)))
      one_more f e =
          rw (
            count_cons t (row a p) (rows key (key a ∷ p) ks ++ rows key p f),
            count_append t (rows key (key a ∷ p) ks)
                (rows key p f),
            e,
          )
          (omega arith)

      go : (c : Bool) → count t (rows key p (place counts (suc k) new fs)) ≡ 1 + count t (rows key p fs)
          → count t (rows key p (place counts (suc (suc k)) new fs)) ≡ 1 + count t (rows key p fs)
          → count t (rows key p (node a ks (cond c (place counts (suc k) new fs) (place counts (suc (suc k)) new fs))))
          ≡ 1 + (cond (t (row a p)) 1 0 + (count t (rows key (key a ∷ p) ks) + count t (rows key p fs)))
      go true u v = one_more (place counts (suc k) new fs) u
      go false u v = one_more (place counts (suc (suc k)) new fs) v

  abbrev pub is_parent : Row A K → Bool
  is_parent s = parent s.it

  -- how many rows pass a test that new rows pass: one more for each parent
  pub put_count : (t : Row A K → Bool) (p : List K) (f : Forest A)
      → ((s : Row A K) → In key s p f → is_parent s ≡ true → t (new_row s) ≡ true)
      → count t (rows key p (put parent counts k new f)) ≡ count is_parent (rows key p f) + count t (rows key p f)
  unfolding rows put
  put_count t p nil h = rw (count_nil t, count_nil is_parent)
  put_count t p (node a ks fs) h =
      rw (
        count_cons t (row a p) (rows key (key a ∷ p) ks ++ rows key p fs),
        count_append t (rows key (key a ∷ p) ks) (rows key p fs),
        count_cons is_parent (row a p) (rows key (key a ∷ p) ks ++ rows key p fs),
        count_append is_parent (rows key (key a ∷ p) ks) (rows key p fs),
      )
      (go (parent a) refl (put_count t (key a ∷ p) ks (λ s m. h s (inner m))) (put_count t p fs (λ s m. h s (later m))))
    where
      kids : Forest A
      kids = put parent counts k new ks

      split : (f g : Forest A)
          → count t (row a p ∷ (rows key (key a ∷ p) f ++ rows key p g))
          ≡ cond (t (row a p)) 1 0 + (count t (rows key (key a ∷ p) f) + count t (rows key p g))
      split f g =
          count_cons t (row a p) (rows key (key a ∷ p) f ++ rows key p g)
          ∙ ap (λ (n : ℕ). cond (t (row a p)) 1 0 + n) (count_append t (rows key (key a ∷ p) f) (rows key p g))

      go : (e : Bool) → parent a ≡ e
          → count t (rows key (key a ∷ p) kids) ≡ count is_parent (rows key (key a ∷ p) ks) + count t (rows key (key a ∷ p) ks)
          → count t (rows key p (put parent counts k new fs)) ≡ count is_parent (rows key p fs) + count t (rows key p fs)
          → count t (rows key p (node a (cond e (place counts k new kids) kids) (put parent counts k new fs)))
          ≡ (cond e 1 0 + (count is_parent (rows key (key a ∷ p) ks) + count is_parent (rows key p fs)))
          + (cond (t (row a p)) 1 0 + (count t (rows key (key a ∷ p) ks) + count t (rows key p fs)))
      go true e u v =
          rw (
            split (place counts k new kids) (put parent counts k new fs),
            place_count t k (key a ∷ p) kids
                (h (row a p) (self refl) e),
            u,
            v,
          )
          (omega arith)
      go false e u v = rw (split kids (put parent counts k new fs), u, v) (omega arith)
