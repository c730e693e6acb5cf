-- I: a new child is a new row, behind the subtrees of the children that are counted before it.
use Rattle.std.specs.Prelude.{◌≡◌, Bool, true, false, cond, ◌&&◌, length, eqb, ltb}
use Rattle.std.proofs.Math.Path.{refl}
use Rattle.std.proofs.Common.{sym, ap, ◌∙◌}
use Prim.Native.Nat.{ℕ, zero, suc, ◌+◌, ◌-◌, ◌≤◌, ◌<◌}
use mathlib.Core.List.{List, [], ◌∷◌, ◌++◌, append_assoc}
use native.Mathlib.Omega.{arith}
use Rattle.std.proofs.Math.ListN.{length-append}
use Rattle.std.proofs.Math.Seq.{append_snoc}
use borrow.Author.Tests.{lt-ltb, le-ltb, eq-eqb, ne_eqb}
use Rattle.tree.specs.Forest.{Forest, nil, node, place, put}
use Rattle.protocol.specs.State.{Marked, Tree, has_number, seen_by}
use Rattle.table.specs.Lists.{insert}
use Rattle.table.specs.Flat.{flat}
use Rattle.table.specs.Layout.{Entry}
use Rattle.rows.specs.Places.{depth, unique, below}
use Rattle.rows.proofs.Laws.NodeAt.{not_below}
use Rattle.rows.proofs.Laws.Up.{depth_at, rows_behind}
use Rattle.rows.proofs.Laws.Find.{holder}
use Rattle.rows.specs.Rows.{number_at, before_new, new_place}
use Rattle.rows.proofs.Laws.Lists.{insert_append}

module _ {A : Type 0} (counts : A → Bool) (top : ℕ) where
  -- rows deeper than children are passed by
  new_skip : (j d : ℕ) (f : Forest A) (t : List (ℕ × A)) → suc top < d
      → before_new counts top j (flat d f ++ t) ≡ length (flat d f) + before_new counts top j t
  unfolding flat before_new
  new_skip j d nil t h = omega arith
  new_skip j d (node a ks fs) t h =
      rw (
        lt-ltb (suc top) d h,
        append_assoc (flat (suc d) ks) (flat d fs) t,
        new_skip j (suc d) ks (flat d fs ++ t) (omega arith),
        new_skip j d fs t h,
        length-append (flat (suc d) ks) (flat d fs),
      ) (omega arith)

  -- behind the subtree nothing is passed by
  new_stop : (j : ℕ) (t : List (ℕ × A)) → below top t ≡ [] → before_new counts top j t ≡ 0
  unfolding before_new
  new_stop j [] h = refl
  new_stop j (x ∷ t) h =
      let o : x.0 ≤ top = not_below top x t h in
      rw (le-ltb (suc top) x.0 (omega arith), ne_eqb x.0 (suc top) (λ q. omega arith))

  -- no child is counted
  new_first : (ks : Forest A) (t : List (ℕ × A)) → below top t ≡ [] → before_new counts top 0 (flat (suc top) ks ++ t) ≡ 0
  unfolding flat before_new
  new_first nil t h = new_stop 0 t h
  new_first (node a ks fs) t h = rw (le-ltb (suc top) (suc top) (omega arith)) (go (eqb (suc top) (suc top)))
    where
      m : ℕ
      m = suc (before_new counts top (cond (counts a) (0 - 1) 0) (flat (suc (suc top)) ks ++ flat (suc top) fs ++ t))

      go : (b : Bool) → cond (b && ltb 0 0) m 0 ≡ 0
      go true = refl
      go false = refl

  -- one child is passed by, with its subtree
  new_child : (i : ℕ) (a : A) (ks : Forest A) (t : List (ℕ × A))
      → before_new counts top (suc i) ((suc top, a) ∷ (flat (suc (suc top)) ks ++ t))
      ≡ suc (length (flat (suc (suc top)) ks) + before_new counts top (cond (counts a) i (suc i)) t)
  unfolding before_new
  new_child i a ks t =
      let o : suc i - 1 ≡ i = omega arith in
      rw (
        le-ltb (suc top) (suc top) (omega arith),
        eq-eqb (suc top) (suc top) refl,
        lt-ltb 0 (suc i) (omega arith),
        o,
        new_skip (cond (counts a) i (suc i)) (suc (suc top)) ks t (omega arith),
      )

  -- the children of the node with the new one, and rows behind its subtree
  place_from : (j : ℕ) (new : A) (ks : Forest A) (t : List (ℕ × A)) → below top t ≡ []
      → flat (suc top) (place counts (suc j) new ks) ++ t ≡ insert (before_new counts top j (flat (suc top) ks ++ t)) (suc top, new)
      (flat (suc top) ks ++ t)
  unfolding flat place insert
  place_from zero new ks t h = rw (new_first ks t h)
  place_from (suc i) new nil t h = rw (new_stop (suc i) t h)
  place_from (suc i) new (node a ks fs) t h =
      rw (append_assoc (flat (suc (suc top)) ks) (flat (suc top) fs) t, new_child i a ks (flat (suc top) fs ++ t))
      (go (counts a) (place_from i new fs t h) (place_from (suc i) new fs t h))
    where
      r : List (ℕ × A)
      r = flat (suc top) fs ++ t

      behind_child : (j : ℕ) → flat (suc top) (place counts (suc j) new fs) ++ t ≡ insert (before_new counts top j r) (suc top, new) r
          → (suc top, a) ∷ ((flat (suc (suc top)) ks ++ flat (suc top) (place counts (suc j) new fs)) ++ t)
          ≡ insert (suc (length (flat (suc (suc top)) ks) + before_new counts top j r)) (suc top, new)
          ((suc top, a) ∷ (flat (suc (suc top)) ks ++ r))
      behind_child j e =
          ap (λ l. (suc top, a) ∷ l)
          (append_assoc (flat (suc (suc top)) ks) (flat (suc top) (place counts (suc j) new fs)) t
          ∙ ap (λ l. flat (suc (suc top)) ks ++ l) e
          ∙ sym (insert_append (flat (suc (suc top)) ks) r (before_new counts top j r) (suc top, new)))

      go : (b : Bool) → flat (suc top) (place counts (suc i) new fs) ++ t ≡ insert (before_new counts top i r) (suc top, new) r
          → flat (suc top) (place counts (suc (suc i)) new fs) ++ t ≡ insert (before_new counts top (suc i) r) (suc top, new) r
          → (suc top, a) ∷ ((flat (suc (suc top)) ks ++ flat (suc top) (cond b (place counts (suc i) new fs)
          (place counts (suc (suc i)) new fs))) ++ t)
          ≡ insert (suc (length (flat (suc (suc top)) ks) + before_new counts top (cond b i (suc i)) r)) (suc top, new)
          ((suc top, a) ∷ (flat (suc (suc top)) ks ++ r))
      go true u v = behind_child i u
      go false u v = behind_child (suc i) v

  pub place_rows : (k : ℕ) (new : A) (ks : Forest A) (t : List (ℕ × A)) → below top t ≡ []
      → flat (suc top) (place counts k new ks) ++ t ≡ insert (before_new counts top (k - 1) (flat (suc top) ks ++ t)) (suc top, new)
      (flat (suc top) ks ++ t)
  unfolding place
  place_rows zero new ks t h = place_from zero new ks t h
  place_rows (suc j) new ks t h = let o : suc j - 1 ≡ j = omega arith in rw o (place_from j new ks t h)

-- the law --------------------------------------------------------------------------------------

pub insert_rows : (t n k : ℕ) (new : Marked) (f : Tree) (p : ℕ) → unique (flat 0 f) ≡ true → p < length (flat 0 f)
    → number_at (flat 0 f) p ≡ n
    → flat 0 (put (has_number n) (seen_by t) k new f) ≡ insert (new_place t k p (flat 0 f)) (suc (depth (flat 0 f) p), new) (flat 0 f)
unfolding new_place
insert_rows t n k new f p u h e =
    let o = holder f n p u h e in
    let c = o.place in
    let b = c.before in
    let x : Entry = (c.depth, c.it) in
    let r = flat (suc c.depth) c.children ++ c.behind in
    let i : ℕ = before_new (seen_by t) c.depth (k - 1) r in
    let y : Entry = (suc c.depth, new) in
    let z : length (b ++ (x ∷ [])) ≡ suc p = length-append b (x ∷ []) ∙ omega (arith, c.count) in
    c.puts (has_number n) (seen_by t) k new o.number o.children o.before o.behind
    ∙ ap (λ l. b ++ (x ∷ l)) (place_rows (seen_by t) c.depth k new c.children c.behind c.stops)
    ∙ sym (append_snoc b x (insert i y r))
    ∙ sym (insert_append (b ++ (x ∷ [])) r i y)
    ∙ (λ j. insert (z j + before_new (seen_by t) (sym (depth_at c) j) (k - 1) (sym (rows_behind c) j)) (suc (sym (depth_at c) j), new)
    ((append_snoc b x r ∙ sym c.split) j))
