-- `put`: the order of an insertion and another edit, and what a view shows of an insertion.
use Rattle.std.specs.Prelude.{◌≡◌, ◌&&◌, List, ◌∷◌}
use Rattle.std.proofs.Math.Path.{refl}
use Rattle.std.proofs.Common.{sym, ◌∙◌, true≢false}
use Prim.Native.Nat.{ℕ, zero, suc}
use Rattle.std.proofs.Math.Bool.{Bool, true, false, cond}
use Rattle.tree.specs.Forest.{Forest, nil, node, Row, row, amend, view, place, put}
use Rattle.tree.specs.Laws.Rows.{In, self, inner, later, line}

-- of each topmost node
abbrev pub Tops : {A : Type 0} → (A → Type 0) → Forest A → Type 0
Tops q nil = Unit {0}
Tops q (node a ks fs) = q a × Tops q fs

rows_tops : {A K : Type 0} (key : A → K) (q : A → Type 0) (p : List K) (f : Forest A)
    → ((r : Row A K) → In key r p f → r.above ≡ p → q r.it) → Tops q f
rows_tops key q p nil h = tt
rows_tops key q p (node a ks fs) h = (h (row a p) (self refl) refl, rows_tops key q p fs (λ r m. h r (later m)))

module _ {A : Type 0} (parent counts : A → Bool) (k : ℕ) (new : A) where
  put_tops : (q : A → Type 0) (f : Forest A) → Tops q f → Tops q (put parent counts k new f)
  unfolding put
  put_tops q nil h = h
  put_tops q (node a ks fs) h = (h.0, put_tops q fs h.1)

  -- an amended insertion is an insertion into the amended forest, if the amendment keeps who is a parent and who counts
  module _ {K : Type 0} (key : A → K) (parent' counts' : A → Bool) (new' : A) (c : Row A K → A)
      (same_parent : (r : Row A K) → parent' (c r) ≡ parent r.it) (same_counts : (r : Row A K) → counts' (c r) ≡ counts r.it) where
    amend_place : (k : ℕ) (p : List K) (f : Forest A) → c (row new p) ≡ new'
        → amend key c p (place counts k new f) ≡ place counts' k new' (amend key c p f)
    unfolding amend place
    amend_place zero p f e = rw e
    amend_place (suc zero) p f e = rw e
    amend_place (suc (suc k)) p nil e = rw e
    amend_place (suc (suc k)) p (node a ks fs) e =
        rw (same_counts (row a p)) (go (counts a) (amend_place (suc k) p fs e) (amend_place (suc (suc k)) p fs e))
      where
        go : (t : Bool) → amend key c p (place counts (suc k) new fs) ≡ place counts' (suc k) new' (amend key c p fs)
            → amend key c p (place counts (suc (suc k)) new fs) ≡ place counts' (suc (suc k)) new' (amend key c p fs)
            → node (c (row a p)) (amend key c (key a ∷ p) ks)
            (amend key c p (cond t (place counts (suc k) new fs) (place counts (suc (suc k)) new fs)))
            ≡ node (c (row a p)) (amend key c (key a ∷ p) ks)
            (cond t (place counts' (suc k) new' (amend key c p fs)) (place counts' (suc (suc k)) new' (amend key c p fs)))
        go true u v = rw u
        go false u v = rw v

    pub amend_put : (p : List K) (f : Forest A) → ((s : Row A K) → In key s p f → parent s.it ≡ true → c (row new (line key s)) ≡ new')
        → amend key c p (put parent counts k new f) ≡ put parent' counts' k new' (amend key c p f)
    unfolding amend put
    amend_put p nil e = refl
    amend_put p (node a ks fs) e =
        rw (same_parent (row a p))
        (go (parent a) refl (amend_put (key a ∷ p) ks (λ s m. e s (inner m))) (amend_put p fs (λ s m. e s (later m))))
      where
        go : (t : Bool) → parent a ≡ t
            → amend key c (key a ∷ p) (put parent counts k new ks) ≡ put parent' counts' k new' (amend key c (key a ∷ p) ks)
            → amend key c p (put parent counts k new fs) ≡ put parent' counts' k new' (amend key c p fs)
            → node (c (row a p)) (amend key c (key a ∷ p)
            (cond t (place counts k new (put parent counts k new ks)) (put parent counts k new ks)))
            (amend key c p (put parent counts k new fs))
            ≡ node (c (row a p))
            (cond t (place counts' k new' (put parent' counts' k new' (amend key c (key a ∷ p) ks)))
            (put parent' counts' k new' (amend key c (key a ∷ p) ks)))
            (put parent' counts' k new' (amend key c p fs))
        go true q u v = rw (amend_place k (key a ∷ p) (put parent counts k new ks) (e (row a p) (self refl) q), u, v)
        go false q u v = rw (u, v)

  -- what a view shows of an insertion
  module _ {B : Type 0} (shown : A → Bool) (g : A → B) where
    view_place_hidden : (k : ℕ) (f : Forest A) → shown new ≡ false → view shown g (place counts k new f) ≡ view shown g f
    unfolding view place
    view_place_hidden zero f e = rw e
    view_place_hidden (suc zero) f e = rw e
    view_place_hidden (suc (suc k)) nil e = rw e
    view_place_hidden (suc (suc k)) (node a ks fs) e = go (counts a) (view_place_hidden (suc k) fs e) (view_place_hidden (suc (suc k)) fs e)
      where
        go : (t : Bool) → view shown g (place counts (suc k) new fs) ≡ view shown g fs
            → view shown g (place counts (suc (suc k)) new fs) ≡ view shown g fs
            → view shown g (node a ks (cond t (place counts (suc k) new fs) (place counts (suc (suc k)) new fs)))
            ≡ view shown g (node a ks fs)
        go true u v = rw u
        go false u v = rw v

    -- nothing, if the new node is not shown
    pub view_put_hidden : (f : Forest A) → shown new ≡ false → view shown g (put parent counts k new f) ≡ view shown g f
    unfolding view put
    view_put_hidden nil e = refl
    view_put_hidden (node a ks fs) e = go (parent a) (view_put_hidden ks e) (view_put_hidden fs e)
      where
        go : (t : Bool) → view shown g (put parent counts k new ks) ≡ view shown g ks
            → view shown g (put parent counts k new fs) ≡ view shown g fs
            → view shown g (node a (cond t (place counts k new (put parent counts k new ks)) (put parent counts k new ks))
            (put parent counts k new fs))
            ≡ view shown g (node a ks fs)
        go true u v = rw (view_place_hidden k (put parent counts k new ks) e, u, v)
        go false u v = rw (u, v)

    -- an insertion into the view, if among the parent's children those that are not shown do not count, and those that are count alike
    module _ {K : Type 0} (key : A → K) (parent' counts' : B → Bool) (new_shown : shown new ≡ true)
        (same_parent : (a : A) → shown a ≡ true → parent' (g a) ≡ parent a) where
      abbrev pub Counted : A → Type 0
      Counted a = counts a ≡ (shown a && counts' (g a))

      view_place : (k : ℕ) (f : Forest A) → Tops Counted f → view shown g (place counts k new f) ≡ place counts' k (g new) (view shown g f)
      unfolding view place
      view_place zero f h = rw new_shown
      view_place (suc zero) f h = rw new_shown
      view_place (suc (suc k)) nil h = rw new_shown
      view_place (suc (suc k)) (node a ks fs) h =
          rw h.0 (go (shown a) (counts' (g a)) refl (view_place (suc k) fs h.1) (view_place (suc (suc k)) fs h.1))
        where
          next : Bool → Forest A
          next t = cond t (place counts (suc k) new fs) (place counts (suc (suc k)) new fs)

          go : (s t : Bool) → counts' (g a) ≡ t
              → view shown g (place counts (suc k) new fs) ≡ place counts' (suc k) (g new) (view shown g fs)
              → view shown g (place counts (suc (suc k)) new fs) ≡ place counts' (suc (suc k)) (g new) (view shown g fs)
              → cond s (node (g a) (view shown g ks) (view shown g (next (s && t)))) (view shown g (next (s && t)))
              ≡ place counts' (suc (suc k)) (g new) (cond s (node (g a) (view shown g ks) (view shown g fs)) (view shown g fs))
          go true true e u v = rw (e, u)
          go true false e u v = rw (e, v)
          go false t e u v = v

      pub view_put : (p : List K) (f : Forest A)
          → ((s r : Row A K) → In key s p f → parent s.it ≡ true → In key r p f → r.above ≡ line key s → Counted r.it)
          → view shown g (put parent counts k new f) ≡ put parent' counts' k (g new) (view shown g f)
      unfolding view put
      view_put p nil h = refl
      view_put p (node a ks fs) h =
          go (shown a) refl (parent a) refl (view_put (key a ∷ p) ks (λ s r i e j. h s r (inner i) e (inner j)))
          (view_put p fs (λ s r i e j. h s r (later i) e (later j)))
        where
          counted : parent a ≡ true → Tops Counted (put parent counts k new ks)
          counted e = put_tops Counted ks (rows_tops key Counted (key a ∷ p) ks (λ r m q. h (row a p) r (self refl) e (inner m) q))

          kids : Bool → Forest A
          kids t = cond t (place counts k new (put parent counts k new ks)) (put parent counts k new ks)

          go : (s : Bool) → shown a ≡ s → (t : Bool) → parent a ≡ t
              → view shown g (put parent counts k new ks) ≡ put parent' counts' k (g new) (view shown g ks)
              → view shown g (put parent counts k new fs) ≡ put parent' counts' k (g new) (view shown g fs)
              → cond s (node (g a) (view shown g (kids t)) (view shown g (put parent counts k new fs)))
              (view shown g (put parent counts k new fs))
              ≡ put parent' counts' k (g new) (cond s (node (g a) (view shown g ks) (view shown g fs)) (view shown g fs))
          go true e true q u v = rw (same_parent a e ∙ q, view_place k (put parent counts k new ks) (counted q), u, v)
          go true e false q u v = rw (same_parent a e ∙ q, u, v)
          go false e t q u v = v

  -- two insertions
  place_put : (parent' counts' : A → Bool) (k' : ℕ) (new' : A) (k : ℕ) (f : Forest A) → parent' new ≡ false
      → put parent' counts' k' new' (place counts k new f) ≡ place counts k new (put parent' counts' k' new' f)
  unfolding put place
  place_put parent' counts' k' new' zero f e = rw e
  place_put parent' counts' k' new' (suc zero) f e = rw e
  place_put parent' counts' k' new' (suc (suc k)) nil e = rw e
  place_put parent' counts' k' new' (suc (suc k)) (node a ks fs) e =
      go (counts a) (place_put parent' counts' k' new' (suc k) fs e) (place_put parent' counts' k' new' (suc (suc k)) fs e)
    where
      go : (t : Bool) → put parent' counts' k' new' (place counts (suc k) new fs)
          ≡ place counts (suc k) new (put parent' counts' k' new' fs)
          → put parent' counts' k' new' (place counts (suc (suc k)) new fs)
          ≡ place counts (suc (suc k)) new (put parent' counts' k' new' fs)
          → put parent' counts' k' new' (node a ks (cond t (place counts (suc k) new fs) (place counts (suc (suc k)) new fs)))
          ≡ node a (cond (parent' a) (place counts' k' new' (put parent' counts' k' new' ks)) (put parent' counts' k' new' ks))
          (cond t (place counts (suc k) new (put parent' counts' k' new' fs))
          (place counts (suc (suc k)) new (put parent' counts' k' new' fs)))
      go true u v = rw u
      go false u v = rw v

-- in either order, if no node is the parent of both, and neither new node is a parent of the other
module _ {A : Type 0} (parent parent' counts counts' : A → Bool) (k k' : ℕ) (new new' : A) (no_parent : parent' new ≡ false)
    (no_parent' : parent new' ≡ false)
    (apart : (a : A) → parent a ≡ true → parent' a ≡ false) where
  pub put_put : (f : Forest A)
      → put parent counts k new (put parent' counts' k' new' f) ≡ put parent' counts' k' new' (put parent counts k new f)
  unfolding put
  put_put nil = refl
  put_put (node a ks fs) = go (parent a) refl (parent' a) refl (put_put ks) (put_put fs)
    where
      one : Forest A → Forest A
      one = put parent counts k new

      two : Forest A → Forest A
      two = put parent' counts' k' new'

      go : (s : Bool) → parent a ≡ s → (t : Bool) → parent' a ≡ t → one (two ks) ≡ two (one ks) → one (two fs) ≡ two (one fs)
          → node a
          (cond s (place counts k new (one (cond t (place counts' k' new' (two ks)) (two ks))))
          (one (cond t (place counts' k' new' (two ks)) (two ks))))
          (one (two fs))
          ≡ node a
          (cond t (place counts' k' new' (two (cond s (place counts k new (one ks)) (one ks))))
          (two (cond s (place counts k new (one ks)) (one ks))))
          (two (one fs))
      go true i true j u v = absurd (true≢false (sym j ∙ apart a i))
      go true i false j u v = rw (u, v, place_put parent counts k new parent' counts' k' new' k (put parent counts k new ks) no_parent)
      go false i true j u v = rw
          (← u, v, place_put parent' counts' k' new' parent counts k new k' (put parent' counts' k' new' ks) no_parent')
      go false i false j u v = rw (u, v)
