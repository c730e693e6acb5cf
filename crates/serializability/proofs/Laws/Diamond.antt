-- Two steps whose locks do not clash: in either order both fit, answer and need the same, and leave the same document.
use Rattle.std.specs.Prelude.{ℕ, ◌≡◌, refl, Bool, true, false, not, ◌&&◌, List, [], ◌∷◌, ◌⊎◌, eqb}
use Rattle.std.proofs.Common.{sym, ap, ◌∙◌, true≢false, inl, inr, ⊎_elim, eqb-true, eq-eqb}
use Rattle.std.proofs.Math.Bool.{and_comm}
use Rattle.tree.specs.Lists.{leads}
use Rattle.tree.specs.Forest.{row}
use Rattle.tree.specs.Document.{Node, Document, Line, is, here, at, some?, first_line}
use Rattle.tree.specs.Steps.{remove, rewrite, Step, D, I, target, fits, after}
use Rattle.tree.specs.Laws.Tests.{refuted, or_left}
use Rattle.tree.specs.Laws.Rows.{line}
use Rattle.tree.specs.Laws.Amend.{amend_agree, amend_amend_same}
use Rattle.tree.specs.Laws.View.{view_view, view_agree, view_amend}
use Rattle.tree.specs.Laws.PutOrder.{amend_put, view_put, put_put}
use Rattle.tree.specs.Laws.Lists.{eqb_flip}
use Rattle.locks.specs.Modes.{LW}
use Rattle.locks.specs.Needs.{needs, locks}
use Rattle.locks.proofs.Laws.Compatible.{Compatible, compatible_symmetric, new_locked, off_path}
use Rattle.locks.proofs.Laws.Excludes.{LW_excludes}
use Rattle.serializability.proofs.Laws.Lines.{number, Of, rewritten, rewritten_number, insert, Unique, at_line, line_here, in_remove}
use Rattle.serializability.specs.Laws.Views.{itself, within, reach, Same}
use Rattle.serializability.proofs.Laws.Views.{within_by_number, rewrite_shapes, insert_whole, shapes_some}
use Rattle.serializability.proofs.Laws.Views.{shapes_above}
use Rattle.serializability.proofs.Laws.Classes.{Rewriting, Class, reading, rewriting, removing, inserting, class, touched, written}
use Rattle.serializability.proofs.Laws.Classes.{after_rewriting, touched_within, write, Absent}
use Rattle.serializability.proofs.Laws.Kept.{path, path_of, fits_here, fits_absent, other, new_line_unseen, clear_of_removal}
use Rattle.serializability.proofs.Laws.Kept.{untouched, same_kept}

-- the three edits of a document, two at a time, in either order -------------------------------------------

remove_rewrite : (x : ℕ) (t : Line → Bool) (b : List ℕ) (d : Document) → remove x (rewrite t b d) ≡ rewrite t b (remove x d)
remove_rewrite x t b d =
    view_amend number stays (λ q. not (eqb q x)) (λ a. refl) stays (λ a. a) (λ a. a) (rewritten t b) number (rewritten t b) (λ q. q)
    (λ a q e. refl) [] d refl
    (λ r m e. ap (λ (q : ℕ). not (eqb q x)) (rewritten_number t b r)) (λ r m e. refl)
  where
    stays : Node → Bool
    stays a = not (eqb a.number x)

remove_remove : (x y : ℕ) (d : Document) → remove x (remove y d) ≡ remove y (remove x d)
remove_remove x y d =
    view_view (λ a. not (eqb a.number y)) (λ a. a) (λ a. not (eqb a.number x)) (λ a. a) d
    ∙ view_agree number (λ a. not (eqb a.number x) && not (eqb a.number y)) (λ q. not (eqb q x) && not (eqb q y)) (λ a. refl)
    (λ a. not (eqb a.number y) && not (eqb a.number x)) (λ a. a) (λ a. a) [] d refl
    (λ r m e. and_comm (not (eqb r.it.number y)) (not (eqb r.it.number x))) (λ r m e. refl)
    ∙ sym (view_view (λ a. not (eqb a.number x)) (λ a. a) (λ a. not (eqb a.number y)) (λ a. a) d)

-- if no line is touched by both, whatever its content
rewrite_rewrite : (t : Line → Bool) (b : List ℕ) (t' : Line → Bool) (b' : List ℕ) (d : Document)
    → ((r : Line) → Of r d → ((a : Node) → a.number ≡ r.it.number → t (row a r.above) ≡ false)
    ⊎ ((a : Node) → a.number ≡ r.it.number → t' (row a r.above) ≡ false))
    → rewrite t b (rewrite t' b' d) ≡ rewrite t' b' (rewrite t b d)
rewrite_rewrite t b t' b' d h =
    amend_amend_same number (rewritten t' b') (rewritten_number t' b') (rewritten t b) [] d
    ∙ amend_agree number _ _ [] d (λ r m. ⊎_elim
    (λ i. rw (i (rewritten t' b' r) (rewritten_number t' b' r), i r.it refl))
    (λ i. rw (i (rewritten t b r) (rewritten_number t b r), i r.it refl)) (h r m))
    ∙ sym (amend_amend_same number (rewritten t b) (rewritten_number t b) (rewritten t' b') [] d)

-- if the new line is not touched
rewrite_insert : (t : Line → Bool) (b : List ℕ) (a : Node) (n k : ℕ) (d : Document)
    → ((s : Line) → Of s d → s.it.number ≡ n → t (row a (n ∷ s.above)) ≡ false)
    → rewrite t b (insert a n k d) ≡ insert a n k (rewrite t b d)
rewrite_insert t b a n k d h =
    amend_put (λ x. eqb x.number n) (λ x. true) k a number (λ x. eqb x.number n) (λ x. true) a (rewritten t b)
    (λ r. ap (λ (q : ℕ). eqb q n) (rewritten_number t b r)) (λ r. refl) [] d (λ s m e. stays s (eqb-true _ n e) (h s m (eqb-true _ n e)))
  where
    stays : (s : Line) → s.it.number ≡ n → t (row a (n ∷ s.above)) ≡ false → rewritten t b (row a (line number s)) ≡ a
    stays s e f = rw (e, f)

-- if x is not the new node, nor a child of n
remove_insert : (x : ℕ) (a : Node) (n k : ℕ) (d : Document) → eqb a.number x ≡ false
    → ((r : Line) → Of r d → r.it.number ≡ x → leads n r.above ≡ false) → remove x (insert a n k d) ≡ insert a n k (remove x d)
remove_insert x a n k d e h =
    view_put (λ y. eqb y.number n) (λ y. true) k a (λ y. not (eqb y.number x)) (λ y. y) number (λ y. eqb y.number n) (λ y. true)
    (rw e)
    (λ y q. refl) [] d
    (λ s r i f j g. counted s r f j g)
  where
    counted : (s r : Line) → eqb s.it.number n ≡ true → Of r d → r.above ≡ line number s → true ≡ (not (eqb r.it.number x) && true)
    counted s r f j g = rw (refuted (eqb r.it.number x) (λ i. true≢false (sym f ∙ rw g at (h r j (eqb-true _ x i)))))

insert_insert : (a a' : Node) (n n' k k' : ℕ) (d : Document) → eqb a.number n' ≡ false → eqb a'.number n ≡ false → eqb n n' ≡ false
    → insert a n k (insert a' n' k' d) ≡ insert a' n' k' (insert a n k d)
insert_insert a a' n n' k k' d e e' f =
    put_put (λ x. eqb x.number n) (λ x. eqb x.number n') (λ x. true) (λ x. true) k k' a a' e e' (λ x i. rw (eqb-true _ n i) f) d

-- two steps ------------------------------------------------------------------------------------------------

module _ (d : Document) (u : Unique d) where
  module _ (s : Step) (hs : here (target s) d ≡ true) {p : Step} (w : Rewriting p) (hp : here (target p) d ≡ true)
      (c : Compatible (needs s d) (needs p d)) where
    two_rewrites : (v : Rewriting s) → rewrite (touched v) (written v) (rewrite (touched w) (written w) d) ≡ rewrite (touched w) (written w)
        (rewrite (touched v) (written v) d)
    two_rewrites v = rewrite_rewrite (touched v) (written v) (touched w) (written w) d (λ r m. go r m (within (reach s) (target s) r) refl)
      where
        -- outside a step's reach no line is touched, whatever its content
        idle : {z : Step} (x : Rewriting z) (r : Line) → within (reach z) (target z) r ≡ false → (a : Node) → a.number ≡ r.it.number
            → touched x (row a r.above) ≡ false
        idle {z} x r e a i = touched_within x (row a r.above) (within_by_number (reach z) (target z) (row a r.above) r i refl ∙ e)

        go : (r : Line) → Of r d → (t : Bool) → within (reach s) (target s) r ≡ t
            → ((a : Node) → a.number ≡ r.it.number → touched v (row a r.above) ≡ false)
            ⊎ ((a : Node) → a.number ≡ r.it.number → touched w (row a r.above) ≡ false)
        go r m true e = inr (idle w r (untouched d u s hs w hp c (write v) r m e))
        go r m false e = inl (idle v r e)

  module _ (m kind : ℕ) (b : List ℕ) (n k : ℕ) (g : fits (I m kind b n k) d ≡ true) where
    hn : here n d ≡ true
    hn = fits_here (I m kind b n k) d g

    hm : here m d ≡ false
    hm = fits_absent (I m kind b n k) d g m (rw (eq-eqb m m refl))

    rewrite_and_insert : {s : Step} (v : Rewriting s) → here (target s) d ≡ true → Compatible (needs s d) (needs (I m kind b n k) d)
        → rewrite (touched v) (written v) (after (I m kind b n k) d) ≡ after (I m kind b n k) (rewrite (touched v) (written v) d)
    rewrite_and_insert {s} v hs c = rewrite_insert (touched v) (written v) (record { number = m; kind = kind; content = b }) n k d
        (λ r o e. touched_within v _ (rw (path_of d u n hn r o e) (new_line_unseen d u s hs m kind b n k hn hm c)))

    remove_and_insert : (x : ℕ) → here x d ≡ true → Compatible (needs (D x) d) (needs (I m kind b n k) d)
        → remove x (after (I m kind b n k) d) ≡ after (I m kind b n k) (remove x d)
    remove_and_insert x hx c = remove_insert x (record { number = m; kind = kind; content = b }) n k d
        (other d u (D x) hx m kind b n k hn hm c)
        (λ r o e. rw (path_of d u x hx r o e) (clear_of_removal d u (I m kind b n k) hn x hx (compatible_symmetric _ _ c)).1)

    two_inserts : (m' kind' : ℕ) (b' : List ℕ) (n' k' : ℕ) → fits (I m' kind' b' n' k') d ≡ true
        → Compatible (needs (I m' kind' b' n' k') d) (needs (I m kind b n k) d)
        → after (I m' kind' b' n' k') (after (I m kind b n k) d) ≡ after (I m kind b n k) (after (I m' kind' b' n' k') d)
    two_inserts m' kind' b' n' k' h c =
        let hn' = fits_here (I m' kind' b' n' k') d h in
        let hm' = fits_absent (I m' kind' b' n' k') d h m' (rw (eq-eqb m' m' refl)) in
        insert_insert (record { number = m'; kind = kind'; content = b' }) (record { number = m; kind = kind; content = b }) n' n k' k d
        (other d u (I m kind b n k) hn m' kind' b' n' k' hn' hm' (compatible_symmetric _ _ c))
        (other d u (I m' kind' b' n' k') hn' m kind b n k hn hm c)
        (eqb_flip n n' (new_line_unseen d u (I m' kind' b' n' k') hn' m kind b n k hn hm c))

  -- either order, one document
  pub commute : (p s : Step) → fits p d ≡ true → fits s d ≡ true → Compatible (needs s d) (needs p d)
      → after s (after p d) ≡ after p (after s d)
  commute p s g h c = go (class p) (class s) g h c
    where
      go : {p s : Step} → Class p → Class s → fits p d ≡ true → fits s d ≡ true → Compatible (needs s d) (needs p d)
          → after s (after p d) ≡ after p (after s d)
      go {p} {s} (reading e b) k g h c = rw (e d, e (after s d))
      go {p} {s} (rewriting w) (reading e b) g h c = rw (e d, e (after p d))
      go {p} {s} (rewriting w) (rewriting v) g h c = simp (after_rewriting v, after_rewriting w)
          (two_rewrites s (fits_here s d h) w (fits_here p d g) c v)
      go {p} {s} (rewriting w) (removing x) g h c = simp (after_rewriting w) (remove_rewrite x (touched w) (written w) d)
      go {p} {s} (rewriting w) (inserting m kind b n k) g h c =
          simp (after_rewriting w) (sym (rewrite_and_insert m kind b n k h w (fits_here p d g) (compatible_symmetric _ _ c)))
      go {p} {s} (removing x) (reading e b) g h c = rw (e d, e (after p d))
      go {p} {s} (removing x) (rewriting v) g h c = simp (after_rewriting v) (sym (remove_rewrite x (touched v) (written v) d))
      go {p} {s} (removing x) (removing y) g h c = remove_remove y x d
      go {p} {s} (removing x) (inserting m kind b n k) g h c = sym
          (remove_and_insert m kind b n k h x (fits_here (D x) d g) (compatible_symmetric _ _ c))
      go {p} {s} (inserting m kind b n k) (reading e _) g h c = rw (e d, e (after p d))
      go {p} {s} (inserting m kind b n k) (rewriting v) g h c = simp (after_rewriting v)
          (rewrite_and_insert m kind b n k g v (fits_here s d h) c)
      go {p} {s} (inserting m kind b n k) (removing x) g h c = remove_and_insert m kind b n k g x (fits_here (D x) d h) c
      go {p} {s} (inserting m kind b n k) (inserting m' kind' b' n' k') g h c = two_inserts m kind b n k g m' kind' b' n' k' h c

  -- after p the node of s is where it was before
  back : (p s : Step) → fits p d ≡ true → here (target s) (after p d) ≡ true → Compatible (needs s (after p d)) (needs p d)
      → (here (target s) d ≡ true) × (path (target s) (after p d) ≡ path (target s) d)
  back p s g h c = go (class p) g h c
    where
      go : {p : Step} → Class p → fits p d ≡ true → here (target s) (after p d) ≡ true → Compatible (needs s (after p d)) (needs p d)
          → (here (target s) d ≡ true) × (path (target s) (after p d) ≡ path (target s) d)
      go (reading e b) g h c = (rw (e d) at h, rw (e d))
      go (rewriting w) g h c =
          let i = rewrite_shapes (touched w) (written w) (is (target s)) (within_by_number itself (target s)) d in (
            sym (shapes_some (is (target s)) d _ i) ∙ (rw (after_rewriting w d) at h),
            rw (after_rewriting w d)
                (shapes_above (is (target s)) d _ i),
          )
      go (removing x) g h c =
          let a = at_line (target s) (remove x d) h in
          let i = in_remove x d {r = at (target s) (remove x d)} a.0 in
          let e = line_here (target s) d (at (target s) (remove x d)) i.0 a.1 in
          (e, path_of d u (target s) e (at (target s) (remove x d)) i.0 a.1)
      go (inserting m kind b n k) g h c =
          let o =
          off_path m (LW ∷ []) (needs (I m kind b n k) d) (new_locked (I m kind b n k) (path n d) m (rw (eq-eqb m m refl))) s _
          (compatible_symmetric _ _ c) (LW_excludes s) in
          let i = insert_whole (record { number = m; kind = kind; content = b }) n k (is (target s)) d
          (λ r o' e. eqb_flip (target s) m (or_left _ _ o)) in
          (sym (ap some? i) ∙ h, ap (λ (l : List Line). (first_line l).above) i)

  -- s after p without a clash, and what it inserts absent before: s could go first, and all is the same
  pub record Swapped (p s : Step) : Type 0 where
    pub fit : fits s d ≡ true
    pub first_same : Same s d (after p d)
    pub second_same : Same p d (after s d)
    pub one_document : after s (after p d) ≡ after p (after s d)

  pub swap : (p s : Step) → fits p d ≡ true → fits s (after p d) ≡ true → Absent s d → Compatible (needs s (after p d)) (needs p d)
      → Swapped p s
  swap p s g h a c =
      let b = back p s g (fits_here s (after p d) h) c in
      let c' : Compatible (needs s d) (needs p d) = rw (ap (locks s) b.1) at c in
      let e = same_kept d u p s g b.0 a c' in
      let h' : fits s d ≡ true = sym e.fit ∙ h in
      record {
        fit = h';
        first_same = e;
        second_same = same_kept d u s p h' (fits_here p d g) (fits_absent p d g) (compatible_symmetric (needs s d) (needs p d) c');
        one_document = commute p s g h' c';
      }

  -- both fit without a clash: either may go first
  pub diamond : (p s : Step) → fits p d ≡ true → fits s d ≡ true → Compatible (needs s d) (needs p d) → Swapped p s
  diamond p s g h c = record {
    fit = h;
    first_same = same_kept d u p s g (fits_here s d h) (fits_absent s d h) c;
    second_same = same_kept d u s p h (fits_here p d g) (fits_absent p d g) (compatible_symmetric (needs s d) (needs p d) c);
    one_document = commute p s g h c;
  }
