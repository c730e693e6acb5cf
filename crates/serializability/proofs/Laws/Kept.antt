-- A step leaves what another sees, if their locks do not clash.
use Rattle.std.specs.Prelude.{ℕ, ◌≡◌, refl, true, false, ◌||◌, List, ◌∷◌, eqb}
use Rattle.std.proofs.Common.{sym, ap, ◌∙◌, true≢false, ⊎_elim, eqb-true, eq-eqb, ne_eqb}
use Rattle.std.proofs.lemmas.Bool.{false≢true, not-true, not-false}
use Rattle.tree.specs.Lists.{has, leads}
use Rattle.tree.specs.Document.{Document, Line, is, child, in_subtree, here, at, Node, some?}
use Rattle.tree.specs.Laws.Tests.{refuted, and_left, and_right, or_left, or_right}
use Rattle.tree.specs.Laws.Rows.{parent_row, nested}
use Rattle.tree.specs.Forest.{row}
use Rattle.tree.specs.Steps.{Step, D, I, target, inserts, fits, unknown, wrong_kind, wrong_content, number_there, misplaced, after, remove}
use Rattle.tree.specs.Steps.{rewrite}
use Rattle.tree.specs.Laws.Lists.{at_any, has_in, eqb_flip}
use Rattle.locks.specs.Modes.{clash}
use Rattle.locks.specs.Needs.{need, needs}
use Rattle.locks.proofs.Laws.Compatible.{Compatible, compatible_symmetric, clashing, excludes, node_locked, new_locked, off_node}
use Rattle.locks.proofs.Laws.Compatible.{off_parent}
use Rattle.locks.proofs.Laws.Compatible.{off_path, off_new}
use Rattle.locks.proofs.Laws.Excludes.{LW_excludes}
use Rattle.serializability.proofs.Laws.Tests.{by_test}
use Rattle.serializability.proofs.Laws.Lines.{number, Of, Unique, at_only, not_here, insert}
use Rattle.serializability.specs.Laws.Views.{Reach, itself, children, subtree, within, reach, Whole}
use Rattle.serializability.proofs.Laws.Views.{within_by_number, whole_shapes}
use Rattle.serializability.specs.Laws.Views.{Views, Same}
use Rattle.serializability.proofs.Laws.Views.{views_same, rewrite_shapes, rewrite_whole, remove_whole, insert_whole}
use Rattle.serializability.proofs.Laws.Views.{shapes_some}
use Rattle.serializability.proofs.Laws.Classes.{Rewriting, Class, reading, rewriting, removing, inserting, class, touched, written}
use Rattle.serializability.proofs.Laws.Classes.{after_rewriting, touched_within, Contents, reads_contents, bars_removal}
use Rattle.serializability.proofs.Laws.Classes.{removal_barred, bars_insertion, insertion_barred, bars_writing, writing_barred, Absent}
use Rattle.serializability.proofs.Laws.Classes.{new_need}

-- where two nodes of a document stand, and which lines are near the one and not the other -----------------

-- the proper ancestors of n
abbrev pub path : ℕ → Document → List ℕ
path n d = (at n d).above

module _ (d : Document) (u : Unique d) where
  pub path_of : (n : ℕ) → here n d ≡ true → (r : Line) → Of r d → r.it.number ≡ n → r.above ≡ path n d
  path_of n h r m e = ap (λ (x : Line). x.above) (at_only d u n h r m e)

  pub not_under : (n x : ℕ) → here n d ≡ true → has x (n ∷ path n d) ≡ false → (r : Line) → Of r d → is n r ≡ true → in_subtree x r ≡ false
  not_under n x h f r m i = let e = eqb-true _ n i in rw (e, path_of n h r m e) f

  child_not_under : (n x : ℕ) → here n d ≡ true → here x d ≡ true → has x (n ∷ path n d) ≡ false → leads n (path x d) ≡ false
      → (r : Line) → Of r d → child n r ≡ true → in_subtree x r ≡ false
  child_not_under n x hn hx f g r m c = by_test (eqb r.it.number x)
      (λ e. absurd (true≢false (sym c ∙ ap (leads n) (path_of x hx r m (eqb-true _ x e)) ∙ g)))
      (λ e. rw e (⊎_elim (λ i. absurd (false≢true (rw i at c)))
      (λ s. rw s.2 (not_under n x hn f s.0 s.1 (rw s.2 at c))) (parent_row number m)))

  pub under_not_under : (n x : ℕ) → here n d ≡ true → here x d ≡ true → has x (n ∷ path n d) ≡ false → has n (x ∷ path x d) ≡ false
      → (r : Line) → Of r d → in_subtree n r ≡ true → in_subtree x r ≡ false
  under_not_under n x hn hx f g r m v = refuted _ (λ w. ⊎_elim
      (λ s. true≢false (sym s.3 ∙ not_under n x hn f s.0 s.1 (eq-eqb _ n s.2)))
      (λ s. true≢false (sym s.3 ∙ not_under x n hx g s.0 s.1 (eq-eqb _ x s.2))) (nested number n x refl refl m v w))

  -- what is within reach of n is not in the subtree of x
  abbrev pub ClearOf : Reach → ℕ → ℕ → Type 0
  ClearOf itself n x = has x (n ∷ path n d) ≡ false
  ClearOf children n x = (has x (n ∷ path n d) ≡ false) × (leads n (path x d) ≡ false)
  ClearOf subtree n x = (has x (n ∷ path n d) ≡ false) × (has n (x ∷ path x d) ≡ false)

  pub clear_of : (q : Reach) (n x : ℕ) → here n d ≡ true → here x d ≡ true → ClearOf q n x → (r : Line) → Of r d → within q n r ≡ true
      → in_subtree x r ≡ false
  clear_of itself n x hn hx c = not_under n x hn c
  clear_of children n x hn hx c = child_not_under n x hn hx c.0 c.1
  clear_of subtree n x hn hx c = under_not_under n x hn hx c.0 c.1

-- a step that fits ---------------------------------------------------------------------------

-- none of the causes applies
pub record Fit (s : Step) (d : Document) : Type 0 where
  pub there : here (target s) d ≡ true
  pub kind : wrong_kind s d ≡ false
  pub content : wrong_content s d ≡ false
  pub new : number_there s d ≡ false
  pub place : misplaced s d ≡ false

pub fit_parts : (s : Step) (d : Document) → fits s d ≡ true → Fit s d
fit_parts s d h =
    let a = not-true _ h in
    let b = or_left _ _ a in
    let c = or_left _ _ b in
    let e = or_left _ _ c in
    record {
      there = not-false _ (or_left _ _ e);
      kind = or_right (unknown s d) _ e;
      content = or_right (unknown s d || wrong_kind s d) _ c;
      new = or_right (unknown s d || wrong_kind s d || wrong_content s d) _ b;
      place = or_right (unknown s d || wrong_kind s d || wrong_content s d || number_there s d) _ a;
    }

module _ (s : Step) (d : Document) (h : fits s d ≡ true) where
  -- its node is there
  pub fits_here : here (target s) d ≡ true
  fits_here = (fit_parts s d h).there

  -- what it inserts is not
  pub fits_absent : Absent s d
  fits_absent m i = refuted _ (λ e. true≢false (sym (at_any (λ q. here q d) (inserts s) (has_in m (inserts s) i) e) ∙ (fit_parts s d h).new))

-- what is left ---------------------------------------------------------------------------------

module _ (d : Document) (u : Unique d) where
  -- two steps whose locks do not clash, by the modes that s needs on its node
  module _ (s p : Step) (c : Compatible (needs s d) (needs p d)) where
    node_apart : clashing (need s).node (need p).node ≡ true → eqb (target p) (target s) ≡ false
    node_apart e = off_node (target s) (need s).node (needs s d) (node_locked s (path (target s) d)) p (path (target p) d) c e

    parent_apart : clashing (need s).node (need p).parent ≡ true → leads (target s) (path (target p) d) ≡ false
    parent_apart e = off_parent (target s) (need s).node (needs s d) (node_locked s (path (target s) d)) p (path (target p) d) c e

    path_apart : excludes (need s).node (need p) ≡ true → has (target s) (target p ∷ path (target p) d) ≡ false
    path_apart e = off_path (target s) (need s).node (needs s d) (node_locked s (path (target s) d)) p (path (target p) d) c e

  -- s against the removal of x
  module _ (s : Step) (hs : here (target s) d ≡ true) (x : ℕ) (hx : here x d ≡ true) (c : Compatible (needs s d) (needs (D x) d)) where
    off_removed : has x (target s ∷ path (target s) d) ≡ false
    off_removed = path_apart (D x) s (compatible_symmetric _ _ c) (LW_excludes s)

    pub clear_of_removal : ClearOf d u (reach s) (target s) x
    clear_of_removal = go (reach s) (removal_barred s)
      where
        go : (q : Reach) → bars_removal q (need s) (need (D x)) ≡ true → ClearOf d u q (target s) x
        go itself e = off_removed
        go children e = (off_removed, parent_apart s (D x) c e)
        go subtree e = (off_removed, path_apart s (D x) c e)

    views_removal : Absent s d → Views s d (remove x d)
    views_removal a = record {
      node = whole_shapes _ d _ (remove_whole x (is (target s)) d (not_under d u (target s) x hs off_removed));
      lines = whole_shapes _ d _ seen;
      contents = λ e. seen;
      absent = λ m i. ap some? (remove_whole x (is m) d (λ r o e. absurd (not_here m d (a m i) r o (eqb-true _ m e))));
    }
      where
        seen : Whole (within (reach s) (target s)) d (remove x d)
        seen = remove_whole x (within (reach s) (target s)) d (clear_of d u (reach s) (target s) x hs hx clear_of_removal)

  -- s against an insertion
  module _ (s : Step) (hs : here (target s) d ≡ true) (m kind : ℕ) (b : List ℕ) (n k : ℕ) (hn : here n d ≡ true) (hm : here m d ≡ false)
      (c : Compatible (needs s d) (needs (I m kind b n k) d)) where
    abbrev new : Node
    new = record { number = m; kind = kind; content = b }

    pub other : eqb m (target s) ≡ false
    other = ne_eqb m (target s) (λ e. true≢false (sym hs ∙ ap (λ (q : ℕ). here q d) (sym e) ∙ hm))

    -- the new line is not within the reach of s
    pub new_line_unseen : within (reach s) (target s) (row new (n ∷ path n d)) ≡ false
    new_line_unseen = go (reach s) (insertion_barred s)
      where
        go : (q : Reach) → bars_insertion q (need s) (need (I m kind b n k)) ≡ true → within q (target s) (row new (n ∷ path n d)) ≡ false
        go itself e = other
        go children e = node_apart s (I m kind b n k) c e
        go subtree e = rw other (path_apart s (I m kind b n k) c e)

    -- both bring in different numbers
    new_number : (q : ℕ) → has q (inserts s) ≡ true → eqb m q ≡ false
    unfolding clash
    new_number q i =
        or_left _ _ (off_new q (need s).new (needs s d) (new_locked s (path (target s) d) q i) (I m kind b n k) (path n d) c
        (rw (new_need s q i)))

    views_insertion : Views s d (insert new n k d)
    views_insertion = record {
      node = whole_shapes _ d _ (insert_whole new n k (is (target s)) d (λ r o e. other));
      lines = whole_shapes _ d _ seen;
      contents = λ e. seen;
      absent = λ q i. ap some? (insert_whole new n k (is q) d (λ r o e. new_number q i));
    }
      where
        seen : Whole (within (reach s) (target s)) d (insert new n k d)
        seen = insert_whole new n k (within (reach s) (target s)) d (λ r o e. rw (path_of d u n hn r o e) new_line_unseen)

  -- s against new contents
  module _ (s : Step) (hs : here (target s) d ≡ true) {p : Step} (w : Rewriting p) (hp : here (target p) d ≡ true)
      (c : Compatible (needs s d) (needs p d)) where
    -- no line whose contents s sees or writes is touched
    pub untouched : Contents s → (r : Line) → Of r d → within (reach s) (target s) r ≡ true → within (reach p) (target p) r ≡ false
    untouched h r m i = go (reach s) (reach p) (writing_barred h w) i
      where
        go : (q q' : Reach) → bars_writing q q' (need s) (need p) ≡ true → within q (target s) r ≡ true → within q' (target p) r ≡ false
        go itself itself e i = rw (eqb-true _ (target s) i) (eqb_flip (target p) (target s) (node_apart s p c e))
        go itself children e i = absurd (false≢true e)
        go itself subtree e i = not_under d u (target s) (target p) hs (path_apart p s (compatible_symmetric _ _ c) e) r m i
        go children q e i = absurd (false≢true e)
        go subtree itself e i = refuted _ (λ j. true≢false (sym i ∙ not_under d u (target p) (target s) hp (path_apart s p c e) r m j))
        go subtree children e i = absurd (false≢true e)
        go subtree subtree e i =
            under_not_under d u (target s) (target p) hs hp
            (path_apart p s (compatible_symmetric _ _ c) (and_right (excludes (need s).node (need p)) _ e))
            (path_apart s p c (and_left _ _ e)) r m i

    views_rewriting : Views s d (rewrite (touched w) (written w) d)
    views_rewriting = record {
      node = rewrite_shapes (touched w) (written w) (is (target s)) (within_by_number itself (target s)) d;
      lines = rewrite_shapes (touched w) (written w) (within (reach s) (target s)) (within_by_number (reach s) (target s)) d;
      contents = λ e. rewrite_whole (touched w) (written w) (within (reach s) (target s)) (within_by_number (reach s) (target s)) d
          (λ r m i. touched_within w r (untouched (reads_contents s e) r m i));
      absent = λ q i. shapes_some (is q) d _ (rewrite_shapes (touched w) (written w) (is q) (within_by_number itself q) d);
    }

  -- after p, s sees what it saw
  pub views_kept : (p s : Step) → fits p d ≡ true → here (target s) d ≡ true → Absent s d → Compatible (needs s d) (needs p d)
      → Views s d (after p d)
  views_kept p s g h a c = go (class p) g c
    where
      go : {p : Step} → Class p → fits p d ≡ true → Compatible (needs s d) (needs p d) → Views s d (after p d)
      go {p} (reading e b) g c = rw (e d) (record { node = refl; lines = refl; contents = λ z. refl; absent = λ m i. refl })
      go {p} (rewriting w) g c = rw (after_rewriting w d) (views_rewriting s h w (fits_here p d g) c)
      go (removing x) g c = views_removal s h x (fits_here (D x) d g) c a
      go (inserting m kind b n k) g c =
          views_insertion s h m kind b n k (fits_here (I m kind b n k) d g) (fits_absent (I m kind b n k) d g m (rw (eq-eqb m m refl))) c

  pub same_kept : (p s : Step) → fits p d ≡ true → here (target s) d ≡ true → Absent s d → Compatible (needs s d) (needs p d)
      → Same s d (after p d)
  same_kept p s g h a c = views_same s d (after p d) (views_kept p s g h a c)
