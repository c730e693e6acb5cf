-- What a step sees of a document, and what an edit leaves of that.
use Rattle.std.specs.Prelude.{ℕ, zero, suc, ◌≡◌, refl, Bool, true, false, not, eqb}
use Rattle.std.proofs.Common.{sym, ap, ◌∙◌, eqb-true, eq-eqb}
use mathlib.Core.List.{List, [], ◌∷◌, map, Memᴰ}
use Rattle.tree.specs.Lists.{keep}
use Rattle.tree.specs.Forest.{row}
use Rattle.tree.specs.Document.{Node, Document, Line, lines, is, child, in_subtree, select, first_line, some?, here, at}
use Rattle.tree.specs.Steps.{Step, T, C, R, U, D, I, TT, RR, UU, target, fits, answer, kth, numbers_are, rewrite}
use Rattle.tree.specs.Steps.{remove}
use Rattle.tree.specs.Plain.{touches}
use Rattle.tree.specs.Laws.Lists.{keep_keep, keep_all, keep_map, in_keep, map_map, map_self}
use Rattle.tree.specs.Laws.Put.{put_kept}
use Rattle.locks.specs.Needs.{locks}
use Rattle.serializability.proofs.Laws.Lines.{number, Of, of_lines, rewritten, rewritten_number, rewritten_kind, lines_rewrite}
use Rattle.serializability.proofs.Laws.Lines.{lines_remove, insert}
use Rattle.serializability.specs.Laws.Views.{shape, Shapes, Whole, Reach, itself, children, subtree, within, Views, Same, ByNumber}

pub whole_shapes : (t : Line → Bool) (d e : Document) → Whole t d e → Shapes t d e
whole_shapes t d e h = rw h

-- what a step sees ------------------------------------------------------------------------

some_shape : (l : List Line) → some? (map shape l) ≡ some? l
some_shape [] = refl
some_shape (r ∷ l) = refl

first_shape : (l : List Line) → first_line (map shape l) ≡ shape (first_line l)
first_shape [] = refl
first_shape (r ∷ l) = refl

kth_shape : (k : ℕ) (l : List Line) → kth k (map shape l) ≡ kth k l
kth_shape k [] = refl
kth_shape zero (r ∷ l) = refl
kth_shape (suc zero) (r ∷ l) = refl
kth_shape (suc (suc k)) (r ∷ l) = kth_shape (suc k) l

module _ (t : Line → Bool) (d e : Document) (h : Shapes t d e) where
  pub shapes_some : some? (select t e) ≡ some? (select t d)
  shapes_some = sym (some_shape (select t e)) ∙ ap some? h ∙ some_shape (select t d)

  first_same : shape (first_line (select t e)) ≡ shape (first_line (select t d))
  first_same = sym (first_shape (select t e)) ∙ ap first_line h ∙ first_shape (select t d)

  pub shapes_kind : (first_line (select t e)).it.kind ≡ (first_line (select t d)).it.kind
  shapes_kind = ap (λ (r : Line). r.it.kind) first_same

  pub shapes_above : (first_line (select t e)).above ≡ (first_line (select t d)).above
  shapes_above = ap (λ (r : Line). r.above) first_same

  shapes_kth : (k : ℕ) → kth k (select t e) ≡ kth k (select t d)
  shapes_kth k = sym (kth_shape k (select t e)) ∙ ap (kth k) h ∙ kth_shape k (select t d)

  -- what is computed from each line without its content
  shapes_map : {B : Type 0} (f : Line → B) → ((r : Line) → f (shape r) ≡ f r) → map f (select t e) ≡ map f (select t d)
  shapes_map f q = sym (map_map f shape f (select t e) (λ r m. q r)) ∙ ap (map f) h ∙ map_map f shape f (select t d) (λ r m. q r)

pub views_same : (s : Step) (d e : Document) → Views s d e → Same s d e
views_same s d e v = record {
  fit = (go s v).0;
  says = (go s v).1;
  need = ap (locks s) (shapes_above (is (target s)) d e v.node);
  touched = (go s v).2;
}
  where
    there : {s : Step} → Views s d e → here (target s) e ≡ here (target s) d
    there {s} w = shapes_some (is (target s)) d e w.node

    kind : {s : Step} → Views s d e → (at (target s) e).it.kind ≡ (at (target s) d).it.kind
    kind {s} w = shapes_kind (is (target s)) d e w.node

    go : (s : Step) → Views s d e → (fits s e ≡ fits s d) × (answer s e ≡ answer s d) × (touches s e ≡ touches s d)
    go (T n) w = (rw (there w), rw (kind w, shapes_above (is n) d e w.node), refl)
    go (C n k) w = (rw (there w), shapes_kth (child n) d e w.lines k, refl)
    go (R n) w = (rw (there w, kind w), rw (w.contents refl), refl)
    go (U n b) w = (rw (there w, kind w), refl, refl)
    go (D n) w = (rw (there w, kind w), refl, refl)
    go (I m k b n i) w = (
      rw (there w, kind w, w.absent m (rw (eq-eqb m m refl)), shapes_map (child n) d e w.lines (λ r. r.it.kind) (λ r. refl)),
      refl,
      refl,
    )
    go (TT n) w = (rw (there w), ap numbers_are (shapes_map (in_subtree n) d e w.lines (λ r. r.it.number) (λ r. refl)), refl)
    go (RR n) w = (rw (there w), rw (w.contents refl), refl)
    go (UU n a b) w = (rw (there w), rw (w.contents refl), rw (w.contents refl))

-- new contents: nothing but contents changes; nothing at all where no line is rewritten -------

pub within_by_number : (q : Reach) (n : ℕ) → ByNumber (within q n)
within_by_number itself n r s e a = rw e
within_by_number children n r s e a = rw a
within_by_number subtree n r s e a = rw (e, a)

module _ (t : Line → Bool) (b : List ℕ) (u : Line → Bool) (by : ByNumber u) (d : Document) where
  new : Line → Line
  new r = row (rewritten t b r) r.above

  select_rewrite : select u (rewrite t b d) ≡ map new (select u d)
  unfolding select new
  select_rewrite = rw (lines_rewrite t b d) (keep_map u u new (lines d) (λ r m. by (new r) r (rewritten_number t b r) refl))

  pub rewrite_shapes : Shapes u d (rewrite t b d)
  unfolding new
  rewrite_shapes = rw select_rewrite (map_map shape new shape (select u d) (λ r m. same_shape r))
    where
      same_shape : (r : Line) → shape (new r) ≡ shape r
      same_shape r = rw (rewritten_number t b r, rewritten_kind t b r)

  pub rewrite_whole : ((r : Line) → Of r d → u r ≡ true → t r ≡ false) → Whole u d (rewrite t b d)
  unfolding select new
  rewrite_whole h = select_rewrite ∙ map_self new (select u d)
      (λ r m. let i = in_keep u (lines d) m in rw (h r (of_lines d r i.0) i.1))

-- removal: nothing changes in lines that are not in the subtree
pub remove_whole : (x : ℕ) (t : Line → Bool) (d : Document) → ((r : Line) → Of r d → t r ≡ true → in_subtree x r ≡ false)
    → Whole t d (remove x d)
unfolding select
remove_whole x t d h =
    rw (lines_remove x d) (keep_keep t (λ r. not (in_subtree x r)) (lines d)
    ∙ keep_all (λ r. not (in_subtree x r)) (keep t (lines d)) stays)
  where
    stays : (r : Line) → Memᴰ r (keep t (lines d)) → not (in_subtree x r) ≡ true
    stays r m = let i = in_keep t (lines d) m in rw (h r (of_lines d r i.0) i.1)

-- insertion: nothing changes in lines that pass a test which the new one fails
pub insert_whole : (a : Node) (n k : ℕ) (t : Line → Bool) (d : Document)
    → ((s : Line) → Of s d → s.it.number ≡ n → t (row a (n ∷ s.above)) ≡ false) → Whole t d (insert a n k d)
unfolding select lines
insert_whole a n k t d h = put_kept (λ x. eqb x.number n) (λ x. true) k a number t [] d
    (λ s m e. rw (eqb-true _ n e) (h s m (eqb-true _ n e)))
