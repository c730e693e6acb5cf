-- A step whose locks are compatible with the others' sees in its caller's document what it sees in the document of every set
-- of transactions with the caller in it.
use Rattle.std.specs.Prelude.{ℕ, suc, ◌≡◌, Bool, true, false, not, ◌&&◌, eqb, leb}
use Rattle.std.proofs.Math.Path.{refl, sym}
use Rattle.std.proofs.Common.{◌∙◌, ap, true≢false, ⊎_elim, eq-eqb, eqb-true, ne_eqb}
use Rattle.std.proofs.lemmas.Bool.{false≢true}
use Rattle.std.proofs.Math.Bool.{or-true}
use mathlib.Core.List.{List, [], ◌∷◌, map}
use Rattle.tree.specs.Lists.{any, every, has, leads, keep}
use Rattle.tree.specs.Document.{here, Node, Line, lines, select}
use Rattle.tree.specs.Steps.{Step, T, C, R, U, D, I, TT, RR, UU, target, after, inserts, with_content}
use Rattle.tree.specs.Laws.Tests.{and_left, and_right, or_cases, refuted}
use Rattle.tree.specs.Laws.Lists.{any_map, keep_map, keep_keep, keep_same, in_keep, map_map, map_same}
use Rattle.tree.specs.Forest.{row, rows, view}
use Rattle.tree.specs.Laws.Rows.{of_rows}
use Rattle.tree.specs.Laws.View.{rows_view, in_view}
use Rattle.locks.specs.Needs.{Lock, need, needs}
use Rattle.locks.proofs.Laws.Compatible.{Compatible, excludes}
use Rattle.serializability.proofs.Laws.Classes.{update, rename, write, bars_removal, removal_barred, Contents, reads_contents}
use Rattle.serializability.proofs.Laws.Classes.{bars_writing, writing_barred}
use Rattle.serializability.proofs.Laws.Lines.{at_line}
use Rattle.serializability.specs.Laws.Views.{shape, Shapes, Whole, Reach, itself, children, subtree, within, reach, Views}
use Rattle.protocol.specs.State.{nobody, Marked, Tree, has_number, seen_by, callers_document, document_of, renamed, act, number_held}
use Rattle.protocol.specs.State.{Levels, done_by, shown, content_shown, as_shown, Update, unwritten, wrote, writer_of}
use Rattle.serializability.proofs.Laws.OpenLevels.{FallingUpdate, LevelsOpen, content_all}
use Rattle.serializability.proofs.Laws.Shown.{Place, path, numbers_of, local, U_shown, D_shown, I_shown, UU_shown, write_hidden}
use Rattle.serializability.proofs.Laws.Shown.{D_hidden, I_hidden, Inside, OwnUpdate}
use Rattle.serializability.proofs.Laws.Marks.{Covered, own_node, own, own_child, own_subtree, undeleted, writer_node}
use Rattle.serializability.proofs.Laws.Marks.{writer_subtree}
use Rattle.serializability.proofs.Laws.Numbers.{number_of, place_held}

-- the test of UU holds only in the subtree
pub renamed_under : (t n : ℕ) (a : List ℕ) (r : Place) → renamed t n a r ≡ true → has n (numbers_of (path r)) ≡ true
renamed_under t n a r h =
    any_map (λ q. eqb q n) (λ (x : Marked). x.now.number) (path r)
    ∙ and_right (every (seen_by t) (path r)) (any (has_number n) (path r)) (and_left _ _ h)

-- the places that a step sees from its node, as lines of a document and in the tree
abbrev pub places : Reach → ℕ → Place → Bool
places itself n r = eqb (number_of r) n
places children n r = leads n (numbers_of r.above)
places subtree n r = has n (numbers_of (path r))

-- two views of one tree ------------------------------------------------------------------

-- the document of the nodes that are shown, each with such a content
module _ (text : Marked → List ℕ) where
  abbrev pub with_text : Marked → Node
  with_text a = with_content a.now (text a)

  abbrev pub line_of : Place → Line
  line_of r = row (with_text r.it) (numbers_of r.above)

  within_places : (q : Reach) (n : ℕ) (r : Place) → within q n (line_of r) ≡ places q n r
  within_places itself n r = refl
  within_places children n r = refl
  within_places subtree n r = refl

  pub select_view : (sh : Marked → Bool) (q : Reach) (n : ℕ) (f : Tree)
      → select (within q n) (view sh with_text f) ≡ map line_of (keep (λ r. every sh (path r)) (keep (places q n) (rows (λ a. a) [] f)))
  unfolding select lines
  select_view sh q n f = rw (
    rows_view (λ a. a) sh sh (λ a. refl) with_text (λ a. a.number) (λ a. a.now.number) (λ a. refl) [] f refl,
    keep_map (within q n) (places q n) line_of (keep (λ r. every sh (path r)) (rows (λ a. a) [] f)) (λ r m. within_places q n r),
    keep_keep (places q n) (λ r. every sh (path r)) (rows (λ a. a) [] f),
  )

module _ (sh sh' : Marked → Bool) (text text' : Marked → List ℕ) (f : Tree) (q : Reach) (n : ℕ)
    (h : (r : Place) → Inside r f → places q n r ≡ true → every sh' (path r) ≡ every sh (path r)) where
  abbrev both : List Place
  both = keep (λ r. every sh (path r)) (keep (places q n) (rows (λ a. a) [] f))

  kept : keep (λ r. every sh' (path r)) (keep (places q n) (rows (λ a. a) [] f)) ≡ both
  kept = keep_same (λ r. every sh' (path r)) (λ r. every sh (path r)) (keep (places q n) (rows (λ a. a) [] f))
      (λ r m. let i = in_keep (places q n) (rows (λ a. a) [] f) m in h r (of_rows (λ a. a) r [] f i.0) i.1)

  agree_shapes : Shapes (within q n) (view sh (with_text text) f) (view sh' (with_text text') f)
  agree_shapes = rw (select_view text' sh' q n f, select_view text sh q n f, kept)
      (map_map shape (line_of text') (λ r. shape (line_of text r)) both (λ a m. refl) ∙ sym
      (map_map shape (line_of text) (λ r. shape (line_of text r)) both (λ a m. refl)))

  agree_whole : ((r : Place) → Inside r f → places q n r ≡ true → text' r.it ≡ text r.it)
      → Whole (within q n) (view sh (with_text text) f) (view sh' (with_text text') f)
  agree_whole k = rw (select_view text' sh' q n f, select_view text sh q n f, kept)
      (map_same (line_of text') (line_of text) both
      (λ r m. let i = in_keep (places q n) (rows (λ a. a) [] f) (in_keep (λ x. every sh (path x))
      (keep (places q n) (rows (λ a. a) [] f)) m).0 in
      rw (k r (of_rows (λ a. a) r [] f i.0) i.1)))

-- a number that no node has is in no document
pub unheld_absent : (sh : Marked → Bool) (text : Marked → List ℕ) (f : Tree) (m : ℕ) → number_held m f ≡ false
    → here m (view sh (with_text text) f) ≡ false
unheld_absent sh text f m h = refuted _ (λ e.
    let a = at_line m (view sh (with_text text) f) e in
    let v = in_view (λ x. x) sh sh (λ x. refl) (with_text text) (λ x. x.number) (λ x. x.now.number) (λ x. refl) [] f refl a.0 in
    true≢false (sym (place_held m f v.1 (sym (ap (λ (x : Line). x.it.number) v.3) ∙ a.1)) ∙ h))

-- the caller, and a set with it ------------------------------------------------------------

module _ (t : ℕ) (nz : t ≡ nobody → ⊥) (S : Levels) (st : (l : ℕ) → S t l ≡ true) where
  local_done : (u l : ℕ) → local t u ≡ true → done_by S u l ≡ true
  local_done u l h = ⊎_elim (λ p. rw p) (λ q. rw (eqb-true u t q, st l) (or-true (eqb t nobody))) (or_cases (eqb u nobody) (eqb u t) h)

  local_deleted : (u l : ℕ) → local t u ≡ true → not (not (eqb u nobody) && S u l) ≡ not (eqb u t)
  local_deleted u l h = ⊎_elim (λ (p : eqb u nobody ≡ true). rw (p, ne_eqb u t (λ q. nz (sym q ∙ eqb-true u nobody p))))
      (λ q. rw (eqb-true u t q, st l, ne_eqb t nobody nz, eq-eqb t t refl)) (or_cases (eqb u nobody) (eqb u t) h)

  -- where t alone left marks the set shows what t sees
  pub own_shown : (a : Marked) → own t a ≡ true → shown S a ≡ seen_by t a
  own_shown a h = rw (
    local_done a.inserter a.insertion_level (and_left _ _ h),
    local_deleted a.deleter a.deletion_level (and_right (local t a.inserter) _ h),
  )

  pub own_path : (l : List Marked) → every (own t) l ≡ true → every (shown S) l ≡ every (seen_by t) l
  own_path [] h = refl
  own_path (a ∷ l) h = rw (own_shown a (and_left _ _ h), own_path l (and_right (own t a) _ h))

  -- where t alone wrote it shows the content as it is now
  own_content : (b : List ℕ) (u : Update) → OwnUpdate t u → content_shown S b u ≡ b
  own_content b unwritten h = refl
  own_content b (wrote u l saved deeper) h = rw h.0 (content_all (S t) st b deeper l saved)

-- a writer that is t or nobody: somebody wrote what is written
pub own_update : (depth : ℕ → ℕ) (t : ℕ) (u : Update) → FallingUpdate depth u → local t (writer_of u) ≡ true → OwnUpdate t u
own_update depth t unwritten h e = tt
own_update depth t (wrote u l saved deeper) h e =
    (⊎_elim (λ p. absurd (h.0 (eqb-true u nobody p))) (eqb-true u t) (or_cases (eqb u nobody) (eqb u t) e), suc (depth u), h.1)

-- a step of t on a node of its document, compatible with what the others hold, which inserts no number held
module _ (holds : ℕ → List Lock) (f : Tree) (cov : Covered holds f) (t : ℕ) (nz : t ≡ nobody → ⊥) where
  abbrev pub CompatibleStep : Step → Type 0
  CompatibleStep s = (u : ℕ) → (u ≡ t → ⊥) → Compatible (needs s (callers_document t f)) (holds u)

  -- what the step sees has no marks of others
  pub own_seen : (s : Step) → here (target s) (callers_document t f) ≡ true → CompatibleStep s
      → (r : Place) → Inside r f → places (reach s) (target s) r ≡ true → every (own t) (path r) ≡ true
  own_seen s hs c r i e = go (reach s) (removal_barred s) e
    where
      go : (q : Reach) → bars_removal q (need s) (need (D 0)) ≡ true → places q (target s) r ≡ true → every (own t) (path r) ≡ true
      go itself b e = own_node holds f cov t s hs c r i (eqb-true _ (target s) e)
      go children b e = own_child holds f cov t s hs c b r i e
      go subtree b e = own_subtree holds f cov t s hs c b r i e

  -- the contents that the step reads or writes nobody else wrote
  pub own_read : {s : Step} → Contents s → here (target s) (callers_document t f) ≡ true → CompatibleStep s
      → (r : Place) → Inside r f → places (reach s) (target s) r ≡ true → local t (writer_of r.it.update) ≡ true
  own_read {s} z hs c r i e = go (reach s) (removal_barred s) (writing_barred z (update 0 [])) (writing_barred z (rename 0 [] [])) e
    where
      go : (q : Reach) → bars_removal q (need s) (need (D 0)) ≡ true → bars_writing q itself (need s) (need (U 0 [])) ≡ true
          → bars_writing q subtree (need s) (need (UU 0 [] [])) ≡ true → places q (target s) r ≡ true
          → local t (writer_of r.it.update) ≡ true
      go itself b u v e = writer_node holds f cov t s hs c v u r i (eqb-true _ (target s) e)
      go children b u v e = absurd (false≢true u)
      go subtree b u v e = writer_subtree holds f cov t s hs c (and_right (excludes (need s).node (need (UU 0 [] []))) _ v) b u
          (and_left _ _ v) r i e

  -- the levels of the marks are open
  module _ (depth : ℕ → ℕ) (lv : (r : Place) → Inside r f → LevelsOpen depth r.it) where
    own_saved : {s : Step} → Contents s → here (target s) (callers_document t f) ≡ true → CompatibleStep s
        → (r : Place) → Inside r f → places (reach s) (target s) r ≡ true → OwnUpdate t r.it.update
    own_saved z hs c r i e = own_update depth t r.it.update (lv r i).writes (own_read z hs c r i e)

    pub seen : (S : Levels) → ((l : ℕ) → S t l ≡ true) → (s : Step) → here (target s) (callers_document t f) ≡ true → CompatibleStep s
        → ((m : ℕ) → has m (inserts s) ≡ true → number_held m f ≡ false) → Views s (callers_document t f) (document_of S f)
    unfolding callers_document document_of
    seen S st s hs c new = record {
      node = agree_shapes (seen_by t) (shown S) (λ a. a.now.content) (λ a. (as_shown S a).content) f itself (target s)
          (λ r i e. own_path t nz S st (path r) (own_node holds f cov t s hs c r i (eqb-true _ (target s) e)));
      lines = agree_shapes (seen_by t) (shown S) (λ a. a.now.content) (λ a. (as_shown S a).content) f (reach s) (target s)
          (λ r i e. own_path t nz S st (path r) (own_seen s hs c r i e));
      contents = λ z. agree_whole (seen_by t) (shown S) (λ a. a.now.content) (λ a. (as_shown S a).content) f (reach s) (target s)
          (λ r i e. own_path t nz S st (path r) (own_seen s hs c r i e))
          (λ r i e. own_content t nz S st r.it.now.content r.it.update (own_saved (reads_contents s z) hs c r i e));
      absent = λ m h. unheld_absent (shown S) (λ a. (as_shown S a).content) f m (new m h) ∙ sym
          (unheld_absent (seen_by t) (λ a. a.now.content) f m (new m h));
    }

    -- a granted step is the plain step in the document of every set with all that its transaction did
    module _ (d : ℕ) (S : Levels) where
      pub act_shown : ((l : ℕ) → S t l ≡ true) → (s : Step) → here (target s) (callers_document t f) ≡ true → CompatibleStep s
          → document_of S (act t d s f) ≡ after s (document_of S f)
      act_shown st (T n) hs c = refl
      act_shown st (C n k) hs c = refl
      act_shown st (R n) hs c = refl
      act_shown st (U n b) hs c = U_shown t d nz S st n b f
      act_shown st (D n) hs c = D_shown t d nz S st n f
      act_shown st (I m kind b n k) hs c = I_shown t d nz S st n k (record { number = m; kind = kind; content = b }) f
          (λ r a p i o e. own_shown t nz S st r.it (and_left _ _ (own_seen (I m kind b n k) hs c r i
          (rw o (eq-eqb _ n e)))))
      act_shown st (TT n) hs c = refl
      act_shown st (RR n) hs c = refl
      act_shown st (UU n a b) hs c = UU_shown t d nz S st n a b f
          (λ r i e. (
            own_path t nz S st (path r) (own_seen (UU n a b) hs c r i e),
            ap (with_content r.it.now) (own_content t nz S st r.it.now.content r.it.update
                (own_saved (write (rename n a b)) hs c r i e)),
          ))

      -- and nothing in the document of a set without the step's level and those that are deeper
      pub act_hidden : ((l : ℕ) → leb d l ≡ true → S t l ≡ false) → (s : Step) → here (target s) (callers_document t f) ≡ true
          → CompatibleStep s → document_of S (act t d s f) ≡ document_of S f
      act_hidden st (T n) hs c = refl
      act_hidden st (C n k) hs c = refl
      act_hidden st (R n) hs c = refl
      act_hidden st (U n b) hs c = write_hidden t d nz S st (λ r. has_number n r.it) b f
          (λ r i e. own_saved (write (update n b)) hs c r i e)
      act_hidden st (D n) hs c = D_hidden t d nz S st n f (λ r i e. undeleted holds f cov t (D n) hs c r i e)
      act_hidden st (I m kind b n k) hs c = I_hidden t d nz S st n k (record { number = m; kind = kind; content = b }) f
      act_hidden st (TT n) hs c = refl
      act_hidden st (RR n) hs c = refl
      act_hidden st (UU n a b) hs c = write_hidden t d nz S st (renamed t n a) b f
          (λ r i e. own_saved (write (rename n a b)) hs c r i (renamed_under t n a r e))
