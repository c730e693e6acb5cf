-- A granted step keeps the marks covered by the locks that are held then.
use Rattle.std.specs.Prelude.{ℕ, ◌≡◌, refl, Bool, true, false, cond, ◌||◌, ◌⊎◌, eqb}
use Rattle.std.proofs.Common.{sym, subst, inl, inr, ⊎_elim, eqb-true, eq-eqb}
use Rattle.std.proofs.lemmas.Bool.{false≢true}
use Rattle.std.proofs.Math.Bool.{or-true}
use mathlib.Core.List.{List, [], ◌∷◌, Memᴰ}
use Rattle.std.proofs.Math.Logic.{⊎_map}
use Rattle.tree.specs.Lists.{has}
use Rattle.tree.specs.Forest.{row, put}
use Rattle.tree.specs.Document.{Node, here}
use Rattle.tree.specs.Steps.{Step, T, C, R, U, D, I, TT, RR, UU, target, inserts}
use Rattle.tree.specs.Laws.Tests.{or_cases}
use Rattle.tree.specs.Laws.Rows.{Each, each_above}
use Rattle.tree.specs.Laws.Put.{in_put, New}
use Rattle.locks.specs.Needs.{Lock, locks, needs}
use Rattle.locks.proofs.Laws.Places.{insertion_guards, U_locks, UU_locks}
use Rattle.serializability.proofs.Laws.Tests.{by_test, cond_same}
use Rattle.protocol.specs.State.{nobody, Marked, Tree, has_number, number_held, seen_by, callers_document, written_by, deleted_by}
use Rattle.protocol.specs.State.{inserted_by, granted_to, mark, mark_node, renamed, act, grant, Update, unwritten, wrote, writer_of, saving}
use Rattle.serializability.proofs.Laws.Granting.{keeps_written, keeps_deleted}
use Rattle.serializability.proofs.Laws.Shown.{Place, Inside, path, numbers_of}
use Rattle.serializability.proofs.Laws.Numbers.{number_of, in_mark, marked_numbers, mark_distinct, inserted_distinct}
use Rattle.serializability.proofs.Laws.Marks.{Within, marked_by, Guarded, Renames, Authored, Covered, author_more, above_is}
use Rattle.serializability.proofs.Laws.Seen.{CompatibleStep, renamed_under}

-- who saves is the writer
pub writer_saving : (t d : ℕ) (b : List ℕ) (u : Update) → writer_of (saving t d b u) ≡ t
writer_saving t d b unwritten = refl
writer_saving t d b (wrote u l saved deeper) = refl

-- locks are only added
module _ (holds holds' : ℕ → List Lock) (more : (u : ℕ) → Within (holds u) (holds' u)) where
  module _ (f : Tree) (cov : Covered holds f) (t d : ℕ) where
    -- who deleted or wrote a node had marked or written it, or is t, with the locks for it
    abbrev pub Deleted : (Place → Marked) → Place → Type 0
    Deleted c r = (u : ℕ) → (u ≡ nobody → ⊥) → eqb (c r).deleter u ≡ true
        → (marked_by u r.it ≡ true) ⊎ ((u ≡ t) × Within (locks (D (number_of r)) (numbers_of r.above)) (holds' t))

    abbrev Writes : Place → Type 0
    Writes r = Within (locks (U (number_of r) []) (numbers_of r.above)) (holds' t) ⊎ Renames holds' t (numbers_of (path r))

    abbrev pub Written : (Place → Marked) → Place → Type 0
    Written c r = (u : ℕ) → (u ≡ nobody → ⊥) → eqb (writer_of (c r).update) u ≡ true
        → (eqb (writer_of r.it.update) u ≡ true) ⊎ ((u ≡ t) × Writes r)

    pub same_deleter : (c : Place → Marked) (r : Place) → (c r).deleter ≡ r.it.deleter → Deleted c r
    same_deleter c r x u nu e = inl (rw (← x, e) (or-true (eqb r.it.inserter u)))

    pub same_writer : (c : Place → Marked) (r : Place) → writer_of (c r).update ≡ writer_of r.it.update → Written c r
    same_writer c r x u nu e = inl (rw x at e)

    pub mark_covered : (c : Place → Marked) → ((r : Place) → (c r).now.number ≡ number_of r)
        → ((r : Place) → (c r).inserter ≡ r.it.inserter) → ((r : Place) → Inside r f → Deleted c r)
        → ((r : Place) → Inside r f → Written c r) → Covered holds' (mark c f)
    mark_covered c sn si del wri = record { distinct = mark_distinct c sn f cov.distinct; guarded = gd; authored = au }
      where
        gd : (r : Place) → Inside r (mark c f) → Guarded holds' r.it r.above
        gd r i u nu h l j =
            let a = in_mark c f i in
            let s = a.0 in
            let j' : Memᴰ l (locks (D (number_of s)) (numbers_of s.above)) = rw (a.2, sn s, marked_numbers c sn s.above) at j in
            let old : marked_by u s.it ≡ true → Memᴰ l (holds' u) = λ e. more u l (cov.guarded s a.1 u nu e l j') in
            ⊎_elim (λ e. old (rw e)) (λ (e : eqb (c s).deleter u ≡ true). ⊎_elim old (λ x. rw x.0 (x.1 l j')) (del s a.1 u nu e))
            (or_cases (eqb s.it.inserter u) (eqb (c s).deleter u) (rw (a.2, si s) at h))

        au : (r : Place) → Inside r (mark c f) → Authored holds' r.it r.above
        au r i u nu h =
            let a = in_mark c f i in
            let s = a.0 in
            let g : eqb (writer_of (c s).update) u ≡ true = rw a.2 at h in
            rw (a.2, si s, sn s, marked_numbers c sn s.above) (⊎_elim
            (λ x. author_more holds holds' u (more u) _ _ (λ e. e) (number_of s) (numbers_of s.above) (cov.authored s a.1 u nu x))
            (λ x. inr (subst (λ (v : ℕ). Within (locks (U (number_of s) []) (numbers_of s.above)) (holds' v) ⊎ Renames holds' v (numbers_of (path s)))
            (sym x.0) x.1))
            (wri s a.1 u nu g))

    -- t wrote where a test says so, with the locks for it
    write_covered : (test : Place → Bool) (b : List ℕ) → ((r : Place) → Inside r f → test r ≡ true → Writes r)
        → Covered holds' (mark (λ r. cond (test r) (written_by t d b r.it) r.it) f)
    write_covered test b h =
        let c : Place → Marked = λ r. cond (test r) (written_by t d b r.it) r.it in
        mark_covered c (keeps_written t d b test).number (keeps_written t d b test).inserter
        (λ r i. same_deleter c r (cond_same (λ (a : Marked). a.deleter) (test r) (written_by t d b r.it) r.it refl))
        (λ r i u nu g. by_test (test r)
        (λ e. inr (sym (eqb-true t u (rw (e, writer_saving t d r.it.now.content r.it.update) at g)), h r i e))
        (λ e. inl (rw e at g)))

    delete_covered : (n : ℕ) → ((r : Place) → Inside r f → number_of r ≡ n
        → Within (locks (D (number_of r)) (numbers_of r.above)) (holds' t)) → Covered holds' (mark_node n (deleted_by t d) f)
    delete_covered n h =
        let c : Place → Marked = λ r. cond (has_number n r.it) (deleted_by t d r.it) r.it in
        let k = keeps_deleted t d (λ r. has_number n r.it) in
        mark_covered c k.number k.inserter
        (λ r i u nu g. by_test (has_number n r.it) (λ e. inr (sym (eqb-true t u (rw e at g)), h r i (eqb-true _ n e)))
        (λ e. inl (rw (rw e at g) (or-true (eqb r.it.inserter u)))))
        (λ r i. same_writer c r
        (cond_same (λ (a : Marked). writer_of a.update) (has_number n r.it) (deleted_by t d r.it) r.it refl))

    -- other locks, the same marks
    same_covered : Covered holds' f
    same_covered = record {
      distinct = cov.distinct;
      guarded = λ r i u nu h l j. more u l (cov.guarded r i u nu h l j);
      authored = λ r i u nu h. author_more holds holds' u (more u) _ _ (λ e. e) (number_of r) (numbers_of r.above)
          (cov.authored r i u nu h);
    }

    -- t inserted a node whose number nobody had, with the locks for its deletion
    insert_covered : (n k : ℕ) (new : Node) → number_held new.number f ≡ false
        → ((r : Place) → Inside r f → number_of r ≡ n → Within (locks (D new.number) (n ∷ numbers_of r.above)) (holds' t))
        → Covered holds' (put (has_number n) (seen_by t) k (inserted_by t d new) f)
    insert_covered n k new un w = record {
      distinct = inserted_distinct n (seen_by t) k (inserted_by t d new) f cov.distinct un;
      guarded = λ r i. gd r (in_put (has_number n) (seen_by t) k (inserted_by t d new) (λ a. a) [] f i);
      authored = λ r i. au r (in_put (has_number n) (seen_by t) k (inserted_by t d new) (λ a. a) [] f i);
    }
      where
        Put : Place → Type 0
        Put r = New (has_number n) (seen_by t) k (inserted_by t d new) (λ a. a) r [] f

        inserter_is : (u : ℕ) → (u ≡ nobody → ⊥) → (eqb t u || eqb nobody u) ≡ true → t ≡ u
        inserter_is u nu h = ⊎_elim (eqb-true t u) (λ e. absurd (nu (sym (eqb-true nobody u e)))) (or_cases (eqb t u) (eqb nobody u) h)

        gd : (r : Place) → Inside r f ⊎ Put r → Guarded holds' r.it r.above
        gd r (inl i) u nu h l j = same_covered.guarded r i u nu h l j
        gd r (inr i) u nu h l j = rw (← inserter_is u nu (rw i.3 at h))
            (w i.0 i.1 (eqb-true _ n i.2) l (rw (i.3, eqb-true _ n i.2) at j))

        au : (r : Place) → Inside r f ⊎ Put r → Authored holds' r.it r.above
        au r (inl i) u nu h = same_covered.authored r i u nu h
        au r (inr i) u nu h = absurd (nu (sym (eqb-true nobody u (rw i.3 at h))))

    -- a granted step
    module _ (nz : t ≡ nobody → ⊥) where
      pub act_covered : (s : Step) → here (target s) (callers_document t f) ≡ true → CompatibleStep holds f cov t nz s
          → ((m : ℕ) → has m (inserts s) ≡ true → number_held m f ≡ false)
          → Within (needs s (callers_document t f)) (holds' t) → Covered holds' (act t d s f)
      act_covered (T n) hs c new w = same_covered
      act_covered (C n k) hs c new w = same_covered
      act_covered (R n) hs c new w = same_covered
      act_covered (U n b) hs c new w = write_covered (λ r. has_number n r.it) b
          (λ r i e. inl (λ l j. w l (U_locks n [] b _ l (rw (
            eqb-true _ n e,
            above_is holds f cov t (U n b) hs c r i
                (eqb-true _ n e),
          ) at j))))
      act_covered (D n) hs c new w = delete_covered n (λ r i e l j. w l (rw (e, above_is holds f cov t (D n) hs c r i e) at j))
      act_covered (I m kind b n k) hs c new w = insert_covered n k (record { number = m; kind = kind; content = b })
          (new m (rw (eq-eqb m m refl)))
          (λ r i e l j. w l (insertion_guards m kind b n k _ l (rw (above_is holds f cov t (I m kind b n k) hs c r i e) at j)))
      act_covered (TT n) hs c new w = same_covered
      act_covered (RR n) hs c new w = same_covered
      act_covered (UU n a b) hs c new w = write_covered (renamed t n a) b
          (λ r i e. inr (found (path r) (each_above (λ x. x) (λ x p. Inside (row x p) f) tt (λ x j. j) i) (renamed_under t n a r e)))
        where
          found : (l : List Marked) → Each (λ x. x) (λ x p. Inside (row x p) f) l → has n (numbers_of l) ≡ true
              → Renames holds' t (numbers_of l)
          found [] g h = absurd (false≢true h)
          found (x ∷ p) g h = ⊎_map
              (λ y l m. w l (UU_locks n [] [] a b _ l (rw (
                eqb-true _ n y,
                above_is holds f cov t (UU n a b) hs c (row x p) g.0
                    (eqb-true _ n y),
              ) at m)))
              (found p g.1) (or_cases (eqb x.now.number n) (has n (numbers_of p)) h)

-- locks in the nodes are no marks
pub grant_covered : (holds : ℕ → List Lock) (t : ℕ) (ls : List Lock) (f : Tree) → Covered holds f → Covered holds (grant t ls f)
unfolding grant
grant_covered holds t ls f cov =
    let c : Place → Marked = λ r. granted_to t ls r.it in
    let more : (u : ℕ) → Within (holds u) (holds u) = λ u l i. i in
    mark_covered holds holds more f cov t 0 c (λ r. refl) (λ r. refl)
    (λ r i. same_deleter holds holds more f cov t 0 c r refl) (λ r i. same_writer holds holds more f cov t 0 c r refl)
