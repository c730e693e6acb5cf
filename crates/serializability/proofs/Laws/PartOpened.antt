-- Opening a part keeps the state in step with the logs.
use Rattle.std.specs.Prelude.{ℕ, suc, ◌<◌, ◌≤◌, ◌≡◌, refl, Bool, true, false, cond, ◌&&◌, List, eqb, leb}
use Rattle.std.proofs.Common.{sym, ap, ◌∙◌, subst, true≢false, arith, eqb-true, eq-eqb, ne_eqb, leb-true, leb-false, ltb-false, lt-ltb, le-ltb}
use Rattle.std.proofs.Math.Path.{fun_ext}
use Rattle.std.proofs.lemmas.Bool.{false≢true}
use Rattle.tree.specs.Lists.{has}
use Rattle.tree.specs.Document.{Document}
use Rattle.serializability.proofs.Laws.Tests.{by_test}
use Rattle.serializability.proofs.Laws.Parts.{Entry, Parts, end, Of, LevelledLog, Extent, below, all, shows, log_within, Proper}
use Rattle.serializability.proofs.Laws.Runs.{touched_in}
use Rattle.serializability.proofs.Laws.Orders.{Distinct}
use Rattle.serializability.proofs.Laws.Serial.{Serial, serial_same}
use Rattle.serializability.proofs.Laws.Levels.{whole_opens}
use Rattle.protocol.specs.State.{nobody, State, Tree, is_transaction, document_of, part_opened}
use Rattle.serializability.proofs.Laws.OpenLevels.{touched_within, deleted_within}
use Rattle.serializability.proofs.Laws.Shown.{Place, Inside}
use Rattle.serializability.proofs.Laws.Numbers.{number_of}
use Rattle.serializability.proofs.Laws.Marks.{Covered}
use Rattle.serializability.proofs.Laws.PartMarks.{SameLevels, open_shown}
use Rattle.serializability.proofs.Laws.LevelsKept.{with_depth_of, levels_more}
use Rattle.serializability.proofs.Laws.PartsTouched.{open_deleted, open_touched}
use Rattle.serializability.proofs.Laws.Good.{locks_of, whole, shown_of, Good}
use Rattle.serializability.proofs.Laws.GoodLaws.{everything_proper}

-- extents --------------------------------------------------------------------------------------

-- level 0 is shown where any is
pub shows_first : (x : Extent) (l : ℕ) → shows x 0 ≡ false → shows x l ≡ false
shows_first (below n) l e = let k = ltb-false 0 n e in le-ltb l n (omega (arith, k))
shows_first all l e = absurd (true≢false e)

some_first : (b : Bool) (x : Extent) (l : ℕ) → (b && shows x 0) ≡ false → (b && shows x l) ≡ false
some_first true x l e = shows_first x l e
some_first false x l e = refl

pub below_one : {n m : ℕ} → below n ≡ below m → n ≡ m
below_one i = ap (λ (x : Extent). elim x [ below n ↦ n | all ↦ 0 ]) i

-- of t as x says, of the others as X
abbrev pub for_one : ℕ → (ℕ → Extent) → Extent → ℕ → Extent
for_one t X x u = cond (eqb u t) x (X u)

-- where x and x' show the same of t, so do the sets
pub sets_same : (t d : ℕ) (X : ℕ → Extent) (x : Extent) (b : List ℕ) → SameLevels d (shows (X t)) (shows x)
    → SameLevels d (shown_of X b t) (shown_of (for_one t X x) b t)
sets_same t d X x b s = record {
  lower = λ l h. rw (eq-eqb t t refl, s.lower l h);
  first = λ l e. some_first (has t b) (X t) l e;
  first_other = λ l e. rw (eq-eqb t t refl) (some_first (has t b) x l (rw (eq-eqb t t refl) at e));
}

pub sets_other : (t : ℕ) (X : ℕ → Extent) (x : Extent) (b : List ℕ) (u l : ℕ) → (u ≡ t → ⊥)
    → shown_of X b u l ≡ shown_of (for_one t X x) b u l
sets_other t X x b u l ne = rw (ne_eqb u t ne)

-- open -----------------------------------------------------------------------------------------

-- as much with d parts open as x with one more
abbrev narrow : ℕ → Extent → Extent
narrow d (below n) = cond (leb n d) (below n) all
narrow d all = all

narrow_proper : (d : ℕ) (x : Extent) → Proper d (narrow d x)
narrow_proper d (below n) = by_test (leb n d) (λ e. rw e (λ m i. rw (← below_one i) (leb-true n d e)))
    (λ e. rw e (everything_proper (λ u. d) 0))
narrow_proper d all = everything_proper (λ u. d) 0

narrow_same : (d : ℕ) (x : Extent) → Proper (suc d) x → SameLevels (suc d) (shows x) (shows (narrow d x))
narrow_same d x k = record { lower = low x k; first = λ l e. shows_first x l e; first_other = λ l e. shows_first (narrow d x) l e }
  where
    low : (x : Extent) → Proper (suc d) x → (l : ℕ) → l < suc d → shows x l ≡ shows (narrow d x) l
    low (below n) k l h = by_test (leb n d) (λ e. rw e)
        (λ e. rw e (lt-ltb l n (omega (arith, leb-false n d e))))
    low all k l h = refl

narrow_log : (d : ℕ) (x : Extent) (c : LevelledLog) → Proper (suc d) x → ((e : ℕ) → d < e → c e ≡ end)
    → log_within x (suc d) c ≡ log_within (narrow d x) d c
narrow_log d (below n) c k s = by_test (leb n d) (λ e. rw e)
    (λ e. let i : n ≡ suc d = omega (arith, leb-false n d e, k n refl) in rw (e, i))
narrow_log d all c k s = whole_opens d c s

module _ (c : Document) (log : ℕ → LevelledLog) (M : State) (g : Good c log M) (t : ℕ) (tr : is_transaction t ≡ true)
    (op : M.header.is_open t ≡ true) where
  abbrev tree : Tree
  tree = M.tree

  abbrev depth : ℕ → ℕ
  depth = M.header.depth

  abbrev lev : ℕ
  lev = M.header.depth t

  abbrev opened_depth : ℕ → ℕ
  opened_depth = with_depth_of t (suc (M.header.depth t)) M.header.depth

  nz : t ≡ nobody → ⊥
  nz e = false≢true (rw e at tr)

  not_closed : (u : ℕ) → M.header.is_open u ≡ false → u ≡ t → ⊥
  not_closed u e i = true≢false (sym op ∙ rw i at e)

  -- so much of a log before the opening
  open_log : (x : Extent) (u : ℕ) → Proper (opened_depth u) x → log_within x (opened_depth u) (log u)
      ≡ log_within (cond (eqb u t) (narrow lev x) x) (depth u) (log u)
  open_log x u k = by_test (eqb u t)
      (λ e. let i = eqb-true u t e in
      let p : Proper (suc lev) x = rw e at k in
      rw (e, i) (narrow_log lev x (log t) p (λ l. g.deeper t l)))
      (λ e. rw e)

  open_whole : whole log opened_depth ≡ whole log depth
  open_whole = fun_ext (λ u. open_log all u (everything_proper opened_depth u) ∙ by_test (eqb u t) (λ e. rw e) (λ e. rw e))

  of_open : (u : ℕ) {y : Entry} → Of y (whole log opened_depth u) → Of y (whole log depth u)
  of_open u {y} i = subst (λ (w : ℕ → Parts). Of y (w u)) open_whole i

  open_of : (u : ℕ) {y : Entry} → Of y (whole log depth u) → Of y (whole log opened_depth u)
  open_of u {y} i = subst (λ (w : ℕ → Parts). Of y (w u)) (sym open_whole) i

  own_proper : (x : Extent) → Proper (opened_depth t) x → Proper (suc lev) x
  own_proper x k = rw (eq-eqb t t refl) at k

  nodes_touched : (r : Place) → Inside r tree → (u : ℕ) → (u ≡ nobody → ⊥) → (x : Extent) → Proper (opened_depth u) x
      → deleted_within x u r.it ≡ false → touched_within x u r.it ≡ touched_in (log_within x (opened_depth u) (log u)) (number_of r)
  nodes_touched r i u nu x k e = rw (open_log x u k) (by_test (eqb u t)
      (λ q. let j = eqb-true u t q in
      let p : Proper (suc lev) x = rw q at k in
      rw q (rw j (own p (rw j at e))))
      (λ q. rw q (g.touched r i u nu x (rw q at k) e)))
    where
      own : Proper (suc lev) x → deleted_within x t r.it ≡ false
          → touched_within x t r.it ≡ touched_in (log_within (narrow lev x) lev (log t)) (number_of r)
      own p e =
          let s = narrow_same lev x p in
          open_touched t lev nz depth refl r.it (g.levels r i) x (narrow lev x) s e
          ∙ g.touched r i t nz (narrow lev x) (narrow_proper lev x)
          (sym (open_deleted t lev nz depth refl r.it (g.levels r i) x (narrow lev x) s) ∙ e)

  documents : (X : ℕ → Extent) → ((u : ℕ) → Proper (opened_depth u) (X u)) → (b : List ℕ) → Distinct b
      → Serial c b (λ u. log_within (X u) (opened_depth u) (log u)) (document_of (shown_of X b) tree)
  documents X k b n =
      let x = narrow lev (X t) in
      let Y = for_one t X x in
      rw (open_shown t lev nz depth refl (shown_of X b) (shown_of Y b) (sets_other t X x b)
      (sets_same t (suc lev) X x b (narrow_same lev (X t) (own_proper (X t) (k t)))) tree g.levels)
      (serial_same c b (λ u. log_within (Y u) (depth u) (log u)) (λ u. log_within (X u) (opened_depth u) (log u)) _
      (λ u. sym (open_log (X u) u (k u) ∙ ap (λ z. log_within z (depth u) (log u)) (same u))) (g.serial Y proper b n))
    where
      proper : (u : ℕ) → Proper (depth u) (for_one t X (narrow lev (X t)) u)
      proper u = by_test (eqb u t) (λ e. rw (e, eqb-true u t e) (narrow_proper lev (X t))) (λ e. rw e (rw e at (k u)))

      same : (u : ℕ) → cond (eqb u t) (narrow lev (X u)) (X u) ≡ for_one t X (narrow lev (X t)) u
      same u = by_test (eqb u t) (λ e. rw (e, eqb-true u t e)) (λ e. rw e)

  deeper : (u : ℕ) → depth u ≤ opened_depth u
  deeper u = by_test (eqb u t) (λ e. rw (e, eqb-true u t e) (omega arith)) (λ e. rw e (omega arith))

  pub open_good : Good c log (part_opened t M)
  open_good = record {
    closed = g.closed;
    deeper = λ u l e. g.deeper u l (by_test (eqb u t) (λ i. let k : suc lev < l = rw i at e in rw (eqb-true u t i) (omega arith))
        (λ i. rw i at e));
    no_parts = λ u e. rw (ne_eqb u t (not_closed u e)) (g.no_parts u e);
    numbered = g.numbered;
    covered = subst (λ (w : ℕ → Parts). Covered (λ u. locks_of (w u)) tree) (sym open_whole) g.covered;
    standing = λ u y i. g.standing u y (of_open u i);
    brought = λ r i ne. let y = g.brought r i ne in (y.0, open_of r.it.inserter y.1, y.2);
    levels = λ r i. levels_more depth opened_depth deeper r.it (g.levels r i);
    touched = nodes_touched;
    serial = documents;
  }
