-- Commit and abort keep the state serializable: a commit moves its log to the committed transactions, an abort drops it.
use Rattle.std.specs.Prelude.{ℕ, ◌≡◌, refl, Bool, true, false, cond, not, ◌&&◌, ◌||◌, eqb}
use Rattle.std.proofs.Common.{sym, ap, ap₂, ◌∙◌, true≢false, ⊎_elim, eqb-true, eq-eqb, ne_eqb}
use Rattle.std.proofs.Math.Bool.{or-true}
use mathlib.Core.List.{List, [], ◌∷◌, map, Memᴰ}
use Rattle.std.proofs.lemmas.Bool.{eqb-false, not-true, not-false}
use Rattle.tree.specs.Lists.{every, has}
use Rattle.tree.specs.Forest.{view}
use Rattle.tree.specs.Document.{Document}
use Rattle.tree.specs.Steps.{D}
use Rattle.tree.specs.Laws.Tests.{and_left, and_right, or_cases}
use Rattle.tree.specs.Laws.Rows.{Each, each_above}
use Rattle.locks.specs.Modes.{Mode, LW}
use Rattle.locks.proofs.Laws.Compatible.{Locked, node_locked}
use Rattle.locks.proofs.Laws.Excludes.{LW_clashes}
use Rattle.serializability.proofs.Laws.Tests.{by_test, affirmed, eqb_sym}
use Rattle.serializability.proofs.Laws.Parts.{Entry, Parts, end, Of, LevelledLog, Extent, all, shows, log_within, Proper}
use Rattle.serializability.proofs.Laws.Runs.{Run, run_one_end, touched_in, not_of_end}
use Rattle.serializability.proofs.Laws.Orders.{Distinct, permuted_has, permuted_distinct, permutation_back, to_front, distinct_head}
use Rattle.serializability.proofs.Laws.Orders.{distinct_tail, distinct_cons}
use Rattle.serializability.proofs.Laws.Serial.{Serial, reorder, serial_same, commit, emptied, in_emptied, forget, idle}
use Rattle.protocol.specs.State.{nobody, State, Marked, Tree, seen_by, document_of, without, none_of, lasting, undone, commit_tree}
use Rattle.protocol.specs.State.{abort_tree, closed, Update, writer_of, level_of, update_without}
use Rattle.serializability.proofs.Laws.OpenLevels.{LevelsOpen, touched_within, deleted_within}
use Rattle.serializability.proofs.Laws.Shown.{Place, Inside, path, numbers_of, plus, minus, writer_without, commit_shown, abort_shown}
use Rattle.serializability.proofs.Laws.Numbers.{number_of, seen_as, in_part, part_in, part_distinct}
use Rattle.serializability.proofs.Laws.Marks.{marked_by, Guarded, Authored, author_more, Covered}
use Rattle.serializability.proofs.Laws.Standing.{Standing, Carried, standing_carried}
use Rattle.serializability.proofs.Laws.LevelsKept.{with_depth_of, lasting_levels, aborted_levels}
use Rattle.serializability.proofs.Laws.Good.{locks_of, whole, holds, Brought, shown_of, Good}
use Rattle.serializability.proofs.Laws.GoodLaws.{in_locks_of, brought_as, everything_proper, document_same, logs_compatible}
use Rattle.serializability.proofs.Laws.GoodLaws.{serial_all, no_log}
use Rattle.serializability.proofs.Laws.WithLevel.{within_same}

-- what an end of t does to the marks
pub record Ending (t : ℕ) (stays : Marked → Bool) (g : Marked → Marked) : Type 0 where
  pub number : (a : Marked) → (g a).now.number ≡ a.now.number
  -- only what t marked goes
  pub cut : (a : Marked) → stays a ≡ false → marked_by t a ≡ true
  -- the marks of t go, and no new ones come
  pub inserter : (a : Marked) (u : ℕ) → (u ≡ nobody → ⊥) → stays a ≡ true → eqb (g a).inserter u ≡ true
      → (eqb a.inserter u ≡ true) × (u ≡ t → ⊥)
  pub deleter : (a : Marked) (u : ℕ) → (u ≡ nobody → ⊥) → stays a ≡ true → eqb (g a).deleter u ≡ true
      → (eqb a.deleter u ≡ true) × (u ≡ t → ⊥)
  pub writer : (a : Marked) (u : ℕ) → (u ≡ nobody → ⊥) → eqb (writer_of (g a).update) u ≡ true
      → (eqb (writer_of a.update) u ≡ true) × (u ≡ t → ⊥)
  -- the others' stay
  pub inserter_stays : (a : Marked) (u : ℕ) → (u ≡ t → ⊥) → eqb a.inserter u ≡ true → eqb (g a).inserter u ≡ true
  pub held_stays : (a : Marked) (u : ℕ) (m : Mode) → (u ≡ t → ⊥) → a.held u m ≡ true → (g a).held u m ≡ true
  -- with their levels
  pub levels : (depth : ℕ → ℕ) (a : Marked) → stays a ≡ true → LevelsOpen depth a → LevelsOpen (with_depth_of t 0 depth) (g a)
  pub touched : (a : Marked) → stays a ≡ true → (x : Extent) (u : ℕ) → (u ≡ nobody → ⊥)
      → touched_within x u (g a) ≡ (not (eqb u t) && touched_within x u a)
  pub deleted : (a : Marked) (x : Extent) (u : ℕ) → (u ≡ nobody → ⊥) → (u ≡ t → ⊥) → deleted_within x u (g a) ≡ deleted_within x u a

-- logs -------------------------------------------------------------------------------------------

-- t did nothing
abbrev pub without_log : ℕ → (ℕ → LevelledLog) → ℕ → LevelledLog
without_log t log u e = cond (eqb u t) end (log u e)

module _ (t : ℕ) (log : ℕ → LevelledLog) (depth : ℕ → ℕ) where
  -- all of t, and of the others as much as X says
  abbrev all_and : (ℕ → Extent) → ℕ → Extent
  all_and X u = cond (eqb u t) all (X u)

  -- so much of the logs without t
  emptied_within : (X : ℕ → Extent) (u : ℕ) → emptied t (λ v. log_within (all_and X v) (depth v) (log v)) u
      ≡ log_within (X u) (with_depth_of t 0 depth u) (without_log t log u)
  emptied_within X u = by_test (eqb u t)
      (λ e. rw e (sym (no_log (X u) 0 (without_log t log u) (λ l. rw e))))
      (λ e. rw e (sym (within_same (X u) (depth u) (log u) (without_log t log u) (λ l. rw e))))

  and_proper : (X : ℕ → Extent) → ((u : ℕ) → Proper (with_depth_of t 0 depth u) (X u)) → (u : ℕ) → Proper (depth u) (all_and X u)
  and_proper X k u = by_test (eqb u t) (λ e. rw e (everything_proper depth u)) (λ e. rw e (rw e at (k u)))

  emptied_whole : (u : ℕ) → emptied t (whole log depth) u ≡ whole (without_log t log) (with_depth_of t 0 depth) u
  emptied_whole u = by_test (eqb u t)
      (λ e. rw e)
      (λ e. let same : emptied t (whole log depth) u ≡ whole log depth u = rw e in
      let k : with_depth_of t 0 depth u ≡ depth u = rw e in
      same ∙ sym (ap (λ z. log_within all z (without_log t log u)) k ∙ within_same all (depth u) (log u) (without_log t log u) (λ l. rw e)))

  -- the entries of the others
  emptied_of : (u : ℕ) {y : Entry} → Of y (whole (without_log t log) (with_depth_of t 0 depth) u) → Of y (whole log depth u)
  emptied_of u i = in_emptied t (whole log depth) u (rw (← emptied_whole u) at i)

  emptied_other : (u : ℕ) {y : Entry} → Of y (whole (without_log t log) (with_depth_of t 0 depth) u) → u ≡ t → ⊥
  emptied_other u {y} i e =
      let j : Of y (emptied t (whole log depth) u) = rw (← emptied_whole u) at i in
      not_of_end (rw (eq-eqb u t e) at j)

  others_whole : (u : ℕ) → (u ≡ t → ⊥) → whole log depth u ≡ whole (without_log t log) (with_depth_of t 0 depth) u
  others_whole u ne = sym (rw (ne_eqb u t ne)) ∙ emptied_whole u

-- the tree --------------------------------------------------------------------------------------

module _ (c : Document) (log : ℕ → LevelledLog) (M : State) (g : Good c log M) (t : ℕ) (nz : t ≡ nobody → ⊥)
    (stays : Marked → Bool) (h : Marked → Marked) (ends : Ending t stays h) where
  abbrev f : Tree
  f = M.tree

  abbrev rest : Tree
  rest = view stays h M.tree

  abbrev depth : ℕ → ℕ
  depth = M.header.depth

  abbrev depth' : ℕ → ℕ
  depth' = with_depth_of t 0 M.header.depth

  abbrev log' : ℕ → LevelledLog
  log' = without_log t log

  holds_other : (u : ℕ) → (u ≡ t → ⊥) → holds log' depth' u ≡ holds log depth u
  holds_other u ne = ap locks_of (sym (others_whole t log depth u ne))

  numbers_same : (p : List Marked) → numbers_of (map h p) ≡ numbers_of p
  numbers_same [] = refl
  numbers_same (a ∷ p) = rw (ends.number a, numbers_same p)

  end_covered : Covered (holds log' depth') rest
  end_covered = record { distinct = part_distinct stays h ends.number f g.covered.distinct; guarded = gd; authored = au }
    where
      gd : (r : Place) → Inside r rest → Guarded (holds log' depth') r.it r.above
      gd r i u nu m l j =
          let a = in_part stays h f i in
          let s = a.0.it in
          let give : (u ≡ t → ⊥) → marked_by u s ≡ true → Memᴰ l (holds log' depth' u) =
          λ ne w. rw (holds_other u ne) (g.covered.guarded a.0 a.1 u nu w l
          (rw (a.3, ends.number s, numbers_same a.0.above) at j)) in
          ⊎_elim (λ x. let w = ends.inserter s u nu (and_left _ _ a.2) x in give w.1 (rw w.0))
          (λ x. let w = ends.deleter s u nu (and_left _ _ a.2) x in give w.1 (rw (w.0, or-true (eqb s.inserter u))))
          (or_cases (eqb (h s).inserter u) (eqb (h s).deleter u) (rw a.3 at m))

      au : (r : Place) → Inside r rest → Authored (holds log' depth') r.it r.above
      au r i u nu m =
          let a = in_part stays h f i in
          let s = a.0.it in
          let w = ends.writer s u nu (rw a.3 at m) in
          rw (a.3, ends.number s, numbers_same a.0.above) (author_more (holds log depth) (holds log' depth') u
          (λ l x. rw (holds_other u w.1) x)
          _ _ (ends.inserter_stays s u w.1) s.now.number (numbers_of a.0.above)
          (g.covered.authored a.0 a.1 u nu w.0))

  -- where another transaction locked all of a path nothing goes
  path_stays : (u : ℕ) → (u ≡ t → ⊥) → (l : List Marked) → Each (λ a. a) (Guarded (holds log depth)) l
      → ((q : ℕ) → has q (numbers_of l) ≡ true → (m : Mode) × Locked q m (holds log depth u)) → every stays l ≡ true
  path_stays u ne [] k w = refl
  path_stays u ne (a ∷ p) k w =
      let here : stays a ≡ true = affirmed _ (λ x.
      let v = w a.now.number (rw (eq-eqb a.now.number a.now.number refl)) in
      let lw : Locked a.now.number LW (holds log depth t) =
      k.0 t nz (ends.cut a x) (a.now.number, LW) (node_locked (D a.now.number) (numbers_of p) LW (mathlib.Core.List.Memᴰ.head refl)) in
      true≢false (sym (LW_clashes v.0) ∙ logs_compatible g u t ne a.now.number v.0 LW v.1 lw)) in
      rw (here, path_stays u ne p k.1 (λ q z. w q (rw (z, or-true (eqb a.now.number q)))))

  end_standing : (u : ℕ) (y : Entry) → Of y (whole log' depth' u) → Standing rest u y.step y.held
  end_standing u y i = standing_carried f rest g.covered.distinct u y.step y.held (g.standing u y there) carry
    where
      there : Of y (whole log depth u)
      there = emptied_of t log depth u i

      ne : u ≡ t → ⊥
      ne = emptied_other t log depth u i

      carry : (r : Place) → Inside r f → ((q : ℕ) → has q (numbers_of (path r)) ≡ true → (m : Mode) × Locked q m y.held)
          → Carried u rest r
      carry r j w =
          let stay : every stays (path r) ≡ true = path_stays u ne (path r)
          (each_above (λ a. a) (Guarded (holds log depth)) tt g.covered.guarded j)
          (λ q z. let m = w q z in (m.0, in_locks_of (whole log depth u) y there (q, m.0) m.1)) in
          record {
            place = seen_as stays h r;
            inside = part_in stays h f j stay;
            number = ends.number r.it;
            above = numbers_same r.above;
            held = λ a x. ends.held_stays r.it u a ne x;
            inserter = λ e. eqb-true _ u (ends.inserter_stays r.it u ne (eq-eqb _ u e));
          }

  end_brought : (r : Place) → Inside r rest → (r.it.inserter ≡ nobody → ⊥) → Brought log' depth' (number_of r) r.it.inserter
  end_brought r i nu =
      let a = in_part stays h f i in
      let w = ends.inserter a.0.it r.it.inserter nu (and_left _ _ a.2)
      (eq-eqb _ _ (ap (λ (z : Place). z.it.inserter) (sym a.3))) in
      let e : r.it.inserter ≡ a.0.it.inserter = sym (eqb-true _ _ w.0) in
      let y = g.brought a.0 a.1 (λ z. nu (e ∙ z)) in
      brought_as log' depth' (ap number_of a.3 ∙ ends.number a.0.it) e
      (y.0, rw (← others_whole t log depth a.0.it.inserter (λ z. w.1 (e ∙ z))) y.1, y.2)

  -- t has touched nothing, and the others what they had touched
  end_touched : (r : Place) → Inside r rest → (u : ℕ) → (u ≡ nobody → ⊥) → (x : Extent) → Proper (depth' u) x
      → deleted_within x u r.it ≡ false → touched_within x u r.it ≡ touched_in (log_within x (depth' u) (log' u)) (number_of r)
  end_touched r i u nu x k e =
      let a = in_part stays h f i in
      rw (a.3, ends.number a.0.it, ends.touched a.0.it (and_left _ _ a.2) x u nu) (by_test (eqb u t)
      (λ q. rw (q, no_log x 0 (log' u) (λ l. rw q)))
      (λ q. let ne = eqb-false u t q in
      rw (q, within_same x (depth u) (log u) (log' u) (λ l. rw q)) (g.touched a.0 a.1 u nu x (rw q at k)
      (sym (ends.deleted a.0.it x u nu ne) ∙ rw a.3 at e))))

  -- the rest of what is claimed of the state, from the documents
  end_good : (c' : Document) → ((X : ℕ → Extent) → ((u : ℕ) → Proper (depth' u) (X u)) → (b : List ℕ) → Distinct b
      → Serial c' b (λ u. log_within (X u) (depth' u) (log' u)) (document_of (shown_of X b) rest)) → Good c' log' (closed t rest M)
  end_good c' serial = record {
    closed = λ u e l. by_test (eqb u t) (λ x. rw x) (λ x. rw x (g.closed u (rw x at e) l));
    deeper = λ u l e. by_test (eqb u t) (λ x. rw x) (λ x. rw x (g.deeper u l (rw x at e)));
    no_parts = λ u e. by_test (eqb u t) (λ x. rw x) (λ x. rw x (g.no_parts u (rw x at e)));
    numbered = λ u e. g.numbered u (and_right (not (eqb u t)) _ e);
    covered = end_covered;
    standing = end_standing;
    brought = end_brought;
    levels = λ r i. let a = in_part stays h f i in
        rw a.3 (ends.levels depth a.0.it (and_left _ _ a.2) (g.levels a.0 a.1));
    touched = end_touched;
    serial = serial;
  }

-- the documents -----------------------------------------------------------------------------------

-- of a transaction with an empty log, from the lists without it to all
all_orders : (c : Document) (t : ℕ) (log : ℕ → Parts) (f : Tree) (X : ℕ → Extent) → log t ≡ end
    → ((b : List ℕ) → Distinct b → has t b ≡ false → Serial c b log (document_of (shown_of X b) f))
    → ((b : List ℕ) → document_of (shown_of X (t ∷ b)) f ≡ document_of (shown_of X b) f) → (b : List ℕ) → Distinct b
    → Serial c b log (document_of (shown_of X b) f)
all_orders c t log f X e s k b n = by_test (has t b) (λ x.
    let p = to_front t b x in
    let m : Distinct (t ∷ p.0) = permuted_distinct p.1 n in
    rw (document_same (shown_of X b) (shown_of X (t ∷ p.0)) f
    (λ u l. ap (λ z. z && shows (X u) l) (sym (permuted_has p.1 u))) ∙ k p.0)
    (reorder c (t ∷ p.0) b log (document_of (shown_of X p.0) f) (permutation_back p.1)
    (idle c t p.0 log (document_of (shown_of X p.0) f) (distinct_head t p.0 m) e
    (s p.0 (distinct_tail t p.0 m) (distinct_head t p.0 m)))))
    (s b n)

module _ (c : Document) (log : ℕ → LevelledLog) (M : State) (g : Good c log M) (t : ℕ) (nz : t ≡ nobody → ⊥) (X : ℕ → Extent)
    (proper : (u : ℕ) → Proper (with_depth_of t 0 M.header.depth u) (X u)) where
  abbrev tree : Tree
  tree = M.tree

  abbrev old_depth : ℕ → ℕ
  old_depth = M.header.depth

  -- of t all, of the others as much as before
  abbrev Y : ℕ → Extent
  Y = all_and t log M.header.depth X

  abbrev part_log : ℕ → Parts
  part_log u = log_within (Y u) (M.header.depth u) (log u)

  abbrev left_log : ℕ → Parts
  left_log u = log_within (X u) (with_depth_of t 0 M.header.depth u) (without_log t log u)

  before : (b : List ℕ) → Distinct b → Serial c b part_log (document_of (shown_of Y b) tree)
  before b n = g.serial Y (and_proper t log old_depth X proper) b n

  left_same : (u : ℕ) → emptied t part_log u ≡ left_log u
  left_same = emptied_within t log old_depth X

  left_own : left_log t ≡ end
  left_own = sym (left_same t) ∙ rw (eq-eqb t t refl)

  commit_serial : (k : ℕ) (e : Document) → Run c (whole log old_depth t) e → (b : List ℕ) → Distinct b
      → Serial e b left_log (document_of (shown_of X b) (commit_tree k t tree))
  commit_serial k e r = all_orders e t left_log (commit_tree k t tree) X left_own others own
    where
      -- what is shown with t
      shown_with : (b : List ℕ) (u l : ℕ) → plus t (shown_of X b) u l ≡ shown_of Y (t ∷ b) u l
      shown_with b u l = rw (eqb_sym t u) (by_test (eqb u t) (λ x. rw x) (λ x. rw x))

      others : (b : List ℕ) → Distinct b → has t b ≡ false → Serial e b left_log (document_of (shown_of X b) (commit_tree k t tree))
      others b n w =
          let x = commit c t b part_log (document_of (shown_of Y (t ∷ b)) tree) (before (t ∷ b) (distinct_cons t b w n)) in
          let q : Run c (whole log old_depth t) x.0 = rw (eq-eqb t t refl) at x.1 in
          rw (
            commit_shown t nz (shown_of X b) k tree,
            document_same (plus t (shown_of X b)) (shown_of Y (t ∷ b)) tree (shown_with b),
            run_one_end c (whole log old_depth t) e x.0 r q,
          )
          (serial_same x.0 b (emptied t part_log) left_log _ left_same
          (forget x.0 t b part_log (document_of (shown_of Y (t ∷ b)) tree) w x.2))

      own : (b : List ℕ) → document_of (shown_of X (t ∷ b)) (commit_tree k t tree) ≡ document_of (shown_of X b) (commit_tree k t tree)
      own b = commit_shown t nz (shown_of X (t ∷ b)) k tree
          ∙ document_same (plus t (shown_of X (t ∷ b))) (plus t (shown_of X b)) tree
          (λ u l. rw (eqb_sym t u) (by_test (eqb u t) (λ x. rw x) (λ x. rw x)))
          ∙ sym (commit_shown t nz (shown_of X b) k tree)

  abort_serial : (b : List ℕ) → Distinct b → Serial c b left_log (document_of (shown_of X b) (abort_tree t tree))
  abort_serial = all_orders c t left_log (abort_tree t tree) X left_own others own
    where
      off : (b : List ℕ) → has t b ≡ false → (u l : ℕ) → minus t (shown_of X b) u l ≡ shown_of Y b u l
      off b w u l = by_test (eqb u t) (λ x. rw (x, eqb-true u t x, w)) (λ x. rw x)

      others : (b : List ℕ) → Distinct b → has t b ≡ false → Serial c b left_log (document_of (shown_of X b) (abort_tree t tree))
      others b n w = rw (abort_shown t nz (shown_of X b) tree, document_same (minus t (shown_of X b)) (shown_of Y b) tree (off b w))
          (serial_same c b (emptied t part_log) left_log _ left_same
          (forget c t b part_log (document_of (shown_of Y b) tree) w (before b n)))

      own : (b : List ℕ) → document_of (shown_of X (t ∷ b)) (abort_tree t tree) ≡ document_of (shown_of X b) (abort_tree t tree)
      own b = abort_shown t nz (shown_of X (t ∷ b)) tree ∙ document_same (minus t (shown_of X (t ∷ b))) (minus t (shown_of X b)) tree
          (λ u l. rw (eqb_sym t u) (by_test (eqb u t) (λ x. rw x) (λ x. rw x))) ∙ sym (abort_shown t nz (shown_of X b) tree)

-- both ends ---------------------------------------------------------------------------------------

without_is : (t x u : ℕ) → (u ≡ nobody → ⊥) → eqb (without t x) u ≡ true → (eqb x u ≡ true) × (u ≡ t → ⊥)
without_is t x u nu h = by_test (eqb x t) (λ e. absurd (nu (sym (eqb-true nobody u (rw e at h)))))
    (λ e. let i : eqb x u ≡ true = rw e at h in (i, λ q. eqb-false x t e (eqb-true x u i ∙ q)))

without_keeps : (t x u : ℕ) → (u ≡ t → ⊥) → eqb x u ≡ true → eqb (without t x) u ≡ true
without_keeps t x u ne h = rw (ne_eqb x t (λ e. ne (sym (eqb-true x u h) ∙ e)), h)

none_keeps : (t : ℕ) (a : Marked) (u : ℕ) (m : Mode) → (u ≡ t → ⊥) → a.held u m ≡ true → none_of t a.held u m ≡ true
none_keeps t a u m ne h = rw (ne_eqb u t ne) h

other_mark : (x t u : ℕ) → not (eqb x t) ≡ true → eqb x u ≡ true → (eqb x u ≡ true) × (u ≡ t → ⊥)
other_mark x t u s h = (h, λ e. eqb-false x t (not-true (eqb x t) s) (eqb-true x u h ∙ e))

-- a mark of u, at a level that is shown or not, where t leaves no marks
module _ (t u : ℕ) (nu : u ≡ nobody → ⊥) where
  without_mark : (x : ℕ) (p : Bool) → (eqb (without t x) u && p) ≡ (not (eqb u t) && (eqb x u && p))
  without_mark x p = by_test (eqb x t)
      (λ e. rw (e, ne_eqb nobody u (λ z. nu (sym z)), eqb-true x t e, eqb_sym t u) (by_test (eqb u t) (λ y. rw y) (λ y. rw y)))
      (λ e. rw e (by_test (eqb u t) (λ y. rw (y, eqb-true u t y, e)) (λ y. rw y)))

  apart_mark : (x : ℕ) (p : Bool) → eqb x t ≡ false → (eqb x u && p) ≡ (not (eqb u t) && (eqb x u && p))
  apart_mark x p e = by_test (eqb u t) (λ y. rw (y, eqb-true u t y, e)) (λ y. rw y)

  without_written : (x : Extent) (v : Update) → (eqb (writer_of (update_without t v)) u && shows x (level_of (update_without t v)))
      ≡ (not (eqb u t) && (eqb (writer_of v) u && shows x (level_of v)))
  without_written x v = by_test (eqb (writer_of v) t)
      (λ e. rw e (rw (ne_eqb nobody u (λ z. nu (sym z))) (sym (gone e))))
      (λ e. rw e (apart_mark (writer_of v) (shows x (level_of v)) e))
    where
      gone : eqb (writer_of v) t ≡ true → (not (eqb u t) && (eqb (writer_of v) u && shows x (level_of v))) ≡ false
      gone e = sym (without_mark (writer_of v) (shows x (level_of v))) ∙ rw (e, ne_eqb nobody u (λ z. nu (sym z)))

  both_marks : (p q : Bool) → ((not (eqb u t) && p) || (not (eqb u t) && q)) ≡ (not (eqb u t) && (p || q))
  both_marks p q = by_test (eqb u t) (λ e. rw e) (λ e. rw e)

commit_ends : (k t : ℕ) → Ending t (seen_by t) (lasting k t)
commit_ends k t = record {
  number = λ a. refl;
  cut = λ a e. rw (not-false (eqb a.deleter t) e) (or-true (eqb a.inserter t));
  inserter = λ a u nu s e. without_is t a.inserter u nu e;
  deleter = λ a u nu s e. other_mark a.deleter t u s e;
  writer = λ a u nu e. without_is t (writer_of a.update) u nu (rw (writer_without t a.update) at e);
  inserter_stays = λ a u ne e. without_keeps t a.inserter u ne e;
  held_stays = λ a u m ne e. none_keeps t a u m ne e;
  levels = λ depth a s h. lasting_levels t depth k a s h;
  touched = λ a s x u nu. ap₂ (λ p q. p || q) (without_mark t u nu a.inserter (shows x a.insertion_level))
      (without_written t u nu x a.update) ∙ both_marks t u nu _ _;
  deleted = λ a x u nu ne. refl;
}

abort_ends : (t : ℕ) → Ending t (λ a. not (eqb a.inserter t)) (undone t)
abort_ends t = record {
  number = λ a. refl;
  cut = λ a e. rw (not-false (eqb a.inserter t) e);
  inserter = λ a u nu s e. other_mark a.inserter t u s e;
  deleter = λ a u nu s e. without_is t a.deleter u nu e;
  writer = λ a u nu e. without_is t (writer_of a.update) u nu (rw (writer_without t a.update) at e);
  inserter_stays = λ a u ne e. e;
  held_stays = λ a u m ne e. none_keeps t a u m ne e;
  levels = λ depth a s h. aborted_levels t depth a s h;
  touched = λ a s x u nu. ap₂ (λ p q. p || q) (apart_mark t u nu a.inserter (shows x a.insertion_level) (not-true _ s))
      (without_written t u nu x a.update) ∙ both_marks t u nu _ _;
  deleted = λ a x u nu ne. without_mark t u nu a.deleter (shows x a.deletion_level) ∙ rw (ne_eqb u t ne);
}

-- commit: the committed document goes on by the log of t
pub commit_good : (c : Document) (log : ℕ → LevelledLog) (M : State) → Good c log M → (t : ℕ) → (t ≡ nobody → ⊥) → (k : ℕ)
    → (e : Document) × Run c (whole log M.header.depth t) e × Good e (without_log t log) (closed t (commit_tree k t M.tree) M)
unfolding commit_tree
commit_good c log M g t nz k =
    let x = commit c t [] (whole log M.header.depth) _ (serial_all g (t ∷ []) refl) in (
      x.0,
      x.1,
      end_good c log M g t nz (seen_by t) (lasting k t) (commit_ends k t) x.0
          (λ X proper. commit_serial c log M g t nz X proper k x.0 x.1),
    )

-- abort: the committed document stays
pub abort_good : (c : Document) (log : ℕ → LevelledLog) (M : State) → Good c log M → (t : ℕ) → (t ≡ nobody → ⊥)
    → Good c (without_log t log) (closed t (abort_tree t M.tree) M)
unfolding abort_tree
abort_good c log M g t nz = end_good c log M g t nz (λ a. not (eqb a.inserter t)) (undone t) (abort_ends t) c
    (λ X proper. abort_serial c log M g t nz X proper)
