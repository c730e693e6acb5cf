-- Closing and undoing a part keep the state in step with the logs.
use Rattle.std.specs.Prelude.{ℕ, suc, ◌-◌, ◌<◌, ◌≤◌, ◌≡◌, refl, true, false, cond, ◌&&◌, List, [], ◌∷◌, eqb}
use Rattle.std.proofs.Common.{sym, ap, ◌∙◌, true≢false, inl, arith, eqb-true, eq-eqb, ne_eqb, lt-ltb, le-ltb}
use Rattle.std.proofs.lemmas.Bool.{false≢true, eqb-false}
use Rattle.std.proofs.Math.Bool.{or-true, or-false, and-false}
use mathlib.Core.List.Memᴰ
use Rattle.tree.specs.Lists.{has}
use Rattle.tree.specs.Document.{Document}
use Rattle.tree.specs.Steps.{D}
use Rattle.tree.specs.Laws.Tests.{and_left}
use Rattle.locks.specs.Modes.{LW}
use Rattle.locks.proofs.Laws.Compatible.{Locked, node_locked}
use Rattle.locks.proofs.Laws.Excludes.{LW_clashes}
use Rattle.serializability.proofs.Laws.Tests.{by_test}
use Rattle.serializability.proofs.Laws.Parts.{Entry, Parts, end, undone, then, Of, LevelledLog, first_levels, Extent, below, all}
use Rattle.serializability.proofs.Laws.Parts.{shows, log_within, Proper, with_level}
use Rattle.serializability.proofs.Laws.Runs.{touched_in, touched_then, then_assoc}
use Rattle.serializability.proofs.Laws.Orders.{Distinct}
use Rattle.serializability.proofs.Laws.Serial.{Serial, serial_same, replaced, undo, of_taken_back, of_untaken}
use Rattle.protocol.specs.State.{nobody, State, Marked, Tree, is_transaction, document_of, with_tree, with_header, with_depth, writer_of}
use Rattle.protocol.specs.State.{mark, Update, unwritten, wrote, inserted_at, deleted_at, update_undone, update_joined, part_undone}
use Rattle.protocol.specs.State.{part_joined, undo_tree, join_tree, part_closed, part_taken_back}
use Rattle.serializability.proofs.Laws.OpenLevels.{LevelsOpen, touched_within, deleted_within}
use Rattle.serializability.proofs.Laws.Shown.{Place, Inside, numbers_of}
use Rattle.serializability.proofs.Laws.Numbers.{number_of, in_mark}
use Rattle.serializability.proofs.Laws.Marks.{marked_by, inserter_marks, deleter_marks, Within, Covered}
use Rattle.serializability.proofs.Laws.Keeping.{mark_covered}
use Rattle.serializability.proofs.Laws.Standing.{Standing, standing_carried}
use Rattle.serializability.proofs.Laws.Granting.{carried_by_mark}
use Rattle.serializability.proofs.Laws.PartMarks.{UndoneLevels, undone_marks, undo_shown, join_shown}
use Rattle.serializability.proofs.Laws.LevelsKept.{with_depth_of, undone_levels, joined_levels}
use Rattle.serializability.proofs.Laws.PartsTouched.{undone_deleted, undone_touched, other_touched, other_deleted, joined_touched}
use Rattle.serializability.proofs.Laws.PartsTouched.{joined_deleted}
use Rattle.serializability.proofs.Laws.Good.{whole, holds, Brought, shown_of, Good}
use Rattle.serializability.proofs.Laws.GoodLaws.{in_locks_of, lock_entry, brought_as, everything_proper, logs_compatible}
use Rattle.serializability.proofs.Laws.PartOpened.{shows_first, below_one, for_one, sets_same, sets_other}
use Rattle.serializability.proofs.Laws.WithLevel.{within_same, within_lower, within_last, level_other, level_apart, level_own}

-- what leaving a part does to the marks: no new ones come
record Leaving (t d : ℕ) (depth : ℕ → ℕ) (edit : Marked → Marked) : Type 0 where
  number : (a : Marked) → (edit a).now.number ≡ a.now.number
  inserter : (a : Marked) → (edit a).inserter ≡ a.inserter
  held : (a : Marked) → (edit a).held ≡ a.held
  deleter : (a : Marked) (u : ℕ) → (u ≡ nobody → ⊥) → eqb (edit a).deleter u ≡ true → marked_by u a ≡ true
  writer : (a : Marked) (u : ℕ) → (u ≡ nobody → ⊥) → eqb (writer_of (edit a).update) u ≡ true → eqb (writer_of a.update) u ≡ true
  levels : (a : Marked) → LevelsOpen depth a → LevelsOpen (with_depth_of t (suc d - 1) depth) (edit a)

writer_joined : (t d : ℕ) (u : Update) → writer_of (cond (eqb (writer_of u) t) (update_joined d u) u) ≡ writer_of u
writer_joined t d u = by_test (eqb (writer_of u) t) (λ e. rw e (go u)) (λ e. rw e)
  where
    go : (u : Update) → writer_of (update_joined d u) ≡ writer_of u
    go unwritten = refl
    go (wrote u l saved []) = refl
    go (wrote u l saved (x ∷ xs)) = refl

-- who wrote what an undo leaves
writer_undone : (t d : ℕ) (u : Update) (v : ℕ) → (v ≡ nobody → ⊥)
    → eqb (writer_of (cond (eqb (writer_of u) t) (update_undone d u) u)) v ≡ true → eqb (writer_of u) v ≡ true
writer_undone t d u v nv h = by_test (eqb (writer_of u) t) (λ e. go u (rw e at h)) (λ e. rw e at h)
  where
    go : (u : Update) → eqb (writer_of (update_undone d u)) v ≡ true → eqb (writer_of u) v ≡ true
    go unwritten h = h
    go (wrote u l saved []) h = by_test (eqb l d) (λ e. absurd (nv (sym (eqb-true nobody v (rw e at h))))) (λ e. rw e at h)
    go (wrote u l saved (x ∷ xs)) h = h

module _ (t d : ℕ) (nz : t ≡ nobody → ⊥) (depth : ℕ → ℕ) (at : depth t ≡ suc d) where
  joined_leaving : Leaving t d depth (part_joined t (suc d))
  joined_leaving = record {
    number = λ a. refl;
    inserter = λ a. refl;
    held = λ a. refl;
    deleter = λ a u nu e. rw e (or-true (eqb a.inserter u));
    writer = λ a u nu e. rw (writer_joined t (suc d) a.update) at e;
    levels = joined_levels t (suc d) nz (omega arith) depth at;
  }

  undone_leaving : Leaving t d depth (part_undone t (suc d))
  undone_leaving = record {
    number = λ a. (undone_marks t (suc d) a).number;
    inserter = λ a. (undone_marks t (suc d) a).inserter;
    held = λ a. (undone_marks t (suc d) a).held;
    deleter = λ a u nu e. deleted a u nu (rw (undone_marks t (suc d) a).deleter at e);
    writer = λ a u nu e. writer_undone t (suc d) a.update u nu (rw (undone_marks t (suc d) a).update at e);
    levels = undone_levels t (suc d) nz (omega arith) depth at;
  }
    where
      deleted : (a : Marked) (u : ℕ) → (u ≡ nobody → ⊥)
          → eqb (cond (inserted_at t (suc d) a) t (cond (deleted_at t (suc d) a) nobody a.deleter)) u ≡ true → marked_by u a ≡ true
      deleted a u nu h = by_test (inserted_at t (suc d) a)
          (λ e. rw (eqb-true a.inserter t (and_left _ _ e), rw e at h))
          (λ e. by_test (deleted_at t (suc d) a) (λ y. absurd (nu (sym (eqb-true nobody u (rw (e, y) at h)))))
          (λ y. rw (rw (e, y) at h) (or-true (eqb a.inserter u))))

-- the log of t without its last part, of which f is left
module _ (t d : ℕ) (f : Parts → Parts) (log : ℕ → LevelledLog) where
  abbrev left_log : ℕ → LevelledLog
  left_log = with_level t d (then (log t d) (f (log t (suc d)))) (with_level t (suc d) end log)

  left_other : (u : ℕ) → (u ≡ t → ⊥) → (l : ℕ) → left_log u l ≡ log u l
  left_other u ne l = level_other t d _ (with_level t (suc d) end log) u ne l ∙ level_other t (suc d) end log u ne l

  left_lower : (n : ℕ) → n ≤ d → first_levels n (left_log t) ≡ first_levels n (log t)
  left_lower n k = within_lower t d _ (with_level t (suc d) end log) n k ∙ within_lower t (suc d) end log n (omega arith)

  left_last : first_levels (suc d) (left_log t) ≡ then (first_levels (suc d) (log t)) (f (log t (suc d)))
  left_last = within_last t d _ (with_level t (suc d) end log)
      ∙ rw (within_lower t (suc d) end log d (omega arith)) (sym (then_assoc (first_levels d (log t)) (log t d) (f (log t (suc d)))))

module _ (c : Document) (log : ℕ → LevelledLog) (M : State) (g : Good c log M) (t : ℕ) (tr : is_transaction t ≡ true)
    (op : M.header.is_open t ≡ true) (d : ℕ) (at : M.header.depth t ≡ suc d) where
  abbrev tree : Tree
  tree = M.tree

  abbrev depth : ℕ → ℕ
  depth = M.header.depth

  abbrev left : ℕ → ℕ
  left = with_depth_of t (suc d - 1) M.header.depth

  nz : t ≡ nobody → ⊥
  nz e = false≢true (rw e at tr)

  not_closed : (u : ℕ) → M.header.is_open u ≡ false → u ≡ t → ⊥
  not_closed u e i = true≢false (sym op ∙ rw i at e)

  left_own : left t ≡ d
  left_own = rw (eq-eqb t t refl) (omega arith)

  -- all that t did before
  whole_before : whole log depth t ≡ then (first_levels (suc d) (log t)) (log t (suc d))
  whole_before = rw at

  module _ (f : Parts → Parts) (of_f : (p q : Parts) (y : Entry) → Of y (then p (f q)) → Of y (then p q))
      (f_of : (p q : Parts) (y : Entry) → Of y (then p q) → Of y (then p (f q))) (edit : Marked → Marked) (k : Leaving t d depth edit) where
    abbrev log' : ℕ → LevelledLog
    log' = left_log t d f log

    abbrev rest : Tree
    rest = mark (λ r. edit r.it) M.tree

    whole_after : whole log' left t ≡ then (first_levels (suc d) (log t)) (f (log t (suc d)))
    whole_after = rw left_own (left_last t d f log)

    whole_other : (u : ℕ) → (u ≡ t → ⊥) → whole log' left u ≡ whole log depth u
    whole_other u ne =
        let e : left u ≡ depth u = rw (ne_eqb u t ne) in
        ap (λ z. log_within all z (log' u)) e ∙ within_same all (depth u) (log u) (log' u) (left_other t d f log u ne)

    of_left : (u : ℕ) {y : Entry} → Of y (whole log' left u) → Of y (whole log depth u)
    of_left u {y} i = by_test (eqb u t)
        (λ e. let j = eqb-true u t e in
        let m : Of y (whole log' left t) = rw j at i in
        rw (j, whole_before) (of_f (first_levels (suc d) (log t)) (log t (suc d)) y (rw whole_after at m)))
        (λ e. rw (whole_other u (eqb-false u t e)) at i)

    left_of : (u : ℕ) {y : Entry} → Of y (whole log depth u) → Of y (whole log' left u)
    left_of u {y} i = by_test (eqb u t)
        (λ e. let j = eqb-true u t e in
        let m : Of y (whole log depth t) = rw j at i in
        rw (j, whole_after) (f_of (first_levels (suc d) (log t)) (log t (suc d)) y (rw whole_before at m)))
        (λ e. rw (whole_other u (eqb-false u t e)) i)

    more : (u : ℕ) → Within (holds log depth u) (holds log' left u)
    more u l i =
        let y = lock_entry (whole log depth u) l i in
        in_locks_of (whole log' left u) y.0 (left_of u y.1) l y.2

    left_covered : Covered (holds log' left) rest
    left_covered = mark_covered (holds log depth) (holds log' left) more tree g.covered t d (λ r. edit r.it)
        (λ r. k.number r.it) (λ r. k.inserter r.it)
        (λ r i u nu e. inl (k.deleter r.it u nu e)) (λ r i u nu e. inl (k.writer r.it u nu e))

    left_standing : (u : ℕ) (y : Entry) → Of y (whole log' left u) → Standing rest u y.step y.held
    left_standing u y i = standing_carried tree rest g.covered.distinct u y.step y.held (g.standing u y (of_left u i))
        (λ r j w. carried_by_mark (λ x. edit x.it) (λ x. k.number x.it) u (λ x a h. rw (k.held x.it) h)
        (λ x. k.inserter x.it) tree r j)

    left_brought : (r : Place) → Inside r rest → (r.it.inserter ≡ nobody → ⊥) → Brought log' left (number_of r) r.it.inserter
    left_brought r i ne =
        let a = in_mark (λ x. edit x.it) tree i in
        let e : r.it.inserter ≡ a.0.it.inserter = ap (λ (z : Place). z.it.inserter) a.2 ∙ k.inserter a.0.it in
        let y = g.brought a.0 a.1 (λ z. ne (e ∙ z)) in
        brought_as log' left (ap number_of a.2 ∙ k.number a.0.it) e (y.0, left_of a.0.it.inserter y.1, y.2)

    left_deeper : (u l : ℕ) → left u < l → log' u l ≡ end
    left_deeper u l e = by_test (eqb u t)
        (λ i. let j = eqb-true u t i in
        let h : d < l = rw (j, left_own) at e in
        rw j (level_apart t d _ (with_level t (suc d) end log) t l (λ z. omega (arith, z)) ∙ by_test (eqb l (suc d))
        (λ y. rw (eqb-true l (suc d) y) (level_own t (suc d) end log))
        (λ y. level_apart t (suc d) end log t l (eqb-false l (suc d) y) ∙ g.deeper t l (rw at (omega (arith, eqb-false l (suc d) y))))))
        (λ i. left_other t d f log u (eqb-false u t i) l ∙ g.deeper u l (rw i at e))

    -- the rest of what is claimed of the state, from what is touched and the documents
    left_good : ((r : Place) → Inside r rest → (u : ℕ) → (u ≡ nobody → ⊥) → (x : Extent) → Proper (left u) x
        → deleted_within x u r.it ≡ false → touched_within x u r.it ≡ touched_in (log_within x (left u) (log' u)) (number_of r))
        → ((X : ℕ → Extent) → ((u : ℕ) → Proper (left u) (X u)) → (b : List ℕ) → Distinct b
        → Serial c b (λ u. log_within (X u) (left u) (log' u)) (document_of (shown_of X b) rest))
        → Good c log' (with_tree (with_header (with_depth t (suc d - 1) M.header) M) rest)
    left_good touched serial = record {
      closed = λ u e l. left_other t d f log u (not_closed u e) l ∙ g.closed u e l;
      deeper = left_deeper;
      no_parts = λ u e. rw (ne_eqb u t (not_closed u e)) (g.no_parts u e);
      numbered = g.numbered;
      covered = left_covered;
      standing = left_standing;
      brought = left_brought;
      levels = λ r i. let a = in_mark (λ x. edit x.it) tree i in rw a.2 (k.levels a.0.it (g.levels a.0 a.1));
      touched = touched;
      serial = serial;
    }

  -- so much before, of what so much is shown after
  wider : (x : Extent) (u : ℕ) → Proper (left u) x → Proper (depth u) x
  wider x u k n e =
      let h = k n e in
      by_test (eqb u t)
      (λ i. let j = eqb-true u t i in
      let m : n ≤ d = rw (j, left_own) at h in
      rw (j, at) (omega arith))
      (λ i. rw i at h)

  nd : 0 < suc d
  nd = omega arith

  -- close ----------------------------------------------------------------------------------------

  joined_log : (x : Extent) (u : ℕ) → Proper (left u) x
      → log_within x (left u) (left_log t d (λ l. l) log u) ≡ log_within x (depth u) (log u)
  joined_log x u k = by_test (eqb u t)
      (λ e. let i = eqb-true u t e in
      rw i (own x (rw (i, left_own) at k)))
      (λ e. let i : left u ≡ depth u = rw e in
      rw i (within_same x (depth u) (log u) (left_log t d (λ l. l) log u) (left_other t d (λ l. l) log u (eqb-false u t e))))
    where
      own : (x : Extent) → Proper d x → log_within x (left t) (left_log t d (λ l. l) log t) ≡ log_within x (depth t) (log t)
      own (below n) k = left_lower t d (λ l. l) log n (k n refl)
      own all k = rw left_own (left_last t d (λ l. l) log ∙ sym whole_before)

  -- both the part and what surrounds it, or neither
  both : (x : Extent) → Proper (left t) x → shows x (suc d) ≡ shows x (suc d - 1)
  both (below n) k =
      let h : n ≤ d = rw left_own at (k n refl) in
      le-ltb (suc d) n (omega arith) ∙ sym (le-ltb (suc d - 1) n (omega arith))
  both all k = refl

  pub join_good : Good c (with_level t d (then (log t d) (log t (suc d))) (with_level t (suc d) end log)) (part_closed t M)
  unfolding join_tree
  join_good = rw at (left_good (λ l. l) (λ p q y i. i) (λ p q y i. i) (part_joined t (suc d)) (joined_leaving t d nz depth at)
      touched serial)
    where
      rest : Tree
      rest = mark (λ r. part_joined t (suc d) r.it) tree

      touched : (r : Place) → Inside r rest → (u : ℕ) → (u ≡ nobody → ⊥) → (x : Extent) → Proper (left u) x
          → deleted_within x u r.it ≡ false
          → touched_within x u r.it ≡ touched_in (log_within x (left u) (left_log t d (λ l. l) log u)) (number_of r)
      touched r i u nu x k e =
          let a = in_mark (λ z. part_joined t (suc d) z.it) tree i in
          let two : u ≡ t → shows x (suc d) ≡ shows x (suc d - 1) = λ j. both x (rw j at k) in
          rw (a.2, joined_log x u k) (joined_touched t (suc d) u x two a.0.it ∙ g.touched a.0 a.1 u nu x (wider x u k)
          (sym (joined_deleted t (suc d) u x two a.0.it) ∙ rw a.2 at e))

      serial : (X : ℕ → Extent) → ((u : ℕ) → Proper (left u) (X u)) → (b : List ℕ) → Distinct b
          → Serial c b (λ u. log_within (X u) (left u) (left_log t d (λ l. l) log u)) (document_of (shown_of X b) rest)
      serial X k b n = rw (join_shown t (suc d) nz nd depth at (shown_of X b) (ap (λ z. has t b && z) (both (X t) (k t))) tree g.levels)
          (serial_same c b (λ u. log_within (X u) (depth u) (log u)) _ _ (λ u. sym (joined_log (X u) u (k u)))
          (g.serial X (λ u. wider (X u) u (k u)) b n))

  -- undo -----------------------------------------------------------------------------------------

  abbrev undone_log : ℕ → LevelledLog
  undone_log = left_log t d (λ l. undone l end) log

  -- as much before the undo as x behind it
  abbrev back : Extent → Extent
  back (below n) = below n
  back all = below (suc d)

  back_levels : (x : Extent) → Proper d x → UndoneLevels (suc d) (shows x) (shows (back x))
  back_levels x k = record {
    same = record { lower = low x; first = λ l e. shows_first x l e; first_other = λ l e. shows_first (back x) l e };
    part = part x k;
  }
    where
      low : (x : Extent) (l : ℕ) → l < suc d → shows x l ≡ shows (back x) l
      low (below n) l h = refl
      low all l h = sym (lt-ltb l (suc d) h)

      part : (x : Extent) → Proper d x → shows (back x) (suc d) ≡ false
      part (below n) k = let h = k n refl in le-ltb (suc d) n (omega (arith, h))
      part all k = le-ltb (suc d) (suc d) (omega arith)

  back_proper : (x : Extent) → Proper d x → Proper (depth t) (back x)
  back_proper (below n) k m e = let h = k m e in rw at (omega (arith, h))
  back_proper all k m e = rw (at, ← below_one e) (omega arith)

  own_proper : (x : Extent) → Proper (left t) x → Proper d x
  own_proper x k = rw left_own at k

  -- what the log touched
  back_touched : (x : Extent) → Proper d x → (m : ℕ)
      → touched_in (log_within (back x) (depth t) (log t)) m ≡ touched_in (log_within x (left t) (undone_log t)) m
  back_touched (below n) k m = rw (left_lower t d (λ l. undone l end) log n (k n refl))
  back_touched all k m = rw (left_own, left_last t d (λ l. undone l end) log) (sym (touched_then (first_levels (suc d) (log t)) _ m
      ∙ or-false (touched_in (first_levels (suc d) (log t)) m)))

  -- what t inserted nobody else deleted
  alone : (r : Place) → Inside r tree → (u : ℕ) → (u ≡ nobody → ⊥) → (u ≡ t → ⊥) → r.it.inserter ≡ t → r.it.deleter ≡ u → ⊥
  alone r i u nu ne e e' =
      let lw : (v : ℕ) → (v ≡ nobody → ⊥) → marked_by v r.it ≡ true → Locked (number_of r) LW (holds log depth v) = λ v nv h.
      g.covered.guarded r i v nv h (number_of r, LW) (node_locked (D (number_of r)) (numbers_of r.above) LW (Memᴰ.head refl)) in
      true≢false (sym (LW_clashes LW) ∙ logs_compatible g u t ne (number_of r) LW LW
      (lw u nu (rw (← e') (deleter_marks r.it))) (lw t nz (rw (← e) (inserter_marks r.it))))

  undone_node : (r : Place) → Inside r tree → (u : ℕ) → (u ≡ nobody → ⊥) → (x : Extent) → Proper (left u) x
      → deleted_within x u (part_undone t (suc d) r.it) ≡ false
      → touched_within x u (part_undone t (suc d) r.it) ≡ touched_in (log_within x (left u) (undone_log u)) (number_of r)
  undone_node r i u nu x k e = by_test (eqb u t)
      (λ q. let j = eqb-true u t q in
      rw j (own (own_proper x (rw j at k)) (rw j at e)))
      (λ q. let ne = eqb-false u t q in
      let l : left u ≡ depth u = rw q in
      rw (l, within_same x (depth u) (log u) (undone_log u) (left_other t d (λ l. undone l end) log u ne))
      (other_touched t (suc d) nz nd depth at r.it (g.levels r i) u nu ne x ∙ g.touched r i u nu x (wider x u k)
      (sym (other_deleted t (suc d) nz nd depth at r.it (g.levels r i) u nu ne x (alone r i u nu ne)) ∙ e)))
    where
      own : Proper d x → deleted_within x t (part_undone t (suc d) r.it) ≡ false
          → touched_within x t (part_undone t (suc d) r.it) ≡ touched_in (log_within x (left t) (undone_log t)) (number_of r)
      own p e = undone_touched t (suc d) nz nd depth at r.it (g.levels r i) x (back x) (back_levels x p) e
          ∙ g.touched r i t nz (back x) (back_proper x p)
          (undone_deleted t (suc d) nz nd depth at r.it (g.levels r i) x (back x) (back_levels x p) e)
          ∙ back_touched x p (number_of r)

  undone_serial : (X : ℕ → Extent) → ((u : ℕ) → Proper (left u) (X u)) → (b : List ℕ) → Distinct b
      → Serial c b (λ u. log_within (X u) (left u) (undone_log u)) (document_of (shown_of X b) (undo_tree t (suc d) tree))
  undone_serial X k b n = rw (undo_shown t (suc d) nz nd depth at (shown_of X b) (shown_of Y b) (sets_other t X (back (X t)) b)
      (record { same = sets_same t (suc d) X (back (X t)) b own.same; part = rw (eq-eqb t t refl, own.part) (and-false (has t b)) })
      tree g.levels) (go (X t) refl)
    where
      Y : ℕ → Extent
      Y = for_one t X (back (X t))

      own : UndoneLevels (suc d) (shows (X t)) (shows (back (X t)))
      own = back_levels (X t) (own_proper (X t) (k t))

      other : (u : ℕ) → eqb u t ≡ false → log_within (X u) (left u) (undone_log u) ≡ log_within (X u) (depth u) (log u)
      other u e =
          let l : left u ≡ depth u = rw e in
          rw l (within_same (X u) (depth u) (log u) (undone_log u) (left_other t d (λ l. undone l end) log u (eqb-false u t e)))

      proper : (x : Extent) → Proper (depth t) x → (u : ℕ) → Proper (depth u) (for_one t X x u)
      proper x h u = by_test (eqb u t) (λ e. rw (e, eqb-true u t e) h) (λ e. rw e (wider (X u) u (k u)))

      before : Serial c b (λ u. log_within (Y u) (depth u) (log u)) (document_of (shown_of Y b) tree)
      before = g.serial Y (proper (back (X t)) (back_proper (X t) (own_proper (X t) (k t)))) b n

      p : Parts
      p = first_levels (suc d) (log t)

      q : Parts
      q = log t (suc d)

      L : ℕ → Parts
      L u = log_within (X u) (depth u) (log u)

      after : X t ≡ all → log_within (X t) (left t) (undone_log t) ≡ then p (undone q end)
      after e = rw (e, left_own) (left_last t d (λ l. undone l end) log)

      go : (x : Extent) → X t ≡ x → Serial c b (λ u. log_within (X u) (left u) (undone_log u)) (document_of (shown_of Y b) tree)
      go (below m) e = serial_same c b (λ u. log_within (Y u) (depth u) (log u)) (λ u. log_within (X u) (left u) (undone_log u)) _
          (λ u. by_test (eqb u t)
          (λ y. rw (y, eqb-true u t y, e) (sym (left_lower t d (λ l. undone l end) log m (own_proper (X t) (k t) m e))))
          (λ y. let z : Y u ≡ X u = rw y in ap (λ w. log_within w (depth u) (log u)) z ∙ sym (other u y))) before
      go all e = serial_same c b (replaced t (then p (undone q end)) L) (λ u. log_within (X u) (left u) (undone_log u)) _
          (λ u. by_test (eqb u t)
          (λ y. let z : replaced t (then p (undone q end)) L t ≡ then p (undone q end) = rw (eq-eqb t t refl) in
          rw (eqb-true u t y) (z ∙ sym (after e)))
          (λ y. let z : replaced t (then p (undone q end)) L u ≡ L u = rw y in z ∙ sym (other u y)))
          (undo c t b L p q _ (document_of (shown_of Z b) tree)
          (serial_same c b (λ u. log_within (Y u) (depth u) (log u)) (replaced t p L) _
          (λ u. by_test (eqb u t) (λ y. rw (y, eqb-true u t y, e)) (λ y. rw y)) before)
          (serial_same c b (λ u. log_within (Z u) (depth u) (log u)) (replaced t (then p q) L) _
          (λ u. by_test (eqb u t) (λ y. rw (y, eqb-true u t y) whole_before) (λ y. rw y))
          (g.serial Z (proper all (everything_proper depth t)) b n)))
        where
          Z : ℕ → Extent
          Z = for_one t X all

  pub undo_good : Good c (with_level t d (then (log t d) (undone (log t (suc d)) end)) (with_level t (suc d) end log)) (part_taken_back t M)
  unfolding undo_tree
  undo_good = rw at (left_good (λ l. undone l end) (λ p q y i. of_taken_back p q i) (λ p q y i. of_untaken p q i) (part_undone t (suc d))
      (undone_leaving t d nz depth at)
      (λ r i u nu x k e. let a = in_mark (λ z. part_undone t (suc d) z.it) tree i in
      rw (a.2, (undone_marks t (suc d) a.0.it).number) (undone_node a.0 a.1 u nu x k (rw a.2 at e)))
      undone_serial)
