-- The held document is the committed one exactly if nothing is pending.
use Rattle.std.specs.Prelude.{ℕ, ◌≡◌, Bool, true, false, not, ◌&&◌, ◌||◌, eqb}
use Rattle.std.proofs.Math.Path.{refl, sym, ap}
use Rattle.std.proofs.Common.{◌∙◌, true≢false, ⊎_elim, eqb-true, eq-eqb, ne_eqb}
use Rattle.std.proofs.lemmas.Bool.{false≢true, eqb-false, not-true, not-false}
use Rattle.std.proofs.Math.Bool.{or-true, or-false}
use mathlib.Core.List.Memᴰ
use mathlib.Core.List.{List, [], ◌∷◌, map, Memᴰ}
use Rattle.tree.specs.Lists.{any, every, has, keep, same}
use Rattle.tree.specs.Forest.{row}
use Rattle.tree.specs.Document.{Document, Line, lines, here, at}
use Rattle.tree.specs.Steps.{Step, inserts, with_content}
use Rattle.tree.specs.Plain.{Operation, does, opens, closes, undoes, steps_in, told}
use Rattle.tree.specs.Laws.Tests.{and_left, and_right, or_left, or_right, refuted}
use Rattle.tree.specs.Laws.Compare.{same_equal, same_self}
use Rattle.tree.specs.Laws.Lists.{any_at, at_any, has_in, in_has, in_keep}
use Rattle.tree.specs.Laws.Rows.{Each, each_above}
use Rattle.tree.specs.Laws.View.{view_agree}
use Rattle.locks.specs.Modes.{LW}
use Rattle.locks.proofs.Laws.Excludes.{LW_clashes}
use Rattle.serializability.proofs.Laws.Tests.{by_test}
use Rattle.serializability.proofs.Laws.Lines.{Of, of_lines, to_lines, line_here, at_only}
use Rattle.serializability.proofs.Laws.Parts.{Entry, Parts, LevelledLog}
use Rattle.serializability.proofs.Laws.Runs.{Run, run_append, run_one_end, then_end}
use Rattle.serializability.proofs.Laws.Levels.{whole_log, whole_in, in_whole}
use Rattle.serializability.proofs.Laws.Orders as orders
use Rattle.protocol.specs.State.{nobody, State, writer_of, Marked, Tree, transactions, Levels, all_of, nothing, done_by, shown, as_shown}
use Rattle.protocol.specs.State.{document_of, held_document}
use Rattle.protocol.specs.History.{inserted, pending_in}
use Rattle.protocol.proofs.Laws.Shown.{shown_committed}
use Rattle.serializability.proofs.Laws.WaitSet.{has_kept, kept_distinct}
use Rattle.serializability.proofs.Laws.Shown.{Place, Inside, path}
use Rattle.serializability.proofs.Laws.Numbers.{number_of}
use Rattle.serializability.proofs.Laws.Marks.{deleter_marks}
use Rattle.serializability.proofs.Laws.Good.{whole, Brought, Good}
use Rattle.serializability.proofs.Laws.GoodLaws.{brought_as, document_same, serial_all, logs_compatible}
use Rattle.serializability.proofs.Laws.Held.{visible, line_in, line_of_place, place_here, here_visible, marker_LW, marker_open}
use Rattle.serializability.proofs.Laws.Tracks.{by_levels, open_parts, whole_is}
use Rattle.serializability.proofs.Laws.Held.{content_agree, writer_open, inserter_done, held_shown}

-- the numbers that a log brought in -----------------------------------------------------------

-- the operations, as the plain run is fed them
abbrev pub steps : List (Operation Entry) → List (Operation Step)
steps l = map (told (λ x. x.step)) l

in_inserted : (l : List (Operation Entry)) (y : Entry) → Memᴰ y (steps_in l) → (m : ℕ) → has m (inserts y.step) ≡ true
    → Memᴰ m (inserted (steps l))
in_inserted [] y i m h = absurd (Memᴰ.not-nil i)
in_inserted (does x ∷ l) y (Memᴰ.head e) m h = Memᴰ.append_left {s = inserts x.step} (inserted (steps l))
    (has_in m (inserts x.step) (rw e at h))
in_inserted (does x ∷ l) y (Memᴰ.tail i) m h = Memᴰ.append_right (inserts x.step) (in_inserted l y i m h)
in_inserted (opens ∷ l) y i m h = in_inserted l y i m h
in_inserted (closes ∷ l) y i m h = in_inserted l y i m h
in_inserted (undoes ∷ l) y i m h = in_inserted l y i m h

pub inserted_in : (l : List (Operation Entry)) (m : ℕ) → Memᴰ m (inserted (steps l))
    → (y : Entry) × Memᴰ y (steps_in l) × (has m (inserts y.step) ≡ true)
inserted_in [] m i = absurd (Memᴰ.not-nil i)
inserted_in (does x ∷ l) m i = ⊎_elim (λ j. (x, Memᴰ.head refl, in_has m (inserts x.step) j))
    (λ j. let a = inserted_in l m j in (a.0, Memᴰ.tail a.1, a.2)) (Memᴰ.append_cases (inserts x.step) i)
inserted_in (opens ∷ l) m i = inserted_in l m i
inserted_in (closes ∷ l) m i = inserted_in l m i
inserted_in (undoes ∷ l) m i = inserted_in l m i

-- nothing passes, so each fails
none_at : {A : Type 0} (t : A → Bool) (l : List A) → any t l ≡ false → {a : A} → Memᴰ a l → t a ≡ false
none_at t l h {a} m = refuted (t a) (λ e. true≢false (sym (at_any t l m e) ∙ h))

-- nobody, and one transaction -------------------------------------------------------------------

abbrev pub only : ℕ → Levels
only t = all_of (λ u. has u (t ∷ []))

-- what t alone shows was inserted by nobody or t
only_inserter : (t : ℕ) (a : Marked) → shown (only t) a ≡ true → (a.inserter ≡ nobody → ⊥) → a.inserter ≡ t
only_inserter t a s ne = sym (eqb-true t _ (rw (ne_eqb a.inserter nobody ne, or-false (eqb t a.inserter)) at
    (and_left (done_by (only t) a.inserter a.insertion_level) _ s)))

-- flat u are the operations of u, and log u the same by levels
module _ (c : Document) (flat : ℕ → List (Operation Entry)) (M : State) (g : Good c (by_levels flat) M)
    (depths : (u : ℕ) → M.header.depth u ≡ open_parts flat u) where
  abbrev log : ℕ → LevelledLog
  log = by_levels flat

  abbrev all_did : ℕ → Parts
  all_did = whole (by_levels flat) M.header.depth

  did_is : (u : ℕ) → all_did u ≡ whole_log (flat u)
  did_is = whole_is flat M.header.depth depths

  abbrev f : Tree
  f = M.tree

  abbrev committed : Document
  committed = document_of nothing M.tree

  abbrev with_only : ℕ → Document
  with_only t = document_of (only t) M.tree

  abbrev open? : ℕ → Bool
  open? = M.header.is_open

  abbrev all : Levels
  all = all_of M.header.is_open

  c_committed : c ≡ committed
  c_committed = (serial_all g [] refl).run

  places : (r : Place) → Inside r f → Each (λ a. a) (λ a p. Inside (row a p) f) (path r)
  places r i = each_above (λ a. a) (λ a p. Inside (row a p) f) tt (λ s j. j) i

  -- a set whose document is the committed one -----------------------------------------------------

  -- it shows what nobody shows
  module _ (S : Levels) (keeps : (r : Place) → Inside r f → visible nothing r ≡ true
      → (visible S r ≡ true) × ((as_shown S r.it).content ≡ (as_shown nothing r.it).content)) where
    above_shown : (r : Place) → Inside r f → every (shown nothing) r.above ≡ true → every (shown S) r.above ≡ true
    above_shown r i v = go r.above (places r i).1 v
      where
        go : (p : List Marked) → Each (λ a. a) (λ a q. Inside (row a q) f) p → every (shown nothing) p ≡ true → every (shown S) p ≡ true
        go [] k e = refl
        go (a ∷ p) k e = (keeps (row a p) k.0 e).0

    -- and right below that nothing that somebody inserted
    same_shown : ((r : Place) → Inside r f → every (shown nothing) r.above ≡ true → visible S r ≡ true
        → (r.it.inserter ≡ nobody → ⊥) → ⊥)
        → document_of S f ≡ committed
    unfolding document_of
    same_shown no_other = view_agree (λ a. a) (shown nothing) (shown nothing) (λ a. refl) (shown S) (as_shown nothing) (as_shown S)
        [] f refl
        (λ r i v. rw (shown_committed r.it) (by_test (eqb r.it.inserter nobody)
        (λ e. and_left _ _ (keeps r i (rw (shown_committed r.it, e, v))).0 ∙ sym e)
        (λ e. refuted _ (λ s. no_other r i v (rw (s, above_shown r i v)) (eqb-false _ nobody e)) ∙ sym e)))
        (λ r i v. ap (with_content r.it.now) (keeps r i v).1)

  -- nothing is pending in t: its document is the committed one ------------------------------------

  module _ (t : ℕ) (quiet : pending_in committed (steps (flat t)) (with_only t) ≡ false) where
    no_insertion : (m : ℕ) → Brought log M.header.depth m t → here m (with_only t) ≡ false
    no_insertion m y =
        none_at (λ n. here n (with_only t)) (inserted (steps (flat t))) (or_left _ _ (or_left _ _ quiet))
        (in_inserted (flat t) y.0 (whole_in (flat t) (rw (did_is t) at y.1)) m y.2)

    no_deletion : (l : Line) → Of l committed → here l.it.number (with_only t) ≡ true
    no_deletion l o = not-false (here l.it.number (with_only t))
        (none_at (λ (r : Line). not (here r.it.number (with_only t))) (lines committed)
        (or_right (any (λ m. here m (with_only t)) (inserted (steps (flat t)))) _ (or_left _ _ quiet)) (to_lines committed o))

    no_update : (l : Line) → Of l committed → (at l.it.number (with_only t)).it.content ≡ l.it.content
    no_update l o =
        let n : (here l.it.number (with_only t) && not (same (at l.it.number (with_only t)).it.content
        l.it.content)) ≡ false =
        none_at (λ (r : Line). here r.it.number (with_only t) && not
        (same (at r.it.number (with_only t)).it.content r.it.content))
        (lines committed) (or_right (any (λ m. here m (with_only t)) (inserted (steps (flat t)))
        || any (λ r. not (here r.it.number (with_only t))) (lines committed)) _ quiet) (to_lines committed o) in
        same_equal _ _ (not-false _ (rw (no_deletion l o) at n))

    pub quiet_document : with_only t ≡ committed
    quiet_document = same_shown (only t)
        (λ r i v. let l = line_of_place nothing f i v in
        let h = here_visible (only t) f g.covered.distinct i (no_deletion (line_in nothing r) l) in
        (h.0, sym (ap (λ (x : Line). x.it.content) h.1) ∙ no_update (line_in nothing r) l))
        (λ r i a v ne. true≢false (sym (place_here (only t) f i v)
        ∙ no_insertion (number_of r) (brought_as log M.header.depth refl (sym (only_inserter t r.it (and_left _ _ v) ne))
        (g.brought r i ne))))

  -- nothing is pending in any transaction: the held document is the committed one ------------------

  -- the log of t leads from the committed document to what t shows
  pub log_run : (t : ℕ) → Run committed (whole_log (flat t)) (with_only t)
  log_run t = rw (← c_committed, ← did_is t) (rw (then_end (all_did t)) at (serial_all g (t ∷ []) refl).run)

  -- logs that lead nowhere, one behind the other
  idle_logs : (b : List ℕ) → ((t : ℕ) → has t b ≡ true → Run committed (all_did t) committed)
      → Run committed (orders.logs all_did b) committed
  idle_logs [] h = refl
  idle_logs (t ∷ b) h = run_append committed (all_did t) (orders.logs all_did b) committed committed (h t (rw (eq-eqb t t refl)))
      (idle_logs b (λ u i. h u (rw (i, or-true (eqb t u)))))

  abbrev open_ones : List ℕ
  open_ones = keep open? transactions

  pub quiet_held : ((t : ℕ) → Memᴰ t transactions → pending_in committed (steps (flat t)) (with_only t) ≡ false)
      → held_document M ≡ committed
  quiet_held q =
      let r : Run committed (orders.logs all_did open_ones) (document_of (all_of (λ u. has u open_ones)) f) = rw c_committed at
      (serial_all g open_ones (kept_distinct open?)).run in
      held_shown c log M g ∙ document_same all (all_of (λ u. has u open_ones)) f (λ u l. sym (has_kept open? u (g.numbered u)))
      ∙ run_one_end committed (orders.logs all_did open_ones) _ committed r (idle_logs open_ones idle)
    where
      idle : (t : ℕ) → has t open_ones ≡ true → Run committed (all_did t) committed
      idle t h = rw (did_is t) (rw (quiet_document t (q t (in_keep open? transactions (has_in t open_ones h)).0)) at (log_run t))

  -- the held document is the committed one: nothing is pending ---------------------------------------

  -- what a log brings in is not in the committed document
  committed_quiet : (t : ℕ) → pending_in committed (steps (flat t)) committed ≡ false
  committed_quiet t = rw (
    refuted _ (λ e.
        let a = any_at (λ m. here m committed) (inserted (steps (flat t))) e in
        let y = inserted_in (flat t) a.0 a.1 in
        true≢false (sym a.2 ∙ ap (here a.0) (sym c_committed)
        ∙ (serial_all g (t ∷ []) refl).none_there t (rw (eq-eqb t t refl)) y.0
        (rw (did_is t) (in_whole (flat t) y.1)) a.0 y.2)),
    refuted _ (λ e.
        let a = any_at (λ (r : Line). not (here r.it.number committed)) (lines committed) e in
        true≢false (sym (line_here a.0.it.number committed a.0 (of_lines committed a.0 a.1) refl) ∙ not-true _ a.2)),
  )
      (refuted _ (λ e.
      let a = any_at (λ (r : Line). here r.it.number committed && not
      (same (at r.it.number committed).it.content r.it.content)) (lines committed) e in
      let h = and_left (here a.0.it.number committed) _ a.2 in
      let l : a.0 ≡ at a.0.it.number committed =
      at_only committed (rw c_committed at (serial_all g [] refl).unique) a.0.it.number h a.0
      (of_lines committed a.0 a.1) refl in
      true≢false (sym (same_self a.0.it.content) ∙ ap (λ (x : Line). same x.it.content a.0.it.content) l
      ∙ not-true _ (and_right (here a.0.it.number committed) _ a.2))))

  module _ (equal : held_document M ≡ committed) where
    shown_equal : document_of all f ≡ committed
    shown_equal = sym (held_shown c log M g) ∙ equal

    -- a place that nobody shows all show
    both_visible : (r : Place) → Inside r f → visible nothing r ≡ true
        → (visible all r ≡ true) × ((as_shown all r.it).content ≡ (as_shown nothing r.it).content)
    both_visible r i v =
        let a = here_visible all f g.covered.distinct i (rw shown_equal (place_here nothing f i v)) in
        let b = here_visible nothing f g.covered.distinct i (place_here nothing f i v) in
        (a.0, ap (λ (x : Line). x.it.content) (sym a.1 ∙ ap (at (number_of r)) shown_equal ∙ b.1))

    module _ (t : ℕ) (nt : t ≡ nobody → ⊥) where
      -- what nobody and all show, t shows, and with the same content
      only_shown : (r : Place) → Inside r f → shown nothing r.it ≡ true → shown all r.it ≡ true → shown (only t) r.it ≡ true
      only_shown r i a b = let u = r.it.deleter in rw (sym (shown_committed r.it) ∙ a)
          (by_test (eqb u nobody) (λ p. rw p) (λ p. by_test (eqb t u)
          (λ q. let o = marker_open c log M g r i u (eqb-false u nobody p) (deleter_marks r.it) in
          absurd (false≢true (rw (p, o) at (and_right (done_by all r.it.inserter r.it.insertion_level) _ b)))) (λ q. rw (p, q))))

      only_visible : (l : List Marked) → Each (λ a. a) (λ a p. Inside (row a p) f) l → every (shown nothing) l ≡ true
          → every (shown all) l ≡ true → every (shown (only t)) l ≡ true
      only_visible [] k a b = refl
      only_visible (x ∷ p) k a b = rw (
        only_shown (row x p) k.0 (and_left _ _ a) (and_left _ _ b),
        only_visible p k.1 (and_right (shown nothing x) _ a) (and_right (shown all x) _ b),
      )

      only_content : (r : Place) → Inside r f → (as_shown all r.it).content ≡ (as_shown nothing r.it).content
          → (as_shown (only t) r.it).content ≡ (as_shown nothing r.it).content
      only_content r i e = let u = writer_of r.it.update in by_test (eqb t u)
          (λ q. content_agree M.header.depth r.it.update (g.levels r i).writes (λ v. has v (t ∷ [])) open?
          (λ nu. rw q (sym (writer_open c log M g r i u nu (eq-eqb u u refl)))) r.it.now.content ∙ e)
          (λ q. content_agree M.header.depth r.it.update (g.levels r i).writes (λ v. has v (t ∷ [])) (λ v. false)
          (λ nu. rw q) r.it.now.content)

      -- what t inserted nobody else deleted
      all_shown : (r : Place) → Inside r f → r.it.inserter ≡ t → shown (only t) r.it ≡ true → shown all r.it ≡ true
      all_shown r i own s = let u = r.it.deleter in rw (inserter_done c log M g r i)
          (by_test (eqb u nobody) (λ p. rw p) (λ p. by_test (eqb t u)
          (λ q. absurd (false≢true (rw (p, q) at (and_right (done_by (only t) r.it.inserter r.it.insertion_level) _ s))))
          (λ q. absurd (true≢false (sym (LW_clashes LW) ∙ logs_compatible g t u (eqb-false t u q) (number_of r) LW LW
          (marker_LW c log M g r i t nt (rw (eq-eqb r.it.inserter t own)))
          (marker_LW c log M g r i u (eqb-false u nobody p) (deleter_marks r.it)))))))

      pub held_quiet : pending_in committed (steps (flat t)) (with_only t) ≡ false
      held_quiet = rw (same_shown (only t)
          (λ r i v. let b = both_visible r i v in (only_visible (path r) (places r i) v b.0, only_content r i b.1))
          (λ r i a v ne.
          let own = only_inserter t r.it (and_left _ _ v) ne in
          let w : visible all r ≡ true = rw (all_shown r i own (and_left _ _ v), above_shown all both_visible r i a) in
          let z = here_visible nothing f g.covered.distinct i (rw shown_equal at (place_here all f i w)) in
          ne (eqb-true _ nobody (sym (shown_committed r.it) ∙ and_left _ _ z.0)))) (committed_quiet t)
