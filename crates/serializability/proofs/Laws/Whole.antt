-- A granted step keeps the state in step with the logs.
use Rattle.std.specs.Prelude.{ℕ, ◌<◌, ◌≤◌, ◌≡◌, refl, true, false, ◌&&◌, ◌||◌, ◌⊎◌, eqb}
use Rattle.std.proofs.Common.{sym, ◌∙◌, inl, inr, ⊎_elim, arith, eqb-true, eq-eqb, ne_eqb, leb-true, le-ltb}
use Rattle.std.proofs.Math.Path.{ap}
use Rattle.std.proofs.lemmas.Bool.{false≢true, eqb-false, not-false}
use Rattle.std.proofs.Math.Bool.{true≢false, or-true, or-false, and-false}
use mathlib.Core.List.{List, [], ◌∷◌}
use Rattle.tree.specs.Lists.{any, every, has}
use Rattle.tree.specs.Document.{Document, here, at}
use Rattle.tree.specs.Steps.{Step, target, inserts, fits, answer, after}
use Rattle.tree.specs.Plain.{touches}
use Rattle.tree.specs.Laws.Tests.{refuted}
use Rattle.tree.specs.Laws.Lists.{at_any, any_at, has_in, in_has}
use Rattle.locks.specs.Needs.{needs}
use Rattle.locks.proofs.Laws.Compatible.{Compatible}
use Rattle.serializability.proofs.Laws.Tests.{by_test}
use Rattle.serializability.proofs.Laws.Views.{views_same}
use Rattle.serializability.proofs.Laws.Classes.{Absent}
use Rattle.serializability.proofs.Laws.Parts as parts
use Rattle.serializability.proofs.Laws.Parts.{Entry, Parts, end, did, then, Of, LevelledLog, first_levels, Extent, below, all, shows}
use Rattle.serializability.proofs.Laws.Parts.{log_within, Proper, with_level}
use Rattle.serializability.proofs.Laws.Runs.{Valid, touched_in, touched_then, then_assoc, then_end, of_then_left, of_then_right}
use Rattle.serializability.proofs.Laws.Runs.{run_there, Clear}
use Rattle.serializability.proofs.Laws.Orders.{Distinct, permutation_back, to_front}
use Rattle.serializability.proofs.Laws.Serial.{Serial, reorder, serial_same, noted, in_noted, Grantable, grant, grant_other}
use Rattle.protocol.specs.State.{nobody, State, Marked, Tree, Levels, is_transaction, number_held, seen_by, shown, as_shown, nothing}
use Rattle.protocol.specs.State.{callers_document, document_of, act, with_tree}
use Rattle.serializability.proofs.Laws.Outcomes.{Passed}
use Rattle.serializability.proofs.Laws.OpenLevels.{LevelsOpen, touched_within, deleted_within}
use Rattle.serializability.proofs.Laws.Shown.{Place, Inside, path, numbers_of, OwnUpdate, grant_shown}
use Rattle.serializability.proofs.Laws.Numbers.{number_of, place_held}
use Rattle.serializability.proofs.Laws.Marks.{Within, target_place}
use Rattle.serializability.proofs.Laws.Seen.{seen, own_update, unheld_absent, act_shown, act_hidden}
use Rattle.serializability.proofs.Laws.Touched.{writes, deletes, own_written, deletes_undeleted, written_other, written_lower}
use Rattle.serializability.proofs.Laws.Touched.{written_own}
use Rattle.serializability.proofs.Laws.Touched.{inserted_touched, touches_written}
use Rattle.serializability.proofs.Laws.Keeping.{act_covered, grant_covered}
use Rattle.serializability.proofs.Laws.Standing.{Standing, standing_carried, no_wait_compatible}
use Rattle.serializability.proofs.Laws.Granting.{after_step, step_carries, step_standing, OldPlace, NewPlace, act_places, step_place}
use Rattle.serializability.proofs.Laws.LevelsKept.{granted_levels, edited_levels, new_levels}
use Rattle.serializability.proofs.Laws.Good.{whole, holds, Brought, shown_of, Good}
use Rattle.serializability.proofs.Laws.GoodLaws.{in_locks_of, lock_entry, brought_as, everything, everything_proper, log_open}
use Rattle.serializability.proofs.Laws.GoodLaws.{serial_all}
use Rattle.serializability.proofs.Laws.WithLevel.{of_within, touched_whole, within_other, within_lower, within_last, level_other}
use Rattle.serializability.proofs.Laws.WithLevel.{level_apart}

abbrev pub entry : ℕ → State → Step → Entry
entry t M s =
    let d = callers_document t M.tree in
    record { step = s; value = answer s d; held = needs s d; touched = touches s d }

abbrev pub stepped : ℕ → Step → State → State
stepped t s M = with_tree M (after_step t (M.header.depth t) s (needs s (callers_document t M.tree)) M.tree)

-- the entry is noted at the depth of t
abbrev pub noted_level : ℕ → State → Step → (ℕ → LevelledLog) → ℕ → LevelledLog
noted_level t M s log =
    let d = M.header.depth t in
    with_level t d (then (log t d) (did (entry t M s) end)) log

module _ (c : Document) (log : ℕ → LevelledLog) (M : State) (g : Good c log M) (t : ℕ) (s : Step) (tr : is_transaction t ≡ true)
    (op : M.header.is_open t ≡ true) (ok : Passed t s M (callers_document t M.tree)) where
  abbrev f : Tree
  f = M.tree

  abbrev depth : ℕ → ℕ
  depth = M.header.depth

  abbrev lev : ℕ
  lev = M.header.depth t

  abbrev d : Document
  d = callers_document t M.tree

  abbrev x : Entry
  x = entry t M s

  abbrev log' : ℕ → LevelledLog
  log' = noted_level t M s log

  nz : t ≡ nobody → ⊥
  nz e = false≢true (rw e at tr)

  unheld : (m : ℕ) → has m (inserts s) ≡ true → number_held m f ≡ false
  unheld m h = refuted _ (λ e. true≢false (sym (at_any (λ n. number_held n f) (inserts s) (has_in m (inserts s) h) e) ∙ ok.unheld))

  nothing_there : any (λ m. here m d) (inserts s) ≡ false
  unfolding callers_document
  nothing_there = refuted _ (λ e.
      let a = any_at (λ m. here m d) (inserts s) e in
      true≢false (sym a.2 ∙ unheld_absent (seen_by t) (λ y. y.now.content) f a.0
      (unheld a.0 (in_has a.0 (inserts s) a.1))))

  fit : fits s d ≡ true
  fit = rw (ok.there, ok.kind, ok.content, nothing_there, ok.place)

  hs : here (target s) d ≡ true
  hs = not-false _ ok.there

  compat : (u : ℕ) → (u ≡ t → ⊥) → Compatible (needs s d) (holds log depth u)
  compat u ne = by_test (M.header.is_open u)
      (λ e. no_wait_compatible t (needs s d) (holds log depth u) M u ok.clear ne e (g.numbered u e)
      (λ l i. let y = lock_entry (whole log depth u) l i in (g.standing u y.0 y.1).held l y.2))
      (λ e q a b i j. let y = lock_entry (whole log depth u) (q, b) j in absurd (true≢false (sym (log_open g u y.1) ∙ e)))

  absent : Absent s c
  unfolding document_of
  absent m h =
      let e = (serial_all g [] refl).run in
      ap (here m) e ∙ unheld_absent (shown nothing) (λ y. (as_shown nothing y).content) f m (unheld m h)

  -- documents ------------------------------------------------------------------------------------

  module _ (X : ℕ → Extent) (proper : (u : ℕ) → Proper (depth u) (X u)) where
    abbrev part_log : ℕ → Parts
    part_log u = log_within (X u) (depth u) (log u)

    grantable : Grantable t part_log x
    grantable = record { clear = λ v ne y i. clear v ne y i; new = λ y i m h. refuted _ (λ e. twice y i m h e) }
      where
        clear : (v : ℕ) → (v ≡ t → ⊥) → (y : Entry) → Of y (part_log v) → Clear x y
        clear v ne y i q a b j k = compat v ne q a b j
            (in_locks_of (whole log depth v) y (of_within (X v) (depth v) (log v) (proper v) i) (q, b) k)

        twice : (y : Entry) → Of y (part_log t) → (m : ℕ) → has m (inserts s) ≡ true → has m (inserts y.step) ≡ true → ⊥
        twice y i m h e =
            let r = (g.standing t y (of_within (X t) (depth t) (log t) (proper t) i)).new m e in
            true≢false (sym (place_held m f r.1 r.2) ∙ unheld m h)

    -- a set that shows no more of t than the levels below the step's
    same_log : (n : ℕ) → X t ≡ below n → (u : ℕ) → part_log u ≡ log_within (X u) (depth u) (log' u)
    same_log n e u = by_test (eqb u t)
        (λ i. let j = eqb-true u t i in
        rw (j, e) (sym (within_lower t lev _ log n (proper t n e))))
        (λ i. sym (within_other t lev _ log (X u) (depth u) u (eqb-false u t i)))

    -- one that shows all
    noted_log : X t ≡ all → (u : ℕ) → noted t x part_log u ≡ log_within (X u) (depth u) (log' u)
    noted_log e u = by_test (eqb u t)
        (λ i. let j = eqb-true u t i in
        rw (i, j, e) (then_assoc (first_levels lev (log t)) (log t lev) (did x end) ∙ sym (within_last t lev _ log)))
        (λ i. rw i (sym (within_other t lev _ log (X u) (depth u) u (eqb-false u t i))))

    step_serial : (b : List ℕ) → Distinct b → Serial c b (λ u. log_within (X u) (depth u) (log' u))
        (document_of (shown_of X b) (after_step t lev s (needs s d) f))
    step_serial b n = rw (grant_shown S t (needs s d) (act t lev s f)) (go (X t) refl)
      where
        S : Levels
        S = shown_of X b

        before : Serial c b part_log (document_of S f)
        before = g.serial X proper b n

        with_t : X t ≡ all → has t b ≡ true → Serial c b (noted t x part_log) (document_of S (act t lev s f))
        with_t q e =
            let st : (l : ℕ) → S t l ≡ true = λ l. rw (e, q) in
            let p = to_front t b e in
            let v : Valid x (document_of S f) =
            let w = views_same s d (document_of S f)
            (seen (holds log depth) f g.covered t nz depth g.levels S st s hs compat unheld) in
            record { fit = w.fit ∙ fit; says = w.says; need = w.need; touch = w.touched } in
            rw (act_shown (holds log depth) f g.covered t nz depth g.levels lev S st s hs compat)
            (reorder c (t ∷ p.0) b (noted t x part_log) (after s (document_of S f)) (permutation_back p.1)
            (grant c t p.0 part_log (document_of S f) x
            (reorder c b (t ∷ p.0) part_log (document_of S f) p.1 before) v grantable absent))

        go : (y : Extent) → X t ≡ y → Serial c b (λ u. log_within (X u) (depth u) (log' u)) (document_of S (act t lev s f))
        go (below k) e = rw (act_hidden (holds log depth) f g.covered t nz depth g.levels lev S
            (λ l h. rw (e, le-ltb l k (omega (arith, proper t k e, leb-true lev l h))) (and-false (has t b))) s hs compat)
            (serial_same c b part_log _ (document_of S f) (same_log k e) before)
        go all e = serial_same c b (noted t x part_log) _ (document_of S (act t lev s f)) (noted_log e) (by_test (has t b) (with_t e)
            (λ q. rw (act_hidden (holds log depth) f g.covered t nz depth g.levels lev S (λ l h. rw q) s hs compat)
            (grant_other c t b part_log (document_of S f) x q before grantable absent)))

  -- the tree -------------------------------------------------------------------------------------

  whole_noted : (u : ℕ) → noted t x (whole log depth) u ≡ whole log' depth u
  whole_noted = noted_log everything (everything_proper depth) refl

  kept_noted : (u : ℕ) {y : Entry} → Of y (whole log depth u) → Of y (whole log' depth u)
  kept_noted u j = rw (← whole_noted u) (by_test (eqb u t)
      (λ e. rw e (of_then_left (whole log depth t) (did x end) (rw (eqb-true u t e) at j))) (λ e. rw e j))

  more : (u : ℕ) → Within (holds log depth u) (holds log' depth u)
  more u l i =
      let y = lock_entry (whole log depth u) l i in
      in_locks_of (whole log' depth u) y.0 (kept_noted u y.1) l y.2

  last_noted : Of x (whole log' depth t)
  last_noted = rw (← whole_noted t, eq-eqb t t refl) (of_then_right (whole log depth t) (did x end) (parts.here refl))

  at_target : (r : Place) × Inside r f × (number_of r ≡ target s) × (numbers_of r.above ≡ (at (target s) d).above) ×
      (every (seen_by t) (path r) ≡ true)
  at_target = target_place (holds log depth) f g.covered t s hs compat

  step_stands : (u : ℕ) (y : Entry) → Of y (whole log' depth u) → Standing (after_step t lev s (needs s d) f) u y.step y.held
  step_stands u y i = ⊎_elim
      (λ j. standing_carried f _ g.covered.distinct u y.step y.held (g.standing u y j)
      (λ r k h. step_carries t lev s (needs s d) u f r k))
      (λ j. rw (j.0, j.1) (step_standing t lev s (at (target s) d).above f at_target.0 at_target.1 at_target.2 at_target.3))
      (in_noted t x (whole log depth) u (rw (whole_noted u) i))

  step_brought : (r : Place) → Inside r (after_step t lev s (needs s d) f) → (r.it.inserter ≡ nobody → ⊥)
      → Brought log' depth (number_of r) r.it.inserter
  step_brought r i ne =
      let a = step_place t lev s (needs s d) f r i in
      rw a.2 (go a.0.it (λ e. ne (rw a.2 e)) (act_places t lev s f a.0 a.1))
    where
      go : (a : Marked) → (a.inserter ≡ nobody → ⊥) → OldPlace t lev s f a ⊎ NewPlace t lev s a
          → Brought log' depth a.now.number a.inserter
      go a nz (inl w) =
          let y = g.brought w.place w.inside (λ e. nz (w.inserter ∙ e)) in
          brought_as log' depth w.number w.inserter (y.0, kept_noted w.place.it.inserter y.1, y.2)
      go a nz (inr w) = brought_as log' depth refl w.inserter (x, last_noted, w.number)

  step_levels : (r : Place) → Inside r (after_step t lev s (needs s d) f) → LevelsOpen depth r.it
  step_levels r i =
      let a = step_place t lev s (needs s d) f r i in
      rw a.2 (granted_levels depth t (needs s d) a.0.it (go a.0.it (act_places t lev s f a.0 a.1)))
    where
      go : (a : Marked) → OldPlace t lev s f a ⊎ NewPlace t lev s a → LevelsOpen depth a
      go a (inl w) = edited_levels t lev nz depth refl (writes t s w.place) (deletes s w.place) w.place.it a w.edits
          w.inserter w.insertion_level (own_written (holds log depth) f g.covered t nz s hs compat w.place w.inside)
          (deletes_undeleted (holds log depth) f g.covered t nz s hs compat w.place w.inside) (g.levels w.place w.inside)
      go a (inr w) = new_levels t lev nz depth refl a w.inserter w.insertion_level w.update w.deleter

  -- what is touched ------------------------------------------------------------------------------

  -- the number of a node that the step inserts no log touched: it is in no document, and no log brought it in
  not_yet : (y : Extent) (u : ℕ) → Proper (depth u) y → (m : ℕ) → has m (inserts s) ≡ true
      → touched_in (log_within y (depth u) (log u)) m ≡ false
  not_yet y u k m h = refuted _ (λ e. ⊎_elim (λ i. true≢false (sym i ∙ absent m h))
      (λ z. let r = (g.standing u z.0 z.1).new m z.2 in true≢false (sym (place_held m f r.1 r.2) ∙ unheld m h))
      (run_there c (whole log depth u) _ (rw (then_end (whole log depth u)) at (serial_all g (u ∷ []) refl).run) m
      (touched_whole y (depth u) (log u) k m e)))

  -- what was deleted nobody had deleted before, or was deleted before
  still : (y : Extent) (u : ℕ) → (u ≡ nobody → ⊥) → (a : Marked) → (w : OldPlace t lev s f a) → deleted_within y u a ≡ false
      → deleted_within y u w.place.it ≡ false
  still y u nu a w e = by_test (deletes s w.place)
      (λ q. rw (
        deletes_undeleted (holds log depth) f g.covered t nz s hs compat w.place w.inside q,
        ne_eqb nobody u (λ z. nu (sym z)),
      ))
      (λ q. rw (w.edits.deleter, w.edits.deletion_level, q) at e)

  -- a node that was there
  module _ (a : Marked) (w : OldPlace t lev s f a) where
    was : (y : Extent) (u : ℕ) → (u ≡ nobody → ⊥) → Proper (depth u) y → deleted_within y u a ≡ false
        → touched_within y u w.place.it ≡ touched_in (log_within y (depth u) (log u)) a.now.number
    was y u nu k e = rw w.number (g.touched w.place w.inside u nu y k (still y u nu a w e))

    mine : writes t s w.place ≡ true → OwnUpdate t w.place.it.update
    mine q = own_update depth t w.place.it.update (g.levels w.place w.inside).writes
        (own_written (holds log depth) f g.covered t nz s hs compat w.place w.inside q)

    old_other : (y : Extent) (u : ℕ) → (u ≡ nobody → ⊥) → (u ≡ t → ⊥) → touched_within y u a ≡ touched_within y u w.place.it
    old_other y u nu ne = written_other t lev nz (writes t s w.place) w.place.it.now.content w.place.it a w.inserter
        w.insertion_level w.edits.update mine y u nu ne

    old_lower : (n : ℕ) → n ≤ lev → touched_within (below n) t a ≡ touched_within (below n) t w.place.it
    old_lower n k = written_lower t lev nz (writes t s w.place) w.place.it.now.content w.place.it a w.inserter
        w.insertion_level w.edits.update mine n k

    old_own : touched_within all t a ≡ (touched_within all t w.place.it || has a.now.number (touches s d))
    old_own = written_own t lev nz (writes t s w.place) w.place.it.now.content w.place.it a w.inserter
        w.insertion_level w.edits.update mine
        ∙ rw (w.number, touches_written t f g.covered.distinct w.place w.inside s unheld)

  -- the step's node
  module _ (a : Marked) (w : NewPlace t lev s a) where
    new_within : (y : Extent) (u : ℕ) → (u ≡ nobody → ⊥) → touched_within y u a ≡ (eqb t u && shows y lev)
    new_within y u nu = rw (w.inserter, w.insertion_level, w.update, ne_eqb nobody u (λ z. nu (sym z)))
        (or-false (eqb t u && shows y lev))

  -- what the log of t touched after the step
  touched_noted : (m : ℕ) → touched_in (whole log' depth t) m ≡ (touched_in (whole log depth t) m || has m (touches s d))
  touched_noted m = rw (← whole_noted t, eq-eqb t t refl, touched_then (whole log depth t) (did x end) m, or-false (has m (touches s d)))

  node_touched : (a : Marked) → OldPlace t lev s f a ⊎ NewPlace t lev s a → (u : ℕ) → (u ≡ nobody → ⊥) → (y : Extent) → Proper (depth u) y
      → deleted_within y u a ≡ false → touched_within y u a ≡ touched_in (log_within y (depth u) (log' u)) a.now.number
  node_touched a w u nu y k e = by_test (eqb u t) (λ q. let i = eqb-true u t q in rw i (own w y (rw i at k) (rw i at e)))
      (λ q. rw (within_other t lev (then (log t lev) (did x end)) log y (depth u) u (eqb-false u t q)) (other w (eqb-false u t q)))
    where
      other : OldPlace t lev s f a ⊎ NewPlace t lev s a → (u ≡ t → ⊥)
          → touched_within y u a ≡ touched_in (log_within y (depth u) (log u)) a.now.number
      other (inl w) ne = old_other a w y u nu ne ∙ was a w y u nu k e
      other (inr w) ne = new_within a w y u nu ∙ rw (ne_eqb t u (λ z. ne (sym z))) (sym (not_yet y u k a.now.number w.number))

      own : OldPlace t lev s f a ⊎ NewPlace t lev s a → (y : Extent) → Proper lev y → deleted_within y t a ≡ false
          → touched_within y t a ≡ touched_in (log_within y lev (log' t)) a.now.number
      own (inl w) (below n) k e = rw (within_lower t lev (then (log t lev) (did x end)) log n (k n refl))
          (old_lower a w n (k n refl) ∙ was a w (below n) t nz k e)
      own (inl w) all k e = rw (touched_noted a.now.number, ← was a w all t nz k e) (old_own a w)
      own (inr w) (below n) k e = rw (within_lower t lev (then (log t lev) (did x end)) log n (k n refl))
          (new_within a w (below n) t nz ∙ rw (le-ltb lev n (k n refl), not_yet (below n) t k a.now.number w.number)
          (and-false (eqb t t)))
      own (inr w) all k e = rw (touched_noted a.now.number, inserted_touched s d a.now.number w.number)
          (new_within a w all t nz ∙ rw (eq-eqb t t refl) (sym (or-true (touched_in (whole log depth t) a.now.number))))

  step_touched : (r : Place) → Inside r (after_step t lev s (needs s d) f) → (u : ℕ) → (u ≡ nobody → ⊥) → (y : Extent) → Proper (depth u) y
      → deleted_within y u r.it ≡ false → touched_within y u r.it ≡ touched_in (log_within y (depth u) (log' u)) (number_of r)
  step_touched r i u nu y k e =
      let a = step_place t lev s (needs s d) f r i in
      rw a.2 (node_touched a.0.it (act_places t lev s f a.0 a.1) u nu y k (rw a.2 at e))

  -- a granted step keeps all this
  pub step_good : Good c log' (stepped t s M)
  step_good = record {
    closed = λ u e l. level_other t lev _ log u (λ q. true≢false (sym op ∙ rw q at e)) l ∙ g.closed u e l;
    deeper = deep;
    no_parts = g.no_parts;
    numbered = g.numbered;
    covered = grant_covered (holds log' depth) t (needs s d) (act t lev s f)
        (act_covered (holds log depth) (holds log' depth) more f g.covered t lev nz s hs compat unheld
        (λ l i. in_locks_of (whole log' depth t) x last_noted l i));
    standing = step_stands;
    brought = step_brought;
    levels = step_levels;
    touched = step_touched;
    serial = λ X k b n. step_serial X k b n;
  }
    where
      deep : (u l : ℕ) → depth u < l → log' u l ≡ end
      deep u l h = by_test (eqb u t)
          (λ e. level_apart t lev _ log u l (λ q. omega (arith, q, ap depth (eqb-true u t e))) ∙ g.deeper u l h)
          (λ e. level_other t lev _ log u (eqb-false u t e) l ∙ g.deeper u l h)
