-- A.8: how many parts are open, what the calls on parts answer, and what a transaction sees of what it inserted, by the plain run.
use Rattle.std.specs.Prelude.{ℕ, ◌≡◌, refl, true, not, eqb, leb}
use Rattle.std.proofs.Common.{sym, ◌∙◌, true≢false, eqb-true, eq-eqb, ne_eqb}
use Rattle.std.proofs.Math.Path.{ap}
use Rattle.std.proofs.Math.Bool.{cond, or-true, or-false, and-false}
use Rattle.std.proofs.lemmas.Bool.{false≢true, eqb-false}
use mathlib.Core.List.{List, [], ◌∷◌, Memᴰ}
use Rattle.tree.specs.Lists.{every, has}
use Rattle.tree.specs.Forest.{row}
use Rattle.tree.specs.Document.{Document, Line, here}
use Rattle.tree.specs.Steps.{done, D, inserts}
use Rattle.tree.specs.Plain.{steps_in, left_of}
use Rattle.tree.specs.Laws.Tests.{and_left, and_right, or_left, or_right, both_ways}
use Rattle.tree.specs.Laws.Lists.{has_in}
use Rattle.tree.specs.Laws.Rows.{Each, each_above}
use Rattle.tree.specs.Laws.View.{in_view, view_in}
use Rattle.locks.specs.Modes.{LW}
use Rattle.locks.specs.Needs.{locks}
use Rattle.locks.proofs.Laws.Compatible.{node_locked, off_path}
use Rattle.locks.proofs.Laws.Excludes.{LW_excludes}
use Rattle.protocol.specs.State.{nobody, State, Marked, Tree, seen_by, number_held, callers_document, shown, document_of}
use Rattle.protocol.specs.Causes.{part_not_allowed}
use Rattle.protocol.specs.Calls.{Call, open_part, close_part, undo_part, granted, refused, part_limit, next}
use Rattle.protocol.specs.History.{Event, fed, plain, inserted}
use Rattle.serializability.specs.Theorem.{since_start, reached, parts_open, PartsPlain}
use Rattle.serializability.proofs.Laws.Tests.{by_test, affirmed, eqb_sym}
use Rattle.serializability.proofs.Laws.Lines.{at_line, line_here}
use Rattle.serializability.proofs.Laws.Parts.{Entry, Of, LevelledLog}
use Rattle.serializability.proofs.Laws.Levels.{in_whole}
use Rattle.serializability.proofs.Laws.PlainRun.{Follows, follows}
use Rattle.serializability.proofs.Laws.Shown.{Place, Inside, path, numbers_of, local}
use Rattle.serializability.proofs.Laws.Numbers.{number_of, one_place, place_held}
use Rattle.serializability.proofs.Laws.Marks.{Guarded, inserter_marks}
use Rattle.serializability.proofs.Laws.Good.{whole, holds, Good}
use Rattle.serializability.proofs.Laws.GoodLaws.{log_open, logs_compatible}
use Rattle.serializability.proofs.Laws.Tracks.{by_levels, whole_is, Tracks}
use Rattle.serializability.proofs.Laws.AnyOrder.{entries, reached_tracks, fed_is}
use Rattle.serializability.proofs.Laws.Held.{place_here, here_visible}
use Rattle.serializability.proofs.Laws.Pending.{only, inserted_in, log_run}
use Rattle.serializability.proofs.Laws.Main.{plain_committed}

-- what the caller sees ---------------------------------------------------------------------------

-- a place that t sees, by its number
seen_place : (t : ℕ) (f : Tree) (m : ℕ) → here m (callers_document t f) ≡ true
    → (r : Place) × Inside r f × (every (seen_by t) (path r) ≡ true) × (number_of r ≡ m)
unfolding callers_document
seen_place t f m h =
    let a = at_line m (callers_document t f) h in
    let v = in_view (λ x. x) (seen_by t) (seen_by t) (λ x. refl) (λ x. x.now) (λ x. x.number) (λ x. x.now.number) (λ x. refl)
    [] f refl a.0 in
    (v.0, v.1, v.2, sym (ap (λ (x : Line). x.it.number) v.3) ∙ a.1)

place_seen : (t : ℕ) (f : Tree) {r : Place} → Inside r f → every (seen_by t) (path r) ≡ true
    → here (number_of r) (callers_document t f) ≡ true
unfolding callers_document
place_seen t f {r} i e = line_here (number_of r) (callers_document t f) (row r.it.now (numbers_of r.above))
    (view_in (λ x. x) (seen_by t) (seen_by t) (λ x. refl) (λ x. x.now) (λ x. x.number) (λ x. x.now.number) (λ x. refl)
    [] f refl i e) refl

-- where t or nobody inserted the node, t sees it exactly if t alone shows it
own_shown : (t : ℕ) → (t ≡ nobody → ⊥) → (a : Marked) → local t a.inserter ≡ true → shown (only t) a ≡ seen_by t a
own_shown t nt a l = rw (eqb_sym t a.inserter, or-false (eqb a.inserter t), l, or-false (eqb t a.deleter), eqb_sym t a.deleter)
    (by_test (eqb a.deleter t) (λ e. rw (e, ne_eqb a.deleter nobody (λ z. nt (sym (eqb-true a.deleter t e) ∙ z))))
    (λ e. rw (e, and-false (not (eqb a.deleter nobody)))))

own_visible : (t : ℕ) → (t ≡ nobody → ⊥) → (p : List Marked) → every (λ a. local t a.inserter) p ≡ true
    → every (shown (only t)) p ≡ every (seen_by t) p
own_visible t nt [] e = refl
own_visible t nt (a ∷ p) e = rw (own_shown t nt a (and_left _ _ e), own_visible t nt p (and_right (local t a.inserter) _ e))

module _ (c : Document) (log : ℕ → LevelledLog) (M : State) (g : Good c log M) (t : ℕ) (nt : t ≡ nobody → ⊥) where
  abbrev f : Tree
  f = M.tree

  -- on the path of a node that t inserted nobody else inserted one: the locks of t on it exclude that
  module _ (r : Place) (i : Inside r M.tree) (own : r.it.inserter ≡ t) where
    own_above : (p : List Marked) → Each (λ a. a) (λ a q. Guarded (holds log M.header.depth) a q) p
        → ((q : ℕ) → has q (numbers_of p) ≡ true → has q (numbers_of (path r)) ≡ true) → every (λ a. local t a.inserter) p ≡ true
    own_above [] k h = refl
    own_above (a ∷ p) k h =
        let n = a.now.number in
        let mine : local t a.inserter ≡ true = affirmed _ (λ e.
        let u = a.inserter in
        let theirs = k.0 u (eqb-false u nobody (or_left _ _ e)) (inserter_marks a) in
        let ours = g.covered.guarded r i t nt (rw (eq-eqb r.it.inserter t own)) in
        true≢false (sym (h n (rw (eq-eqb n n refl))) ∙ off_path n (LW ∷ []) (locks (D n) (numbers_of p)) (node_locked (D n) (numbers_of p))
        (D (number_of r)) (numbers_of r.above)
        (λ q x y j l. logs_compatible g u t (eqb-false u t (or_right (eqb u nobody) _ e)) q x y (theirs (q, x) j) (ours (q, y) l))
        (LW_excludes (D (number_of r))))) in
        rw (mine, own_above p k.1 (λ q j. h q (rw (j, or-true (eqb n q)))))

    own_path : every (shown (only t)) (path r) ≡ every (seen_by t) (path r)
    own_path = own_visible t nt (path r) (own_above (path r)
        (each_above (λ a. a) (λ a q. Guarded (holds log M.header.depth) a q) tt (λ s j. g.covered.guarded s j) i) (λ q h. h))

    -- so t sees the node exactly if t alone shows it
    pub own_known : here (number_of r) (callers_document t M.tree) ≡ here (number_of r) (document_of (only t) M.tree)
    own_known = both_ways _ _
        (λ e. let s = seen_place t f (number_of r) e in
        place_here (only t) f i (own_path ∙ ap (λ (x : Place). every (seen_by t) (path x)) (sym (same s.0 s.1 s.3)) ∙ s.2))
        (λ e. place_seen t f i (sym own_path ∙ (here_visible (only t) f g.covered.distinct i e).0))
      where
        same : (s : Place) → Inside s M.tree → number_of s ≡ number_of r → s ≡ r
        same s j e = one_place M.tree g.covered.distinct j i e

-- the calls --------------------------------------------------------------------------------------

module _ (cs : List Call) (t : ℕ) where
  abbrev M : State
  M = reached cs

  abbrev h : List Event
  h = since_start cs

  abbrev tr : Tracks (entries cs) (reached cs)
  tr = reached_tracks cs

  -- what t did leads from the plain document to what t alone shows
  follow : Follows (plain h) ((entries cs).open_log t) (document_of (only t) M.tree)
  follow = rw (← plain_committed cs)
      (follows _ ((entries cs).open_log t) _ (log_run tr.c (entries cs).open_log M tr.good tr.depths t))

  depth_plain : M.header.depth t ≡ parts_open h t
  depth_plain = tr.depths t ∙ sym (rw (fed_is cs) follow.openings)

  -- t inserted m
  module _ (m : ℕ) (e : has m (inserted ((fed h).open_log t)) ≡ true) where
    entry_of : (y : Entry) × Memᴰ y (steps_in ((entries cs).open_log t)) × (has m (inserts y.step) ≡ true)
    entry_of = inserted_in ((entries cs).open_log t) m (has_in m _ (rw (fed_is cs) at e))

    in_log : Of entry_of.0 (whole (by_levels (entries cs).open_log) M.header.depth t)
    in_log = rw (whole_is (entries cs).open_log M.header.depth tr.depths t) (in_whole ((entries cs).open_log t) entry_of.1)

    stands : (r : Place) × Inside r M.tree × (number_of r ≡ m) × (r.it.inserter ≡ t)
    stands = let r = (tr.good.standing t entry_of.0 in_log).new m entry_of.2 in (r.0, r.1, r.2, r.4)

    somebody : t ≡ nobody → ⊥
    somebody z = false≢true (rw z at (tr.good.numbered t (log_open tr.good t in_log)))

    held_number : number_held m M.tree ≡ true
    held_number = let r = stands in place_held m M.tree r.1 r.2

    known_number : here m (callers_document t M.tree) ≡ here m (left_of (plain h) ((fed h).open_log t)).document
    known_number =
        let r = stands in
        rw (fed_is cs, follow.document, ← r.2)
        (own_known tr.c (by_levels (entries cs).open_log) M tr.good t somebody r.0 r.1 r.3)

  -- 1 and 3 do not apply to an open transaction
  module _ (o : (reached cs).header.is_open t ≡ true) where
    abbrev depth : ℕ
    depth = (reached cs).header.depth t

    open_told : (next (open_part t) M).outcome ≡ cond (leb part_limit (parts_open h t)) (refused part_not_allowed) (granted done)
    unfolding next
    open_told = rw (tr.good.numbered t o, o) (by_test (leb part_limit depth) (λ e. rw e) (λ e. rw e))
        ∙ ap (λ n. cond (leb part_limit n) (refused part_not_allowed) (granted done)) depth_plain

    close_told : (next (close_part t) M).outcome ≡ cond (eqb (parts_open h t) 0) (refused part_not_allowed) (granted done)
    unfolding next
    close_told = rw (tr.good.numbered t o, o) (by_test (eqb depth 0) (λ e. rw e) (λ e. rw e))
        ∙ ap (λ n. cond (eqb n 0) (refused part_not_allowed) (granted done)) depth_plain

    undo_told : (next (undo_part t) M).outcome ≡ cond (eqb (parts_open h t) 0) (refused part_not_allowed) (granted done)
    unfolding next
    undo_told = rw (tr.good.numbered t o, o) (by_test (eqb depth 0) (λ e. rw e) (λ e. rw e))
        ∙ ap (λ n. cond (eqb n 0) (refused part_not_allowed) (granted done)) depth_plain

pub parts_plain : (cs : List Call) (t : ℕ) → PartsPlain cs t
parts_plain cs t = record {
  depth = depth_plain cs t;
  open_outcome = open_told cs t;
  close_outcome = close_told cs t;
  undo_outcome = undo_told cs t;
  in_use = held_number cs t;
  known = known_number cs t;
}
