-- Every call keeps the state in step with a log of entries.
use Rattle.std.specs.Prelude.{ℕ, suc, ◌-◌, ◌≡◌, true, false, cond, List, [], ◌∷◌, ◌++◌, map, eqb}
use Rattle.std.proofs.Math.Path.{refl, fun_ext}
use Rattle.std.proofs.Common.{sym, ap, ◌∙◌, true≢false, ⊎_elim, arith, length-append, eqb-true}
use Rattle.std.proofs.lemmas.Bool.{false≢true, eqb-false, not-true}
use Rattle.std.proofs.Math.Bool.{and-true}
use Rattle.tree.specs.Lists.{any}
use Rattle.tree.specs.Document.{Document, lines, legal, node_0_alone, ruled}
use Rattle.tree.specs.Forest.{rows}
use Rattle.tree.specs.Steps.{Step}
use Rattle.tree.specs.Plain.{Operation, does, opens, closes, undoes}
use Rattle.tree.specs.Counts.{zero_counts, counts_from}
use Rattle.tree.specs.Content.{allowed, children_rule}
use Rattle.tree.specs.Laws.Tests.{and_left, or_right, or_cases, refuted}
use Rattle.tree.specs.Laws.Lists.{map_map, at_any}
use Rattle.serializability.proofs.Laws.Tests.{by_test}
use Rattle.serializability.proofs.Laws.Parts.{Entry, all}
use Rattle.serializability.proofs.Laws.Runs.{Run, run_append, then_end, touched_in}
use Rattle.serializability.proofs.Laws.Levels.{levels_of, levels_more, whole_log}
use Rattle.serializability.proofs.Laws.PlainRun.{whole_logs, whole_logs_append}
use Rattle.serializability.proofs.Laws.Legal.{legal_parts}
use Rattle.protocol.specs.State.{nobody, State, Marked, is_transaction, transactions, tree_of, start_state, with_tree, opened, committed}
use Rattle.protocol.specs.State.{aborted, with_header, with_commits, next_count, seen_by, writer_of, touched_by, callers_document}
use Rattle.protocol.specs.State.{forgetting, part_opened, part_closed, part_taken_back}
use Rattle.protocol.specs.Calls.{Call, step, loadable, StepAnswer, Next, next}
use Rattle.protocol.specs.History.{history, state_after, is_granted, Log, new_log, with_log, with_more, with_commit, logged, log_after}
use Rattle.serializability.proofs.Laws.Outcomes.{Passed, every_call}
use Rattle.serializability.proofs.Laws.WaitSet.{transaction_in}
use Rattle.serializability.proofs.Laws.Logs.{read_off, logged_read, logged_none}
use Rattle.serializability.proofs.Laws.Shown.{Place, Inside}
use Rattle.serializability.proofs.Laws.Numbers.{number_of}
use Rattle.serializability.proofs.Laws.Good.{Good}
use Rattle.serializability.proofs.Laws.GoodLaws.{everything_proper, good_header}
use Rattle.serializability.proofs.Laws.Whole.{entry, stepped, step_good}
use Rattle.serializability.proofs.Laws.Ends.{without_log, commit_good, abort_good}
use Rattle.serializability.proofs.Laws.PartOpened.{open_good}
use Rattle.serializability.proofs.Laws.PartsLeft.{join_good, undo_good}
use Rattle.serializability.proofs.Laws.Load.{load_unmarked, load_good}
use Rattle.serializability.proofs.Laws.CountsKept.{counts_of, counts_last, Counted, step_counted, abort_counted, commit_counted}
use Rattle.serializability.proofs.Laws.CountsKept.{undo_counted, join_counted}
use Rattle.serializability.proofs.Laws.Tracks.{by_levels, open_parts, Tracks, parts_with, log_with, log_does, log_opens, log_closes}
use Rattle.serializability.proofs.Laws.Tracks.{log_undoes}

-- a new document, with no open transaction that did anything
new_tracks : (d : Document) → legal d ≡ true → (M : State) → ((u : ℕ) → M.header.is_open u ≡ true → is_transaction u ≡ true)
    → ((u : ℕ) → M.header.depth u ≡ 0) → M.header.commits ≡ 0 → Tracks (new_log d) (with_tree M (tree_of d))
unfolding counts_from
new_tracks d h M n e z = record {
  first_legal = h;
  c = d;
  run = refl;
  good = load_good d (legal_parts d h).unique M n e;
  depths = e;
  commits = z;
  counts = λ r i e. ap (λ (a : Marked). a.count) (load_unmarked d r i).1;
}

node_0_legal : legal node_0_alone ≡ true
unfolding legal ruled lines rows node_0_alone allowed children_rule
node_0_legal = refl

-- the log of a list that begins with a start
pub start_tracks : Tracks (new_log node_0_alone) start_state
start_tracks = new_tracks node_0_alone node_0_legal start_state (λ u e. absurd (false≢true e)) (λ u. refl) refl

-- an entry is a granted step with its locks
abbrev pub taken_of : Entry → StepAnswer
taken_of x = record { step = x.step; value = x.value }

-- some entries are the steps that were granted in a call, and with them the log is in step with the state
record Entered (L : Log Entry) (c : Call) (n : Next) : Type 0 where
  entries : List Entry
  read : map taken_of entries ≡ n.steps
  tracks : Tracks (logged c (is_granted n.outcome) entries L) n.state

module _ (L : Log Entry) (M : State) (tr : Tracks L M) where
  no_step : {c : Call} {n : Next} → n.steps ≡ [] → Tracks (logged c (is_granted n.outcome) [] L) n.state → Entered L c n
  no_step e t = record { entries = []; read = sym e; tracks = t }

  abbrev flat : ℕ → List (Operation Entry)
  flat = L.open_log

  -- the committed document stays, with its counts
  stays : (log : ℕ → List (Operation Entry)) (N : State) → Good tr.c (by_levels log) N
      → ((u : ℕ) → N.header.depth u ≡ open_parts log u) → N.header.commits ≡ M.header.commits → Counted (counts_of L) N.tree
      → Tracks (record { initial = L.initial; committed = L.committed; open_log = log }) N
  stays log N g d e k = record {
    first_legal = tr.first_legal;
    c = tr.c;
    run = tr.run;
    good = g;
    depths = d;
    commits = e ∙ tr.commits;
    counts = k;
  }

  somebody : (t : ℕ) → is_transaction t ≡ true → t ≡ nobody → ⊥
  somebody t h e = false≢true (rw e at h)

  -- the depth of t is that of its operations, and the others' are what they were
  depth_more : (t : ℕ) (l : List (Operation Entry)) (d : ℕ) → d ≡ (levels_of l).0
      → (u : ℕ) → cond (eqb u t) d (M.header.depth u) ≡ open_parts (with_log t l flat) u
  depth_more t l d e u = rw (parts_with t flat l u, e, tr.depths u)

  -- load: nothing is open, so no part is
  none_open : any M.header.is_open transactions ≡ false → (u : ℕ) → M.header.is_open u ≡ false
  none_open h u = refuted _ (λ e.
      true≢false (sym (at_any M.header.is_open transactions (transaction_in u (tr.good.numbered u e)) e) ∙ h))

  -- what t did before it begins is nothing
  begin_tracks : (t : ℕ) → is_transaction t ≡ true → M.header.is_open t ≡ false
      → Tracks (record { initial = L.initial; committed = L.committed; open_log = with_log t [] flat }) (opened t M)
  begin_tracks t h e = stays (with_log t [] flat) (opened t M) (rw ended (record {
    closed = λ u x. tr.good.closed u (or_right (eqb u t) _ x);
    deeper = tr.good.deeper;
    no_parts = λ u x. tr.good.no_parts u (or_right (eqb u t) _ x);
    numbered = λ u x. ⊎_elim (λ y. rw (eqb-true u t y) h) (tr.good.numbered u) (or_cases (eqb u t) (M.header.is_open u) x);
    covered = tr.good.covered;
    standing = tr.good.standing;
    brought = tr.good.brought;
    levels = tr.good.levels;
    touched = tr.good.touched;
    serial = tr.good.serial;
  })) (λ u. rw (parts_with t flat [] u) (by_test (eqb u t) (λ i. rw (i, eqb-true u t i) (tr.good.no_parts t e))
      (λ i. rw i (tr.depths u)))) refl tr.counts
    where
      ended : by_levels (with_log t [] flat) ≡ by_levels flat
      ended = fun_ext (λ u. fun_ext (λ l. log_with t flat [] u l
          ∙ by_test (eqb u t) (λ i. rw (i, eqb-true u t i) (sym (tr.good.closed t e l))) (λ i. rw i)))

  -- the log of t ends
  log_ends : (t : ℕ) → by_levels (with_log t [] flat) ≡ without_log t (by_levels flat)
  log_ends t = fun_ext (λ u. fun_ext (λ l. log_with t flat [] u l))

  abort_tracks : (t : ℕ) → is_transaction t ≡ true
      → Tracks (record { initial = L.initial; committed = L.committed; open_log = with_log t [] flat }) (aborted t M)
  abort_tracks t h = stays (with_log t [] flat) (aborted t M)
      (rw (log_ends t) (abort_good tr.c (by_levels flat) M tr.good t (somebody t h))) (depth_more t [] 0 refl) refl
      (abort_counted (counts_of L) t M.tree tr.counts)

  commit_tracks : (t : ℕ) → is_transaction t ≡ true → Tracks (with_commit t L) (committed t M)
  commit_tracks t h =
      let n = next_count M in
      let N = with_header (with_commits n M.header) M in
      let e = commit_good tr.c (by_levels flat) N (good_header tr.good _ (λ u. refl) refl) t (somebody t h) n in
      let r : Run tr.c (whole_log (flat t)) e.0 = rw (tr.depths t) at e.1 in
      record {
        first_legal = tr.first_legal;
        c = e.0;
        run = rw (whole_logs_append L.committed (flat t ∷ []), then_end (whole_log (flat t)))
            (run_append L.initial (whole_logs L.committed) (whole_log (flat t)) tr.c e.0 tr.run r);
        good = rw (log_ends t) e.2;
        depths = depth_more t [] 0 refl;
        commits = rw (length-append L.committed (flat t ∷ [])) (omega (arith, tr.commits));
        counts = λ s i x. commit_counted (counts_of L) n t (touched_in (whole_log (flat t))) M.tree (touches t h) tr.counts s i x
            ∙ sym (counts_last 1 L.initial zero_counts L.committed (flat t) tr.c e.0 tr.run r n
            (omega (arith, tr.commits)) (number_of s));
      }
    where
      touches : (t : ℕ) → is_transaction t ≡ true → (r : Place) → Inside r M.tree → seen_by t r.it ≡ true
          → touched_by t r.it ≡ touched_in (whole_log (flat t)) (number_of r)
      touches t h r i e =
          let k = tr.good.touched r i t (somebody t h) all (everything_proper M.header.depth t)
          (rw (and-true (eqb r.it.deleter t)) (not-true _ e)) in
          rw (and-true (eqb r.it.inserter t), and-true (eqb (writer_of r.it.update) t), tr.depths t) at k

  -- calls on parts
  open_tracks : (t : ℕ) → is_transaction t ≡ true → M.header.is_open t ≡ true → Tracks (with_more t (opens ∷ []) L) (part_opened t M)
  open_tracks t h o = stays (with_log t (flat t ++ (opens ∷ [])) flat) (part_opened t M)
      (rw (log_opens t flat) (open_good tr.c (by_levels flat) M tr.good t h o))
      (depth_more t (flat t ++ (opens ∷ [])) _ (rw (levels_more (flat t) opens, tr.depths t))) refl tr.counts

  close_tracks : (t : ℕ) → is_transaction t ≡ true → M.header.is_open t ≡ true → (d : ℕ) → M.header.depth t ≡ suc d
      → Tracks (with_more t (closes ∷ []) L) (part_closed t M)
  close_tracks t h o d e = stays (with_log t (flat t ++ (closes ∷ [])) flat) (part_closed t M)
      (rw (log_closes t flat d (sym (tr.depths t) ∙ e)) (join_good tr.c (by_levels flat) M tr.good t h o d e))
      (depth_more t (flat t ++ (closes ∷ [])) _ (rw (levels_more (flat t) closes, ← tr.depths t, e) (omega arith))) refl
      (join_counted (counts_of L) t (M.header.depth t) M.tree tr.counts)

  undo_tracks : (t : ℕ) → is_transaction t ≡ true → M.header.is_open t ≡ true → (d : ℕ) → M.header.depth t ≡ suc d
      → Tracks (with_more t (undoes ∷ []) L) (part_taken_back t M)
  undo_tracks t h o d e = stays (with_log t (flat t ++ (undoes ∷ [])) flat) (part_taken_back t M)
      (rw (log_undoes t flat d (sym (tr.depths t) ∙ e)) (undo_good tr.c (by_levels flat) M tr.good t h o d e))
      (depth_more t (flat t ++ (undoes ∷ [])) _ (rw (levels_more (flat t) undoes, ← tr.depths t, e) (omega arith))) refl
      (undo_counted (counts_of L) t (M.header.depth t) M.tree tr.counts)

  step_tracks : (t : ℕ) (s : Step) → is_transaction t ≡ true → M.header.is_open t ≡ true → Passed t s M (callers_document t M.tree)
      → Tracks (with_more t (does (entry t M s) ∷ []) L) (forgetting t (stepped t s M))
  step_tracks t s h o p = stays (with_log t (flat t ++ (does (entry t M s) ∷ [])) flat) (forgetting t (stepped t s M))
      (rw (log_does t flat (entry t M s), ← tr.depths t)
      (good_header (step_good tr.c (by_levels flat) M tr.good t s h o p) _ (λ u. refl) refl))
      (λ u. rw (parts_with t flat (flat t ++ (does (entry t M s) ∷ [])) u, levels_more (flat t) (does (entry t M s)))
      (tr.depths u ∙ by_test (eqb u t) (λ i. rw (i, eqb-true u t i)) (λ i. rw i))) refl
      (step_counted (counts_of L) t (M.header.depth t) (somebody t h) s _ M.tree tr.counts)

  part_there : (t : ℕ) → eqb (M.header.depth t) 0 ≡ false → (d : ℕ) × (M.header.depth t ≡ suc d)
  part_there t h = (M.header.depth t - 1, omega (arith, eqb-false (M.header.depth t) 0 h))

  -- every call
  call_tracks : (c : Call) → Entered L c (next c M)
  unfolding loadable
  call_tracks = every_call (Entered L) M (record {
    refusal = λ c n i. no_step refl (rw (logged_none c L) tr);
    at_start = no_step refl start_tracks;
    at_unread = λ c i. no_step refl tr;
    at_load = λ d h o. no_step refl (new_tracks d (and_left _ _ (and_left _ _ h)) (with_header (with_commits 0 M.header) M)
        tr.good.numbered (λ u. tr.good.no_parts u (none_open o u)) refl);
    at_begin = λ t h o. no_step refl (begin_tracks t h o);
    at_commit = λ t h o l. no_step refl (commit_tracks t h);
    at_abort = λ t h o. no_step refl (abort_tracks t h);
    at_wait = λ t s room h o e z. no_step refl (rw (logged_none (step t s room) L)
        (stays _ _ (good_header tr.good _ (λ u. refl) refl) tr.depths refl tr.counts));
    at_step = λ t s room h o p. record { entries = entry t M s ∷ []; read = refl; tracks = step_tracks t s h o p };
    at_write = no_step refl tr;
    at_count = λ n h. no_step refl tr;
    at_open_part = λ t h o l. no_step refl (open_tracks t h o);
    at_close_part = λ t h o l. no_step refl (let p = part_there t l in close_tracks t h o p.0 p.1);
    at_undo_part = λ t h o l. no_step refl (let p = part_there t l in undo_tracks t h o p.0 p.1);
  })

-- after some calls: a log in step with the state, off which each log of the history is read
pub record Tracked (L : Log Entry) (M : State) (cs : List Call) : Type 1 where
  pub log : Log Entry
  pub tracks : Tracks log (state_after M cs)
  pub read : (E : Type 0) (g : Entry → E) (e : StepAnswer → E) → ((x : Entry) → e (taken_of x) ≡ g x)
      → log_after e (read_off g L) (history M cs) ≡ read_off g log

call_read : (L : Log Entry) (M : State) (c : Call) (x : Entered L c (next c M)) (E : Type 0) (g : Entry → E) (e : StepAnswer → E)
    → ((y : Entry) → e (taken_of y) ≡ g y) → let b = is_granted (next c M).outcome in
    logged c b (map e (next c M).steps) (read_off g L) ≡ read_off g (logged c b x.entries L)
call_read L M c x E g e h = rw (← x.read, map_map e taken_of g x.entries (λ y m. h y)) (sym (logged_read g c _ x.entries L))

pub calls_track : (L : Log Entry) (M : State) → Tracks L M → (cs : List Call) → Tracked L M cs
unfolding state_after history log_after
calls_track L M tr [] = record { log = L; tracks = tr; read = λ E g e h. refl }
calls_track L M tr (c ∷ cs) =
    let x = call_tracks L M tr c in
    let rest = calls_track (logged c (is_granted (next c M).outcome) x.entries L) (next c M).state x.tracks cs in
    record {
      log = rest.log;
      tracks = rest.tracks;
      read = λ E g e h. ap (λ (K : Log E). log_after e K (history (next c M).state cs)) (call_read L M c x E g e h) ∙ rest.read E g e h;
    }
