-- What holds in every state that is reached: distinct numbers, legal documents, and the committed document as the one held if all aborted.
use Prim.Native.Nat.{ℕ}
use Rattle.std.specs.Prelude.{◌≡◌, Bool, true, false, not, ◌&&◌, eqb}
use Rattle.std.proofs.Math.Path.{sym, ap, refl, ap₂}
use Rattle.std.proofs.Common.{◌∙◌, true≢false, ⊎_elim, eqb-true, eq-eqb}
use Rattle.std.proofs.lemmas.Bool.{false≢true, eqb-false, not-true}
use Rattle.std.proofs.Math.Bool.{or-true, and-false}
use mathlib.Core.List.Memᴰ
use mathlib.Core.List.{List, [], ◌∷◌, Memᴰ, map}
use Rattle.tree.specs.Document.{Document, node_0_alone, legal}
use Rattle.tree.specs.Steps.{Step, with_content}
use Rattle.tree.specs.Lists.{has, keep}
use Rattle.tree.specs.Laws.Tests.{and_left, and_right, refuted}
use Rattle.tree.specs.Laws.Lists.{every_at}
use Rattle.tree.specs.Laws.View.{view_agree}
use Rattle.locks.specs.Modes.{Mode}
use Rattle.locks.specs.Needs.{Lock}
use Rattle.serializability.proofs.Laws.Tests.{by_test}
use Rattle.serializability.proofs.Laws.Parts.{Entry, LevelledLog}
use Rattle.serializability.proofs.Laws.PlainRun.{whole_logs}
use Rattle.serializability.proofs.Laws.Orders as orders
use Rattle.serializability.proofs.Laws.Legal.{legal_run}
use Rattle.protocol.specs.State.{State, Marked, Tree, nodes, seen_by, granted_to, none_of, lasting, undone, act, grant, commit_tree}
use Rattle.protocol.specs.State.{abort_tree, mark, undo_tree, join_tree, part_undone, part_joined, tree_of, start_state, nobody}
use Rattle.protocol.specs.State.{is_transaction, transactions, Levels, all_of, nothing, done_by, shown, as_shown, document_of}
use Rattle.protocol.specs.State.{held_document, committed_document, writer_of, next_count}
use Rattle.protocol.specs.Calls.{Call, next, abort}
use Rattle.protocol.specs.History.{state_after, Log}
use Rattle.serializability.specs.Theorem.{reached, all_aborted, Reached}
use Rattle.serializability.proofs.Laws.Outcomes.{every_call}
use Rattle.serializability.proofs.Laws.Shown.{Place, Inside, minus, abort_shown}
use Rattle.serializability.proofs.Laws.Numbers.{in_mark, in_part, node_place, distinct_numbers}
use Rattle.serializability.proofs.Laws.Granting.{after_step, act_places}
use Rattle.serializability.proofs.Laws.Load.{load_unmarked}
use Rattle.serializability.proofs.Laws.Tracks.{by_levels, Tracks}
use Rattle.serializability.proofs.Laws.Tracking.{calls_track}
use Rattle.serializability.proofs.Laws.WaitSet.{transaction_in, has_kept, kept_distinct}
use Rattle.serializability.proofs.Laws.Marks.{inserter_marks, deleter_marks}
use Rattle.serializability.proofs.Laws.PartMarks.{undone_marks}
use Rattle.serializability.proofs.Laws.Good.{whole, Good}
use Rattle.serializability.proofs.Laws.GoodLaws.{document_same, serial_all}
use Rattle.serializability.proofs.Laws.AnyOrder.{entries, reached_tracks}
use Rattle.serializability.proofs.Laws.Held.{content_agree, marker_open, writer_open, held_shown}

-- only open transactions hold locks: commit and abort empty their sets -------------------------------------

Released : (ℕ → Bool) → Tree → Type 0
Released o f = (r : Place) → Inside r f → (u : ℕ) (m : Mode) → r.it.held u m ≡ true → o u ≡ true

-- a granted step ---------------------------------------------------------------------------------

grant_released : (o : ℕ → Bool) (t : ℕ) (ls : List Lock) (f : Tree) → o t ≡ true → Released o f → Released o (grant t ls f)
unfolding Released grant
grant_released o t ls f e k r i u m h =
    let a = in_mark (λ x. granted_to t ls x.it) f i in
    by_test (eqb u t) (λ p. rw (eqb-true u t p) e) (λ p. k a.0 a.1 u m (rw (a.2, p) at h))

step_released : (o : ℕ → Bool) (t d : ℕ) (s : Step) (ls : List Lock) (f : Tree) → o t ≡ true → Released o f
    → Released o (after_step t d s ls f)
unfolding Released
step_released o t d s ls f e k = grant_released o t ls (act t d s f) e (λ r i u m h.
    ⊎_elim (λ x. k x.place x.inside u m (rw x.held at h)) (λ x. absurd (false≢true (rw x.held at h))) (act_places t d s f r i))

-- the ends of a transaction ------------------------------------------------------------------------

-- t holds nothing, the others what they held
none_other : (t : ℕ) (a : Marked) (u : ℕ) (m : Mode) → none_of t a.held u m ≡ true → (eqb u t ≡ false) × (a.held u m ≡ true)
none_other t a u m h = by_test (eqb u t) (λ e. absurd (false≢true (rw e at h))) (λ e. (e, rw e at h))

commit_released : (o : ℕ → Bool) (n t : ℕ) (f : Tree) → Released o f → Released (λ u. not (eqb u t) && o u) (commit_tree n t f)
unfolding Released commit_tree
commit_released o n t f k r i u m h =
    let a = in_part (seen_by t) (lasting n t) f i in
    let x = none_other t a.0.it u m (rw a.3 at h) in
    rw x.0 (k a.0 a.1 u m x.1)

abort_released : (o : ℕ → Bool) (t : ℕ) (f : Tree) → Released o f → Released (λ u. not (eqb u t) && o u) (abort_tree t f)
unfolding Released abort_tree
abort_released o t f k r i u m h =
    let a = in_part (λ x. not (eqb x.inserter t)) (undone t) f i in
    let x = none_other t a.0.it u m (rw a.3 at h) in
    rw x.0 (k a.0 a.1 u m x.1)

load_released : (o : ℕ → Bool) (d : Document) → Released o (tree_of d)
unfolding Released
load_released o d r i u m h = absurd (false≢true (sym (ap (λ (a : Marked). a.held u m) (load_unmarked d r i).1) ∙ h))

-- a call on parts changes no lock
marked_released : (o : ℕ → Bool) (g : Marked → Marked) → ((a : Marked) → (g a).held ≡ a.held) → (f : Tree) → Released o f
    → Released o (mark (λ r. g r.it) f)
unfolding Released
marked_released o g e f k r i u m h =
    let a = in_mark (λ r. g r.it) f i in k a.0 a.1 u m (rw (a.2, e a.0.it) at h)

undo_released : (o : ℕ → Bool) (t d : ℕ) (f : Tree) → Released o f → Released o (undo_tree t d f)
unfolding undo_tree
undo_released o t d f k = marked_released o (part_undone t d) (λ a. (undone_marks t d a).held) f k

join_released : (o : ℕ → Bool) (t d : ℕ) (f : Tree) → Released o f → Released o (join_tree t d f)
unfolding join_tree
join_released o t d f k = marked_released o (part_joined t d) (λ a. refl) f k

-- every call ---------------------------------------------------------------------------------------

Kept : State → Type 0
Kept M = Released M.header.is_open M.tree

call_kept : (M : State) → Kept M → (c : Call) → Kept (next c M).state
unfolding Kept Released
call_kept M k = every_call (λ c n. Kept n.state) M (record {
  refusal = λ c n i. k;
  at_start = load_released (λ u. false) node_0_alone;
  at_unread = λ c i. k;
  at_load = λ d h o. load_released M.header.is_open d;
  at_begin = λ t h o r i u m e. rw (k r i u m e) (or-true (eqb u t));
  at_commit = λ t h o l. commit_released M.header.is_open (next_count M) t M.tree k;
  at_abort = λ t h o. abort_released M.header.is_open t M.tree k;
  at_wait = λ t s room h o e z. k;
  at_step = λ t s room h o p. step_released M.header.is_open t (M.header.depth t) s _ M.tree o k;
  at_write = k;
  at_count = λ n h. k;
  at_open_part = λ t h o l. k;
  at_close_part = λ t h o l. join_released M.header.is_open t (M.header.depth t) M.tree k;
  at_undo_part = λ t h o l. undo_released M.header.is_open t (M.header.depth t) M.tree k;
})

calls_kept : (M : State) → Kept M → (cs : List Call) → Kept (state_after M cs)
unfolding state_after
calls_kept M k [] = k
calls_kept M k (c ∷ cs) = calls_kept (next c M).state (call_kept M k c) cs

pub holders_open : (cs : List Call) (a : Marked) → Memᴰ a (nodes (reached cs).tree) → (u : ℕ) (m : Mode) → a.held u m ≡ true
    → (reached cs).header.is_open u ≡ true
unfolding state_after next Kept Released
holders_open cs a i u m h =
    let r = node_place (reached cs).tree i in
    calls_kept start_state (load_released (λ v. false) node_0_alone) cs r.0 r.1 u m (ap (λ (x : Marked). x.held u m) r.2 ∙ h)

-- legal documents ----------------------------------------------------------------------------

module _ (c : Document) (log : ℕ → LevelledLog) (M : State) (g : Good c log M) (S : ℕ → Bool) where
  abbrev f : Tree
  f = M.tree

  -- the transactions of the set
  abbrev b : List ℕ
  b = keep S transactions

  in_set : (u : ℕ) → M.header.is_open u ≡ true → has u b ≡ S u
  in_set u o = has_kept S u (λ e. g.numbered u o)

  abbrev among : Levels
  among = all_of (λ u. has u (keep S transactions))

  same_done : (u l : ℕ) → ((u ≡ nobody → ⊥) → M.header.is_open u ≡ true) → done_by (all_of S) u l ≡ done_by among u l
  same_done u l k = by_test (eqb u nobody) (λ e. rw e) (λ e. rw (e, in_set u (k (eqb-false u nobody e))))

  same_deleted : (u : ℕ) → ((u ≡ nobody → ⊥) → M.header.is_open u ≡ true)
      → not (not (eqb u nobody) && S u) ≡ not (not (eqb u nobody) && has u b)
  same_deleted u k = by_test (eqb u nobody) (λ e. rw e) (λ e. rw (e, in_set u (k (eqb-false u nobody e))))

  -- any set shows what some of the transactions show
  set_shown : document_of (all_of S) f ≡ document_of among f
  unfolding document_of
  set_shown = view_agree (λ a. a) (shown among) (shown among) (λ a. refl) (shown (all_of S)) (as_shown among)
      (as_shown (all_of S)) [] f refl
      (λ r i e. ap₂ (λ x y. x && y)
      (same_done r.it.inserter r.it.insertion_level (λ nu. marker_open c log M g r i r.it.inserter nu (inserter_marks r.it)))
      (same_deleted r.it.deleter (λ nu. marker_open c log M g r i r.it.deleter nu (deleter_marks r.it))))
      (λ r i e. let u : ℕ = writer_of r.it.update in ap (with_content r.it.now)
      (content_agree M.header.depth r.it.update (g.levels r i).writes S (λ v. has v b)
      (λ nu. sym (in_set u (writer_open c log M g r i u nu (eq-eqb u u refl)))) r.it.now.content))

  pub set_legal : legal c ≡ true → legal (document_of (all_of S) f) ≡ true
  set_legal h = rw set_shown
      (legal_run c (orders.logs (whole log M.header.depth) b) (document_of among f) h (serial_all g b (kept_distinct S)).run)

-- aborts -------------------------------------------------------------------------------------

-- the committed document stays, none of these transactions is left open, and no other was opened
abbrev Aborted : List ℕ → State → State → Type 0
Aborted ts M N = (committed_document N ≡ committed_document M)
    × ((u : ℕ) → N.header.is_open u ≡ true → (M.header.is_open u ≡ true) × (Memᴰ u ts → ⊥))

one_aborted : (t : ℕ) (M : State) → is_transaction t ≡ true → Aborted (t ∷ []) M (next (abort t) M).state
unfolding next
one_aborted t M h = by_test (M.header.is_open t)
    (λ e. rw (h, e) (
      abort_shown t (λ z. false≢true (rw z at h)) nothing M.tree ∙ document_same (minus t nothing) nothing M.tree
          (λ u l. and-false (not (eqb u t))),
      λ u o. (and_right (not (eqb u t)) _ o, λ i. eqb-false u t (not-true _ (and_left _ _ o)) (Memᴰ.eq_of_singleton i)),
    ))
    (λ e. rw (h, e) (refl, λ u o. (o, λ i. true≢false (sym o ∙ ap M.header.is_open (Memᴰ.eq_of_singleton i) ∙ e))))

each_aborted : (ts : List ℕ) (M : State) → ((u : ℕ) → Memᴰ u ts → is_transaction u ≡ true)
    → Aborted ts M (state_after M (map abort ts))
unfolding state_after
each_aborted [] M h = (refl, λ u o. (o, Memᴰ.not-nil))
each_aborted (t ∷ ts) M h =
    let a = one_aborted t M (h t (Memᴰ.head refl)) in
    let b = each_aborted ts (next (abort t) M).state (λ u i. h u (Memᴰ.tail i)) in (
      b.0 ∙ a.0,
      λ u o. let x = b.1 u o in
          let y = a.1 u x.0 in
          (y.0, λ i. ⊎_elim (λ e. y.1 (Memᴰ.head e)) x.1 (Memᴰ.cases_cons i)),
    )

-- all of it ------------------------------------------------------------------------------------

aborted_held : (L : Log Entry) (M : State) → Tracks L M → held_document (all_aborted M) ≡ committed_document M
aborted_held L M tr =
    let N = (calls_track L M tr (map abort transactions)).tracks in
    let a = each_aborted transactions M (λ u i. every_at is_transaction transactions refl i) in
    held_shown N.c _ (all_aborted M) N.good
    ∙ document_same (all_of (all_aborted M).header.is_open) nothing (all_aborted M).tree
    (λ u l. refuted _ (λ e. (a.1 u e).1 (transaction_in u (N.good.numbered u e))))
    ∙ a.0

pub always_reached : (cs : List Call) → Reached (reached cs)
always_reached cs = record {
  numbers_distinct = distinct_numbers (reached cs).tree tr.good.covered.distinct;
  documents_legal = legal_set;
  held_legal = rw (held_shown tr.c (by_levels (entries cs).open_log) (reached cs) tr.good) (legal_set (reached cs).header.is_open);
  locks_open = holders_open cs;
  committed_if_aborted = aborted_held (entries cs) (reached cs) tr;
}
  where
    tr : Tracks (entries cs) (reached cs)
    tr = reached_tracks cs

    legal_set : (S : ℕ → Bool) → legal (document_of (all_of S) (reached cs).tree) ≡ true
    legal_set S = set_legal tr.c (by_levels (entries cs).open_log) (reached cs) tr.good S
        (legal_run (entries cs).initial (whole_logs (entries cs).committed) tr.c tr.first_legal tr.run)
