-- A.14: what is open may finish in any order.
use Rattle.std.specs.Prelude.{ℕ, ◌≡◌, Bool, true, false, cond, eqb}
use Rattle.std.proofs.Math.Path.{refl, sym, ap}
use Rattle.std.proofs.Common.{◌∙◌}
use mathlib.Core.List.{List, [], ◌∷◌, ◌++◌, map, append-nil, append_assoc, Memᴰ}
use Rattle.tree.specs.Lists.{has, keep, distinct}
use Rattle.tree.specs.Plain.{Operation}
use Rattle.tree.specs.Laws.Tests.{or_left, or_right}
use Rattle.protocol.specs.State.{State, start_state, transactions, all_of}
use Rattle.protocol.specs.Calls.{Call, start, commit, StepAnswer, next}
use Rattle.protocol.specs.History.{Event, history, state_after, is_granted, Log, with_log, with_commit, committed_then, log_after, fed}
use Rattle.protocol.specs.History.{plain, logged}
use Rattle.serializability.specs.Theorem.{since_start, reached, OpenOrder, OpenInAnyOrder, CommitInAnyOrder}
use Rattle.serializability.proofs.Laws.Orders.{distinct_head, distinct_tail}
use Rattle.serializability.proofs.Laws.WaitSet.{has_kept, kept_distinct}
use Rattle.serializability.proofs.Laws.GoodLaws.{document_same}
use Rattle.serializability.proofs.Laws.AnyOrder.{entries, reached_tracks, any_order}
use Rattle.serializability.proofs.Laws.Tracks.{by_levels}
use Rattle.serializability.proofs.Laws.Held.{held_shown}
use Rattle.serializability.proofs.Laws.Main.{plain_committed, history_append}

-- there is an order of what is open: by number
pub some_order : (cs : List Call) → OpenOrder (reached cs).header.is_open (keep (reached cs).header.is_open transactions)
some_order cs = record {
  once = kept_distinct (reached cs).header.is_open;
  all = λ u. has_kept (reached cs).header.is_open u ((reached_tracks cs).good.numbered u);
}

pub open_in_any_order : (cs : List Call) → OpenInAnyOrder cs
open_in_any_order cs b o =
    let tr = reached_tracks cs in
    rw (
      held_shown tr.c (by_levels (entries cs).open_log) (reached cs) tr.good,
      document_same (all_of (reached cs).header.is_open) (all_of (λ u. has u b)) (reached cs).tree (λ u l. sym (o.all u)),
    ) (any_order cs b o.once)

-- commits one behind the other -------------------------------------------------------------------

module _ {E : Type 0} (entry : StepAnswer → E) where
  log_append : (L : Log E) (h k : List Event) → log_after entry L (h ++ k) ≡ log_after entry (log_after entry L h) k
  unfolding log_after
  log_append L [] k = refl
  log_append L (e ∷ h) k = log_append (logged e.call (is_granted e.outcome) (map entry e.steps) L) h k

  -- t is none of b
  logs_of_others : (t : ℕ) (l : List (Operation E)) (log : ℕ → List (Operation E)) (b : List ℕ) → has t b ≡ false
      → map (with_log t l log) b ≡ map log b
  logs_of_others t l log [] n = refl
  logs_of_others t l log (u ∷ b) n = rw (or_left (eqb u t) (has t b) n, logs_of_others t l log b (or_right (eqb u t) (has t b) n))

  -- the logs of the transactions that commit are behind those of the ones that committed before
  commits_logged : (b : List ℕ) (M : State) (L : Log E) → distinct b ≡ true
      → ((e : Event) → Memᴰ e (history M (map commit b)) → is_granted e.outcome ≡ true)
      → ((log_after entry L (history M (map commit b))).initial ≡ L.initial)
      × ((log_after entry L (history M (map commit b))).committed ≡ committed_then L b)
  unfolding log_after history
  commits_logged [] M L n g = (refl, sym (append-nil L.committed))
  commits_logged (t ∷ b) M L n g =
      let k = commits_logged b (next (commit t) M).state (with_commit t L) (distinct_tail t b n) (λ e i. g e (Memᴰ.tail i)) in
      let h = history (next (commit t) M).state (map commit b) in
      let first : log_after entry L (history M (map commit (t ∷ b))) ≡ log_after entry (with_commit t L) h =
      ap (λ (x : Bool). log_after entry (cond x (with_commit t L) L) h) (g _ (Memᴰ.head refl)) in (
        ap (λ (K : Log E). K.initial) first ∙ k.0,
        ap (λ (K : Log E). K.committed) first ∙ k.1
            ∙ rw (logs_of_others t [] L.open_log b (distinct_head t b n)) (append_assoc L.committed (L.open_log t ∷ []) _),
      )

pub commit_in_any_order : (cs : List Call) → CommitInAnyOrder cs
unfolding state_after plain
commit_in_any_order cs b o g =
    let k = commits_logged (λ x. x.step) b (reached cs) (fed (since_start cs)) o.once g in
    plain_committed (cs ++ map commit b)
    ∙ rw (
      history_append start_state (start ∷ cs) (map commit b),
      log_append (λ x. x.step) _ (since_start cs) (history (reached cs) (map commit b)),
      k.0,
      k.1,
    ) (open_in_any_order cs b o).document
