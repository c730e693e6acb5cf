-- Demand 3, for every list of calls that begins with a start.
use Rattle.std.specs.Prelude.{ℕ, ◌≡◌, refl, Bool, true, false, ◌↔◌}
use Rattle.std.proofs.Math.Path.{sym}
use Rattle.std.proofs.Common.{ap, ◌∙◌, true≢false}
use Rattle.std.proofs.lemmas.Bool.{false≢true}
use mathlib.Core.List.{List, [], ◌∷◌, ◌++◌, map, append-nil, Memᴰ}
use Rattle.tree.specs.Lists.{any}
use Rattle.tree.specs.Steps.{PlainAnswer, plain_value, unfit}
use Rattle.tree.specs.Plain.{left_of}
use Rattle.tree.specs.Laws.Tests.{refuted}
use Rattle.tree.specs.Laws.Lists.{any_at, at_any, every_at, any_same, in_map}
use Rattle.serializability.proofs.Laws.PlainRun.{follows}
use Rattle.protocol.specs.State.{State, start_state, is_transaction, transactions, held_document, document_of, committed_document}
use Rattle.protocol.specs.Calls.{Call, start, load, begin, commit, abort, step, write, count_of, open_part, close_part, undo_part, written}
use Rattle.protocol.specs.Calls.{next}
use Rattle.protocol.specs.History.{Event, history, state_after, event, fed, answered, plain, plain_run_answers, pending_in, pending}
use Rattle.serializability.specs.Theorem.{since_start, reached, values_in, writes_plain, Demand3}
use Rattle.serializability.proofs.Laws.Reached.{always_reached}
use Rattle.serializability.proofs.Laws.Tracks.{Tracks}
use Rattle.serializability.proofs.Laws.AnyOrder.{entries, reached_tracks, fed_is, any_order}
use Rattle.serializability.proofs.Laws.Pending.{steps, only, log_run, quiet_held, held_quiet}

-- a list of calls begins in one fixed state: start forgets the state before it
pub start_forgets : (M : State) (cs : List Call) → (history M (start ∷ cs) ≡ since_start cs) × (state_after M (start ∷ cs) ≡ reached cs)
unfolding history state_after next
start_forgets M cs = (refl, refl)

-- demand 3 -------------------------------------------------------------------------------------

abbrev is_unfit : PlainAnswer → Bool
is_unfit (plain_value v) = false
is_unfit unfit = true

module _ (cs : List Call) where
  abbrev tr : Tracks (entries cs) (reached cs)
  tr = reached_tracks cs

  abbrev h : List Event
  h = since_start cs

  -- the committed transactions, and none behind them
  pub plain_committed : committed_document (reached cs) ≡ plain h
  unfolding plain
  plain_committed = sym (rw (append-nil (fed h).committed) at (any_order cs [] refl).document)

  plain_same_answers : plain_run_answers h ≡ map plain_value (values_in (answered h).committed)
  unfolding plain_run_answers
  plain_same_answers = rw (append-nil (fed h).committed, append-nil (answered h).committed) at (any_order cs [] refl).answers

  none_unfit : Memᴰ unfit (plain_run_answers h) → ⊥
  none_unfit i = true≢false (ap is_unfit (in_map plain_value (values_in (answered h).committed) (rw plain_same_answers at i)).2)

  -- pending, by the marks
  abbrev pending_of : ℕ → Bool
  pending_of t = pending_in (committed_document (reached cs)) (steps ((entries cs).open_log t))
      (document_of (only t) (reached cs).tree)

  pending_is : pending h ≡ any pending_of transactions
  unfolding pending
  pending_is = any_same _ _ transactions (λ t i. one t)
    where
      one : (t : ℕ) → pending_in (plain h) ((fed h).open_log t) (left_of (plain h) ((fed h).open_log t)).document ≡ pending_of t
      one t = rw (
        fed_is cs,
        ← plain_committed,
        (follows (committed_document (reached cs)) ((entries cs).open_log t) _
            (log_run tr.c (entries cs).open_log (reached cs) tr.good tr.depths t)).document,
      )

  held_plain : (held_document (reached cs) ≡ plain h) ↔ (pending h ≡ false)
  held_plain = (forth, back)
    where
      forth : held_document (reached cs) ≡ plain h → pending h ≡ false
      forth e = rw pending_is (refuted _ (λ p.
          let a = any_at pending_of transactions p in
          true≢false (sym a.2 ∙ held_quiet tr.c (entries cs).open_log (reached cs) tr.good tr.depths
          (e ∙ sym plain_committed) a.0
          (λ z. false≢true (rw z at (every_at is_transaction transactions refl a.1))))))

      back : pending h ≡ false → held_document (reached cs) ≡ plain h
      back e = quiet_held tr.c (entries cs).open_log (reached cs) tr.good tr.depths
          (λ t i. refuted _ (λ p. true≢false (sym (at_any pending_of transactions i p) ∙ (sym pending_is ∙ e)))) ∙ plain_committed

-- writes ---------------------------------------------------------------------------------------

pub history_append : (M : State) (a b : List Call) → history M (a ++ b) ≡ history M a ++ history (state_after M a) b
unfolding history state_after
history_append M [] b = refl
history_append M (c ∷ a) b = rw (history_append (next c M).state a b)

state_append : (M : State) (a b : List Call) → state_after M (a ++ b) ≡ state_after (state_after M a) b
unfolding state_after
state_append M [] b = refl
state_append M (c ∷ a) b = state_append (next c M).state a b

pub further : (before : List Call) (c : Call) → reached (before ++ (c ∷ [])) ≡ (next c (reached before)).state
unfolding state_after
further before c = state_append start_state (start ∷ before) (c ∷ [])

write_gives : (cs : List Call) (c : Call) → c ≡ write → (next c (reached cs)).outcome ≡ written (plain (since_start cs))
unfolding next
write_gives cs c e = ap (λ (x : Call). (next x (reached cs)).outcome) e ∙ ap written (plain_committed cs)

-- behind the calls `before`
writes_from : (before cs : List Call) → writes_plain (since_start before) (history (reached before) cs)
unfolding history state_after
writes_from before [] = tt
writes_from before (c ∷ cs) = (write_gives before c, next_event (writes_from (before ++ (c ∷ [])) cs))
  where
    e : Event
    e = event c (reached before)

    longer : since_start (before ++ (c ∷ [])) ≡ since_start before ++ (e ∷ [])
    longer = history_append start_state (start ∷ before) (c ∷ [])

    next_event : writes_plain (since_start (before ++ (c ∷ []))) (history (reached (before ++ (c ∷ []))) cs)
        → writes_plain (since_start before ++ (e ∷ [])) (history (next c (reached before)).state cs)
    next_event w = rw (longer, further before c) at w

unfoldable pub is_write : Call → Bool
is_write start = false
is_write (load i) = false
is_write (begin t) = false
is_write (commit t) = false
is_write (abort t) = false
is_write (step t s room) = false
is_write write = true
is_write (count_of n) = false
is_write (open_part t) = false
is_write (close_part t) = false
is_write (undo_part t) = false

all_writes : (cs : List Call) → writes_plain [] (since_start cs)
unfolding history is_write state_after
all_writes cs = (λ e. absurd (false≢true (ap is_write e)), writes_from [] cs)

pub demand_3 : (cs : List Call) → Demand3 cs
demand_3 cs = record {
  held_plain = held_plain cs;
  answers = plain_same_answers cs;
  none_unfit = none_unfit cs;
  committed = plain_committed cs;
  aborted = (always_reached cs).committed_if_aborted ∙ plain_committed cs;
  writes = all_writes cs;
}
