-- The remembered sets are those that the answers tell.
use Rattle.std.specs.Prelude.{◌≡◌, refl, false, List, [], ◌∷◌}
use Rattle.std.proofs.Common.{ap, ◌∙◌}
use Rattle.protocol.specs.State.{State, WaitSets, start_state}
use Rattle.protocol.specs.Calls.{Call, start, load, begin, commit, abort, step, write, count_of, open_part, close_part, undo_part, Next}
use Rattle.protocol.specs.Calls.{next}
use Rattle.protocol.specs.History.{history, state_after, is_granted, waited_for, sets_left, sets_after}
use Rattle.serializability.specs.Theorem.{AsTold}
use Rattle.serializability.proofs.Laws.Outcomes.{every_call}

-- a refusal leaves the sets
refused_left : (c : Call) (r : WaitSets) → r ≡ sets_left c false 0 r
refused_left start r = refl
refused_left (load i) r = refl
refused_left (begin t) r = refl
refused_left (commit t) r = refl
refused_left (abort t) r = refl
refused_left (step t s room) r = refl
refused_left write r = refl
refused_left (count_of n) r = refl
refused_left (open_part t) r = refl
refused_left (close_part t) r = refl
refused_left (undo_part t) r = refl

-- one call
abbrev SetsLeft : WaitSets → Call → Next → Type 0
SetsLeft r c n = n.state.header.remembered ≡ sets_left c (is_granted n.outcome) (waited_for n.outcome) r

sets_next : (c : Call) (M : State) → SetsLeft M.header.remembered c (next c M)
sets_next c M = every_call (SetsLeft M.header.remembered) M (record {
  refusal = λ c cause h. refused_left c M.header.remembered;
  at_start = refl;
  at_unread = λ c i. refl;
  at_load = λ d h o. refl;
  at_begin = λ t i o. refl;
  at_commit = λ t i o l. refl;
  at_abort = λ t i o. refl;
  at_wait = λ t s room i o r z. rw z;
  at_step = λ t s room i o p. refl;
  at_write = refl;
  at_count = λ n h. refl;
  at_open_part = λ t i o l. refl;
  at_close_part = λ t i o l. refl;
  at_undo_part = λ t i o l. refl;
}) c

-- lists of calls
sets_reached : (M : State) (cs : List Call) → (state_after M cs).header.remembered ≡ sets_after M.header.remembered (history M cs)
unfolding state_after history sets_after
sets_reached M [] = refl
sets_reached M (c ∷ cs) =
    sets_reached (next c M).state cs ∙ ap (λ (r : WaitSets). sets_after r (history (next c M).state cs)) (sets_next c M)

pub as_told : AsTold
as_told cs = sets_reached start_state (start ∷ cs)
