-- The remembered sets are those that the codes tell.
use Rattle.std.specs.Prelude.{◌≡◌, refl, ℕ, Bool, false, List, [], ◌∷◌, ◌++◌}
use Rattle.std.proofs.Common.{sym, ◌∙◌}
use Rattle.protocol.specs.State.{State, WaitSets}
use Rattle.protocol.specs.Calls.{Call, start, load, begin, commit, abort, step, write, count_of, open_part, close_part, undo_part, next}
use Rattle.protocol.specs.History.{history, state_after, is_granted, waited_for, sets_left, sets_after}
use Rattle.serializability.specs.Theorem.{reached}
use Rattle.serializability.proofs.Laws.Main.{is_write, further}
use Rattle.serializability.proofs.Laws.Remembered.{as_told}
use Rattle.serializability.proofs.Laws.Deadlock.{no_deadlock}
use Rattle.traces.specs.Exchange.{Exchange, outcome, told_granted, told_set}
use Rattle.traces.specs.Theorem.{Demand2, Each, sets_by_codes, Remembered}
use Rattle.traces.proofs.Laws.Logs.{InReached, same_told}

-- a write leaves the sets, whatever its code
same_sets : (c : Call) (g h : Bool) (w v : ℕ) (r : WaitSets) → (is_write c ≡ false → (g ≡ h) × (w ≡ v))
    → sets_left c g w r ≡ sets_left c h v r
unfolding is_write
same_sets start g h w v r e = rw (e refl).0
same_sets (load i) g h w v r e = refl
same_sets (begin t) g h w v r e = refl
same_sets (commit t) g h w v r e = rw (e refl).0
same_sets (abort t) g h w v r e = rw (e refl).0
same_sets (step t s room) g h w v r e = rw ((e refl).0, (e refl).1)
same_sets write g h w v r e = refl
same_sets (count_of n) g h w v r e = refl
same_sets (open_part t) g h w v r e = refl
same_sets (close_part t) g h w v r e = refl
same_sets (undo_part t) g h w v r e = refl

-- one call
sets_told : (M : State) (x : Exchange) (c : Call) → Demand2 M x c → (r : WaitSets)
    → sets_left c (told_granted x.code) (told_set x.code) r
    ≡ sets_left c (is_granted (next c M).outcome) (waited_for (next c M).outcome) r
sets_told M x c d r = same_sets c _ _ _ _ r (λ w. (same_told M x c d w, d.as_waiting))

-- lists of calls
all_sets_told : (before : List Call) (xs : List Exchange) (cs : List Call) → Each InReached before xs cs → (r : WaitSets)
    → sets_by_codes r xs cs ≡ sets_after r (history (reached before) cs)
unfolding sets_by_codes sets_after history
all_sets_told before [] [] h r = refl
all_sets_told before [] (c ∷ cs) h r = absurd h
all_sets_told before (x ∷ xs) [] h r = absurd h
all_sets_told before (x ∷ xs) (c ∷ cs) h r =
    let M = reached before in
    let r' = sets_left c (is_granted (next c M).outcome) (waited_for (next c M).outcome) r in
    rw (sets_told M x c h.0 r) (rw (further before c) at (all_sets_told (before ++ (c ∷ [])) xs cs h.1 r'))

-- x is the granted start
pub waiting_told : (x : Exchange) (xs : List Exchange) (cs : List Call) → outcome x.code ≡ 0 → Each InReached [] xs cs
    → Remembered (sets_by_codes (λ t u. false) (x ∷ xs) (start ∷ cs)) (reached cs)
unfolding sets_by_codes sets_after history next state_after
waiting_told x xs cs g h = record {
  told = as_told cs ∙ rw g (sym (all_sets_told [] xs cs h (λ t u. false)));
  no_deadlock = no_deadlock cs;
}
