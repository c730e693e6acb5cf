-- Demands 1 and 2 on one call.
use Rattle.std.specs.Prelude.{ℕ, ◌≡◌, Bool, true, false, not, ◌&&◌}
use Rattle.std.proofs.Math.Path.{refl, ap}
use Rattle.std.proofs.Common.{sym, ◌∙◌, true≢false}
use mathlib.Core.List.Memᴰ
use mathlib.Core.List.{List, [], ◌∷◌, Memᴰ}
use Rattle.std.proofs.Math.Dec.{eqb}
use borrow.Author.Tests.{eqb-false, not-true}
use Rattle.tree.specs.Lists.{keep}
use Rattle.tree.specs.Laws.Tests.{and_left, and_right}
use Rattle.tree.specs.Laws.Lists.{every_at}
use Rattle.tree.specs.Steps.{Step, Value, done, answer}
use Rattle.locks.specs.Needs.{needs}
use Rattle.protocol.specs.State.{State, is_transaction, transactions, callers_document}
use Rattle.protocol.specs.Lent.{Room}
use Rattle.protocol.specs.Causes.{not_a_transaction, not_open, no_such_node, deadlock}
use Rattle.protocol.specs.Rings.{in_ring}
use Rattle.protocol.specs.Calls.{Call, start, load, begin, commit, abort, step, write, count_of, open_part, close_part, undo_part, Outcome}
use Rattle.protocol.specs.Calls.{granted, written, waits, refused, refused_at, held_back, Check, blocks, wait_set, closes_ring, step_checks}
use Rattle.protocol.specs.Calls.{commit_limit, commits_reached, judged, next}
use Rattle.protocol.specs.History.{is_granted}
use Rattle.serializability.specs.Theorem.{left_by, NotGranted, StepGranted, CommitOutcome, Waiting, NoClashNoWait, FoundNotSeven}
use Rattle.serializability.specs.Theorem.{DeadlockOnly}
use Rattle.serializability.proofs.Laws.Tests.{by_test}
use Rattle.serializability.proofs.Laws.Outcomes.{checked_cases, checked_by, held_back_outcome, every_call}
use Rattle.serializability.proofs.Laws.WaitSet.{sum_bit, sum_bound, sum_none}
use Rattle.serializability.proofs.Laws.Rings.{found_path}

-- demand 1 -------------------------------------------------------------------------------

-- a refusal changes nothing
refusal_leaves : (c : Call) (n : ℕ) (M : State) → M ≡ left_by c (refused n) M
refusal_leaves start n M = refl
refusal_leaves (load i) n M = refl
refusal_leaves (begin t) n M = refl
refusal_leaves (commit t) n M = refl
refusal_leaves (abort t) n M = refl
refusal_leaves (step t s room) n M = refl
refusal_leaves write n M = refl
refusal_leaves (count_of m) n M = refl
refusal_leaves (open_part t) n M = refl
refusal_leaves (close_part t) n M = refl
refusal_leaves (undo_part t) n M = refl

pub not_granted : NotGranted
not_granted c M = every_call (λ x n. is_granted n.outcome ≡ false → (n.steps ≡ []) × (n.state ≡ left_by x n.outcome M)) M (record {
  refusal = λ x n i h. (refl, refusal_leaves x n M);
  at_start = λ h. absurd (true≢false h);
  at_unread = λ x i h. (refl, refl);
  at_load = λ d l o h. absurd (true≢false h);
  at_begin = λ t i o h. absurd (true≢false h);
  at_commit = λ t i o l h. absurd (true≢false h);
  at_abort = λ t i o h. absurd (true≢false h);
  at_wait = λ t s room i o e z h. (refl, rw z);
  at_step = λ t s room i o p h. absurd (true≢false h);
  at_write = λ h. (refl, refl);
  at_count = λ n i h. absurd (true≢false h);
  at_open_part = λ t i o l h. absurd (true≢false h);
  at_close_part = λ t i o l h. absurd (true≢false h);
  at_undo_part = λ t i o l h. absurd (true≢false h);
}) c

-- demand 2 -------------------------------------------------------------------------------

-- an outcome by numbers: 1 and the set of a wait, 2 and the cause of a refusal
by_numbers : Outcome → ℕ × ℕ
by_numbers (granted v) = (0, 0)
by_numbers (written d) = (0, 0)
by_numbers (waits w) = (1, w)
by_numbers (refused c) = (2, c)
by_numbers (refused_at c o) = (3, c)

module _ (t : ℕ) (s : Step) (room : Room) (M : State) where
  abbrev set : ℕ
  set = wait_set t (needs s (callers_document t M.tree)) M

  -- all checks of a step call, one list: 1 and 3 refuse, and a refusal changes nothing
  abbrev checks : List Check
  checks = (refused not_a_transaction, not (is_transaction t)) ∷ (refused not_open, not (M.header.is_open t))
      ∷ step_checks t s room M (callers_document t M.tree)

  checked_outcome : (p : Outcome → Bool) → p (granted (answer s (callers_document t M.tree))) ≡ false
      → p (next (step t s room) M).outcome ≡ true
      → (c : Check) × Memᴰ c (keep (λ x. p x.0) checks) × (c.1 ≡ true) × ((next (step t s room) M).outcome ≡ c.0)
  unfolding next judged
  checked_outcome p = checked_by p (held_back t M) (held_back_outcome t M) checks _

  wait_facts : (w : ℕ) → (next (step t s room) M).outcome ≡ waits w → (w ≡ set) × (eqb w 0 ≡ false)
  unfolding by_numbers keep
  wait_facts w e =
      let x = checked_outcome (λ o. eqb (by_numbers o).0 1) refl (ap (λ o. eqb (by_numbers o).0 1) e) in
      let c = Memᴰ.eq_of_singleton x.1 in
      let i : w ≡ set = ap (λ o. (by_numbers o).1) (sym e ∙ x.3 ∙ ap (λ (z : Check). z.0) c) in
      (i, ap (λ z. eqb z 0) i ∙ not-true _ (sym (ap (λ (z : Check). z.1) c) ∙ x.2))

pub commit_outcome : CommitOutcome
unfolding next
commit_outcome t M h o = rw (h, o) (by_test (commits_reached commit_limit M) (λ e. rw e) (λ e. rw e))

-- the answer of a granted call
value_of : Outcome → Value
value_of (granted v) = v
value_of (written d) = done
value_of (waits w) = done
value_of (refused c) = done
value_of (refused_at c o) = done

pub step_granted : StepGranted
unfolding next judged value_of
step_granted t s room M v =
    checked_cases (λ n. n.outcome ≡ granted v → n.steps ≡ record { step = s; value = v } ∷ []) (held_back t M) (checks t s room M) _
    (λ c i e h. absurd (true≢false (sym (every_at (λ (x : Check). not (is_granted x.0)) (checks t s room M) refl i)
    ∙ ap (λ o. not (is_granted o)) (sym (held_back_outcome t M c.0) ∙ h))))
    (λ p h. ap (λ o. record { step = s; value = value_of o } ∷ []) h)

pub waiting : Waiting
unfolding wait_set
waiting t s room M w e =
    let x = wait_facts t s room M w e in
    let q : ℕ → Bool = blocks t (needs s (callers_document t M.tree)) M in
    record { not_empty = eqb-false w 0 x.1; sixteen = rw x.0 (sum_bound q); bits = λ u h. rw x.0 (sum_bit q u h) }

pub no_clash_no_wait : NoClashNoWait
unfolding wait_set
no_clash_no_wait t s room M h w e =
    let x = wait_facts t s room M w e in
    let q : ℕ → Bool = blocks t (needs s (callers_document t M.tree)) M in
    eqb-false w 0 x.1 (x.0 ∙ sum_none q transactions (λ u i. h u (every_at is_transaction transactions refl i)))

pub found_not_7 : FoundNotSeven
unfolding by_numbers keep
found_not_7 t s room M h e =
    let is_7 : Outcome → Bool = λ o. eqb (by_numbers o).0 2 && eqb (by_numbers o).1 no_such_node in
    let x = checked_outcome t s room M is_7 refl (ap is_7 e) in
    true≢false (sym x.2 ∙ ap (λ (z : Check). z.1) (Memᴰ.eq_of_singleton x.1) ∙ ap not h)

-- A.6
pub deadlock_only : DeadlockOnly
unfolding by_numbers keep in_ring
deadlock_only t s room M e =
    let is_17 : Outcome → Bool = λ o. eqb (by_numbers o).0 2 && eqb (by_numbers o).1 deadlock in
    let x = checked_outcome t s room M is_17 refl (ap is_17 e) in
    let w = set t s room M in
    let c : closes_ring t w M ≡ true = sym (ap (λ (z : Check). z.1) (Memᴰ.eq_of_singleton x.1)) ∙ x.2 in
    record {
      would_wait = eqb-false w 0 (not-true _ (and_left (not (eqb w 0)) _ c));
      ring = found_path _ 16 t t (and_right (not (eqb w 0)) _ c);
    }

-- no step is refused at an offset
pub step_not_at : (t : ℕ) (s : Step) (room : Room) (M : State) (c i : ℕ) → (next (step t s room) M).outcome ≡ refused_at c i → ⊥
unfolding by_numbers keep
step_not_at t s room M c i e =
    Memᴰ.not-nil (checked_outcome t s room M (λ o. eqb (by_numbers o).0 3) refl (ap (λ o. eqb (by_numbers o).0 3) e)).1
