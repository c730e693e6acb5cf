-- What every choice of slots and of free bytes has in common.
use Rattle.std.specs.Prelude.{◌≡◌, ◌≤◌, length}
use Rattle.std.proofs.Common.{sym, ap, ◌∙◌}
use Rattle.protocol.specs.State.{State, start_state}
use Rattle.protocol.specs.Lent.{first_lent, second_lent}
use Rattle.protocol.specs.Calls.{Call, start, load, begin, commit, abort, step, write, count_of, open_part, close_part, undo_part, next}
use Rattle.protocol.specs.Answers.{code_of, lent_after, as_it_was}
use Rattle.protocol.specs.declared.Answer.{Answer}
use Rattle.protocol.specs.declared.Answer.TheVariants.{Done}
use Rattle.table.specs.Layout.{state_size}
use Rattle.form.specs.Form.{Holds}
use Rattle.traces.specs.Exchange.{Exchange}
use Rattle.traces.specs.Contract as contract
use Rattle.traces.specs.Contract.{MakesCall, Ensured, OneAnswer, EveryChoice, EveryStart}
use Rattle.traces.proofs.Laws.Causes.{makes_one}
use Rattle.traces.proofs.Laws.Answers.{start_of}

module _ (x y : Exchange) (f : x.first.before ≡ y.first.before) (g : x.second.before ≡ y.second.before)
    (r s : Answer) (p : x.code ≡ code_of r) (q : y.code ≡ code_of s) where
  starts : contract.Start x r → contract.Start y s → state_size ≤ length x.state.before → state_size ≤ length y.state.before
      → OneAnswer x y
  starts h k m n = record {
    code = p ∙ ap code_of (h.restarted.answer m start_state (λ d. Done) ∙ sym (k.restarted.answer n start_state (λ d. Done))) ∙ sym q;
    first = h.first ∙ f ∙ sym k.first;
    second = h.second ∙ g ∙ sym k.second;
    left = (next start start_state).state;
    left_by_x = h.restarted.state m start_state;
    left_by_y = k.restarted.state n start_state;
  }

  module _ (M : State) (b : Holds x.state.before M) (d : Holds y.state.before M) where
    on_states : (c : Call) → contract.OnState x r c → contract.OnState y s c → OneAnswer x y
    on_states c h k = record {
      code = p ∙ ap code_of (h.performed.answer M b (λ d. Done) ∙ sym (k.performed.answer M d (λ d. Done))) ∙ sym q;
      first = h.first.filled M b ∙ ap (lent_after first_lent as_it_was (next c M).outcome) f ∙ sym (k.first.filled M d);
      second = h.second.filled M b ∙ ap (lent_after second_lent as_it_was (next c M).outcome) g ∙ sym (k.second.filled M d);
      left = (next c M).state;
      left_by_x = h.performed.state M b;
      left_by_y = k.performed.state M d;
    }

    writes : contract.Write x r → contract.Write y s → OneAnswer x y
    writes h k = record {
      code = p ∙ ap code_of (h.written.answer M b ∙ rw f (sym (k.written.answer M d))) ∙ sym q;
      first = h.written.text M b ∙ rw f (sym (k.written.text M d));
      second = h.second ∙ g ∙ sym k.second;
      left = M;
      left_by_x = rw h.state b;
      left_by_y = rw k.state d;
    }

    one_call : (c : Call) → Ensured x r c → Ensured y s c → OneAnswer x y
    unfolding Ensured
    one_call start h k = starts h k b.layout.size d.layout.size
    one_call write h k = writes h k
    one_call (load i) h k = on_states (load i) h k
    one_call (begin t) h k = on_states (begin t) h k
    one_call (commit t) h k = on_states (commit t) h k
    one_call (abort t) h k = on_states (abort t) h k
    one_call (step t st room) h k = on_states (step t st room) h k
    one_call (count_of n) h k = on_states (count_of n) h.on_state k.on_state
    one_call (open_part t) h k = on_states (open_part t) h k
    one_call (close_part t) h k = on_states (close_part t) h k
    one_call (undo_part t) h k = on_states (undo_part t) h k

-- both requests make the same call: load's input is what its bytes read as, in one way
pub one_answer : EveryChoice
one_answer x y M k l e b d f g =
    let m : (c : Call) × MakesCall x c = makes_one _ x.request in
    let n : MakesCall y m.0 = rw (← e, ← f, ← g) m.1 in
    one_call x y f g k.answer l.answer k.code l.code M b d m.0 (k.ensured m.0 m.1) (l.ensured m.0 n)

pub one_start : EveryStart
one_start x y k l e u m n f g = starts x y f g k.answer l.answer k.code l.code (start_of x k e) (start_of y l u) m n
