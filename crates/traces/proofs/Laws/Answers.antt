-- One call is by the definitions, from its contract: in every state that bytes hold, reached by calls or not.
use Rattle.std.specs.Prelude.{◌≡◌, refl, ℕ, ◌≤◌, List, length}
use Rattle.std.proofs.Math.Path.{ap}
use Rattle.std.proofs.Common.{◌∙◌, arith}
use Rattle.tree.specs.Document.{Document}
use Rattle.protocol.specs.State.{State, start_state, committed_document}
use Rattle.protocol.specs.Lent.{first_lent, second_lent}
use Rattle.protocol.specs.Calls.{Call, start, load, begin, commit, abort, step, write, count_of, open_part, close_part, undo_part, next}
use Rattle.protocol.specs.Calls.{Outcome, granted, written, waits, refused, refused_at}
use Rattle.protocol.specs.Answers.{code_of, answer_of, lent_after, as_it_was}
use Rattle.protocol.specs.declared.Answer.{Answer}
use Rattle.table.specs.Layout.{state_size}
use Rattle.form.specs.Form.{Holds}
use Rattle.xml_write.specs.Contract.{write_answer, write_buffer}
use Rattle.traces.specs.Exchange.{Request, Exchange}
use Rattle.traces.specs.Contract as contract
use Rattle.traces.specs.Contract.{makes_start, Ensured, Contract}
use Rattle.traces.specs.Theorem.{ByDefinition, Answers}
use Rattle.traces.proofs.Laws.Codes.{not_written}

-- a call is start, write, or one on a state
pub ensured_cases : (x : Exchange) (r : Answer) (P : Call → Type 0) → (contract.Start x r → P start) → (contract.Write x r → P write)
    → ((c : Call) → contract.OnState x r c → P c) → (c : Call) → Ensured x r c → P c
unfolding Ensured
ensured_cases x r P f g h start e = f e
ensured_cases x r P f g h write e = g e
ensured_cases x r P f g h (load i) e = h (load i) e
ensured_cases x r P f g h (begin t) e = h (begin t) e
ensured_cases x r P f g h (commit t) e = h (commit t) e
ensured_cases x r P f g h (abort t) e = h (abort t) e
ensured_cases x r P f g h (step t s room) e = h (step t s room) e
ensured_cases x r P f g h (count_of n) e = h (count_of n) e.on_state
ensured_cases x r P f g h (open_part t) e = h (open_part t) e
ensured_cases x r P f g h (close_part t) e = h (close_part t) e
ensured_cases x r P f g h (undo_part t) e = h (undo_part t) e

-- where nothing is written
same_first : (text : List ℕ → Document → List ℕ) (r : Answer) (o : Outcome) (b : List ℕ) → ((w : Document → Answer) → r ≡ answer_of w o)
    → lent_after first_lent as_it_was o b ≡ lent_after first_lent text o b
unfolding lent_after
same_first text r (granted v) b h = refl
same_first text r (written d) b h = absurd (not_written r d h)
same_first text r (waits w) b h = refl
same_first text r (refused c) b h = refl
same_first text r (refused_at c i) b h = refl

-- w says what writing a document answers, and text what it leaves in its buffer
module _ (w : ℕ → Document → Answer) (text : List ℕ → Document → List ℕ) (M : State)
    (x : Exchange) (r : Answer) (e : x.code ≡ code_of r) where
  abbrev pub Writes : Type 0
  Writes = (r ≡ w (length x.first.before) (committed_document M))
      × (x.first.after ≡ text x.first.before (committed_document M))

  start_by : contract.Start x r → state_size ≤ length x.state.before → ByDefinition w text M x start
  unfolding next lent_after first_lent second_lent
  start_by h l = record {
    code = e ∙ ap code_of (h.restarted.answer l M (w (length x.first.before)));
    first = h.first;
    second = h.second;
    left = h.restarted.state l M;
  }

  module _ (b : Holds x.state.before M) where
    step_by : (c : Call) → contract.OnState x r c → ByDefinition w text M x c
    step_by c h = record {
      code = e ∙ ap code_of (h.performed.answer M b (w (length x.first.before)));
      first = h.first.filled M b ∙ same_first text r (next c M).outcome x.first.before (h.performed.answer M b);
      second = h.second.filled M b;
      left = h.performed.state M b;
    }

    write_by : contract.Write x r → Writes → ByDefinition w text M x write
    unfolding next lent_after answer_of
    write_by h g = record { code = e ∙ ap code_of g.0; first = g.1; second = h.second; left = rw h.state b }

    pub ensured_by : (contract.Write x r → Writes) → (c : Call) → Ensured x r c → ByDefinition w text M x c
    ensured_by g = ensured_cases x r (ByDefinition w text M x) (λ h. start_by h b.layout.size) (λ h. write_by h (g h)) step_by

-- the contract of a start
pub start_of : (x : Exchange) (k : Contract x) → x.request ≡ Request.start → contract.Start x k.answer
unfolding Ensured
start_of x k q = k.ensured start (rw q makes_start)

pub answers_of : (x : Exchange) → Contract x → Answers x
answers_of x k = record {
  on_states = λ M c b m.
      ensured_by write_answer write_buffer M x k.answer k.code b
      (λ h. (h.written.answer M b, h.written.text M b)) c (k.ensured c m);
  starts = λ q l. start_by write_answer write_buffer start_state x k.answer k.code (start_of x k q) (omega arith);
}
