-- Bytes that are no state: 13 before all else. A granted start, and every call on bytes of the form, leaves bytes of the form.
use Rattle.std.specs.Prelude.{◌≡◌, refl, ℕ, ◌≤◌, ◌<◌, Bool, true, false, List, length, leb}
use Rattle.std.proofs.Common.{ap, ◌∙◌, arith, leb-true, leb-false}
use Rattle.protocol.specs.Lent.{Room}
use Rattle.protocol.specs.Calls.{Call, start, next}
use Rattle.protocol.specs.Answers.{code_of, answer_of, granted_answer}
use Rattle.protocol.specs.declared.Answer.{Answer}
use Rattle.protocol.specs.declared.Answer.TheVariants.{Refused}
use Rattle.table.specs.Layout.{state_size}
use Rattle.form.specs.Form.{form}
use Rattle.form.specs.Laws.Holds.{form_layout, form_holds, holds_form}
use Rattle.traces.specs.Exchange.{Request, Exchange, outcome}
use Rattle.traces.specs.Contract.{Makes, makes_start, MakesCall, Ensured, Contract}
use Rattle.traces.specs.Theorem.{StateBytes}
use Rattle.traces.proofs.Laws.Causes.{makes_one}
use Rattle.traces.proofs.Laws.Answers.{ensured_cases, start_of, answers_of}

-- bytes that are too short are not of the form
short_form : (s : List ℕ) → length s < state_size → form s ≡ false
short_form s h = go (form s) refl
  where
    go : (f : Bool) → form s ≡ f → f ≡ false
    go true e = let l = (form_layout e).size in absurd (omega arith)
    go false e = refl

only_start : {room : Room} {q : Request} → Makes room q start → q ≡ Request.start
only_start makes_start = refl

module _ (x : Exchange) (r : Answer) where
  unformed_answer : (c : Call) → MakesCall x c → Ensured x r c → form x.state.before ≡ false → (x.request ≡ Request.start → ⊥)
      → r ≡ Refused 13
  unformed_answer c m h f n =
      ensured_cases x r (λ c. MakesCall x c → r ≡ Refused 13) (λ h m. absurd (n (only_start m))) (λ h m. (h.written.unformed f).0)
      (λ c h m. (h.performed.unformed f).0) c h m

  short_answer : (c : Call) → Ensured x r c → length x.state.before < state_size → r ≡ Refused 13
  short_answer c h l =
      let f = short_form x.state.before l in
      ensured_cases x r (λ c. r ≡ Refused 13) (λ h. (h.restarted.short l).0) (λ h. (h.written.unformed f).0)
      (λ c h. (h.performed.unformed f).0) c h

-- a granted start was lent bytes enough
pub granted_size : (x : Exchange) → Contract x → x.request ≡ Request.start → outcome x.code ≡ 0 → state_size ≤ length x.state.before
unfolding code_of
granted_size x k q g = go (leb state_size (length x.state.before)) refl
  where
    go : (f : Bool) → leb state_size (length x.state.before) ≡ f → state_size ≤ length x.state.before
    go true f = leb-true state_size (length x.state.before) f
    go false f =
        let u = (start_of x k q).restarted.short (leb-false state_size (length x.state.before) f) in
        let c : x.code ≡ 3330 = k.code ∙ ap code_of u.0 in
        absurd (omega (arith, g))

pub state_bytes : (x : Exchange) → Contract x → StateBytes x
unfolding code_of next answer_of granted_answer
state_bytes x k = record {
  short = λ l. k.code ∙ ap code_of (short_answer x k.answer m.0 (k.ensured m.0 m.1) l);
  unformed = λ f n. k.code ∙ ap code_of (unformed_answer x k.answer m.0 m.1 (k.ensured m.0 m.1) f n);
  enough = λ q l. ap outcome ((answers_of x k).starts q (omega arith)).code;
  begun = λ q g. holds_form ((answers_of x k).starts q (granted_size x k q g)).left;
  kept = λ f. let M = form_holds x.state.before f in holds_form ((answers_of x k).on_states M.0 m.0 M.1 m.1).left;
}
  where
    m : (c : Call) × MakesCall x c
    m = makes_one _ x.request
