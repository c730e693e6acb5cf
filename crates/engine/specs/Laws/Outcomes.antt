-- Two of the ways in which a call ends: it leaves everything as it was, or it is granted. A wait is in Waiting.antt.
use Rattle.std.specs.Prelude.{◌≡◌, refl, ℕ, Bool, true, false, List, length, drop}
use Rattle.std.proofs.Common.{sym, ap, ◌∙◌}
use Rattle.std.proofs.lemmas.Bool.{false≢true}
use Rattle.tree.specs.Document.{Document}
use Rattle.tree.specs.Steps.{Value}
use Rattle.protocol.specs.State.{State}
use Rattle.protocol.specs.Lent.{filled}
use Rattle.protocol.specs.Calls.{Call, Outcome, granted, written, waits, refused, refused_at, unchanged, next}
use Rattle.protocol.specs.Answers.{answer_of, granted_answer, lent_after, as_it_was}
use Rattle.protocol.specs.History.{is_granted}
use Rattle.protocol.specs.declared.Answer.{Answer}
use Rattle.protocol.specs.declared.Answer.TheVariants.{Refused}
use Rattle.table.specs.Layout.{state_size}
use Rattle.form.specs.Form.{form, Holds}
use Rattle.form.specs.Laws.Holds.{holds_form}
use Rattle.engine.specs.Contract.{Performed, Lent}
use Rattle.engine.specs.Judgement.{Stopped}

pub not_both : {X : Type 0} {b : Bool} → b ≡ true → b ≡ false → X
not_both p q = absurd (false≢true (sym q ∙ p))

lent_quiet : (lent : Value → List ℕ) (o : Outcome) (b : List ℕ) → is_granted o ≡ false → b ≡ lent_after lent as_it_was o b
unfolding lent_after
lent_quiet lent (granted v) b h = absurd (false≢true (sym h))
lent_quiet lent (written d) b h = absurd (false≢true (sym h))
lent_quiet lent (waits w) b h = refl
lent_quiet lent (refused c) b h = refl
lent_quiet lent (refused_at c o) b h = refl

-- a refusal: the definition leaves the state as it was; where the bytes are not of the form the answer is 13
pub stopped_stays : {s : List ℕ} {o : Outcome} {call : Call} {r : Answer} → (form s ≡ false → r ≡ Refused 13)
    → ((M : State) → Holds s M → next call M ≡ unchanged o M)
    → is_granted o ≡ false
    → ((writing : Document → Answer) → r ≡ answer_of writing o)
    → Stopped s s r call
stopped_stays {o = o} u n q e = record {
  performed = record {
    unformed = λ x. (u x, refl);
    answer = λ M h writing. rw (n M h) (e writing);
    state = λ M h. rw (n M h) h;
    still = λ M h x. refl;
    long = refl;
    behind = refl;
  };
  lent = λ lent b. record { unformed = λ x. refl; filled = λ M h. rw (n M h) (lent_quiet lent o b q) };
}

-- bytes of the form
pub record Stays (s : List ℕ) (o : Outcome) (call : Call) : Type 0 where
  pub formed : form s ≡ true
  pub next : (M : State) → Holds s M → next call M ≡ unchanged o M
  pub quiet : is_granted o ≡ false

pub performed_stays : {s : List ℕ} {o : Outcome} {call : Call} → Stays s o call → (r : Answer)
    → ((writing : Document → Answer) → r ≡ answer_of writing o)
    → Performed s s r call
performed_stays c r e = (stopped_stays (λ x. not_both c.formed x) c.next c.quiet e).performed

-- bytes that are not of the form: 13
pub performed_unformed : {s : List ℕ} → form s ≡ false → (call : Call) → Performed s s (Refused 13) call
performed_unformed u call = record {
  unformed = λ x. (refl, refl);
  answer = λ M h writing. not_both (holds_form h) u;
  state = λ M h. not_both (holds_form h) u;
  still = λ M h x. refl;
  long = refl;
  behind = refl;
}

-- granted: the bytes left hold the definition's next state
pub record Grants (s s' : List ℕ) (v : Value) (call : Call) : Type 0 where
  pub formed : form s ≡ true
  pub outcome : (M : State) → Holds s M → (next call M).outcome ≡ granted v
  pub state : (M : State) → Holds s M → Holds s' (next call M).state
  pub long : length s' ≡ length s
  pub behind : drop state_size s' ≡ drop state_size s

module _ {s s' : List ℕ} {v : Value} {call : Call} (c : Grants s s' v call) where
  pub performed_grants : (r : Answer) → r ≡ granted_answer v → Performed s s' r call
  unfolding answer_of
  performed_grants r e = record {
    unformed = λ x. not_both c.formed x;
    answer = λ M h writing. rw (c.outcome M h) e;
    state = c.state;
    still = λ M h x. absurd (false≢true (sym (ap is_granted (sym (c.outcome M h)) ∙ x)));
    long = c.long;
    behind = c.behind;
  }

  pub lent_grants : (lent : Value → List ℕ) (b b' : List ℕ) → b' ≡ filled (lent v) b → Lent lent s b b' call
  unfolding lent_after
  lent_grants lent b b' e = record { unformed = λ x. not_both c.formed x; filled = λ M h. rw (c.outcome M h) e }
