-- "State bytes that are too short, or not of the form .., give 13 before all else": begin with 0, which no transaction has as its number.
use Rattle.std.specs.Prelude.{ℕ, ◌≡◌, refl, List, []}
use Rattle.protocol.specs.State.{State}
use Rattle.protocol.specs.Calls.{begin, next}
use Rattle.protocol.specs.Answers.{answer_of}
use Rattle.protocol.specs.declared.Answer.{Answer}
use Rattle.protocol.specs.declared.Answer.TheVariants.{Done, Refused}
use Rattle.form.specs.Form.{form, Holds}
use Rattle.engine.specs.Contract.{Performed}

-- on no bytes it gives 13
pub state_first : {s' : List ℕ} {r : Answer} → Performed [] s' r (begin 0) → r ≡ Refused 13
unfolding form
state_first p = (p.unformed refl).0

-- on bytes that hold a state it gives 1
pub number_next : {s s' : List ℕ} {r : Answer} {M : State} → Performed s s' r (begin 0) → Holds s M → r ≡ Refused 1
unfolding next answer_of
number_next {M = M} p h = p.answer M h (λ d. Done)
