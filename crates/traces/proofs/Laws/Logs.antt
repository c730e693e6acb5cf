-- Demand 3 and A.14 of the numbers and the bytes: the log by the codes is the one that feeds the plain run, and its exchanges had these
-- answers.
use Rattle.std.specs.Prelude.{◌≡◌, ℕ, Bool, true, false, cond, ◌↔◌, length}
use Rattle.std.proofs.Math.Path.{refl, ap}
use Rattle.std.proofs.Common.{sym, subst, ◌∙◌, eqb-true, eq-eqb}
use Rattle.std.proofs.Math.Bool.{false≢true}
use mathlib.Core.List.{List, [], ◌∷◌, ◌++◌, map, append-nil}
use Rattle.tree.specs.Document.{Document, node_0_alone}
use Rattle.tree.specs.Lists.{joined}
use Rattle.tree.specs.Steps.{Step, Value, PlainAnswer, plain_value}
use Rattle.tree.specs.Plain.{Operation, does, opens, closes, undoes, steps_in, told, plain_answers}
use Rattle.tree.specs.Laws.Tests.{refuted}
use Rattle.tree.specs.Laws.Lists.{map_map, map_append}
use Rattle.protocol.specs.State.{State}
use Rattle.protocol.specs.Lent.{first_lent, second_lent}
use Rattle.protocol.specs.Calls.{Call, start, load, begin, commit, abort, step, write, count_of, open_part, close_part, undo_part}
use Rattle.protocol.specs.Calls.{unreadable, stands_for, Outcome, waits, refused, StepAnswer, Next, next}
use Rattle.protocol.specs.History.{history, state_after, is_granted, Log, new_log, committed_then, logged, log_after, fed, answered}
use Rattle.protocol.specs.Answers.{code_of, answer_of, lent_after, as_it_was}
use Rattle.xml_write.specs.Contract.{writing, text_after}
use Rattle.serializability.specs.Theorem.{since_start, reached, operations_of, answers_of, Runs}
use Rattle.serializability.proofs.Laws.Outcomes.{every_call}
use Rattle.serializability.proofs.Laws.Levels.{steps_told}
use Rattle.serializability.proofs.Laws.Logs.{read_off, logged_read, committed_read}
use Rattle.serializability.proofs.Laws.AnyOrder.{any_order}
use Rattle.serializability.proofs.Laws.Main.{is_write, further}
use Rattle.traces.specs.Exchange.{Exchange, outcome, told_granted}
use Rattle.traces.specs.Theorem.{Demand2, Each, GrantedStep, granted_in, log_by_codes, granted_steps, operations, Feeds}
use Rattle.traces.specs.Theorem.{Answered, AllAnswered, PlainAnswers, plain_left, RunsInOrder}

-- one call ---------------------------------------------------------------------------------

-- the code tells whether the call was granted
granted_same : (code : ℕ) (g : Bool) → (outcome code ≡ 0) ↔ (g ≡ true) → told_granted code ≡ g
granted_same code g h = go g refl
  where
    go : (b : Bool) → g ≡ b → told_granted code ≡ b
    go true f = eq-eqb (outcome code) 0 (h.1 f)
    go false f = refuted _ (λ e. false≢true (sym f ∙ h.0 (eqb-true (outcome code) 0 e)))

-- a granted step, its exchange, and that the exchange had its answer
record Given : Type 0 where
  taken : StepAnswer
  exchange : Exchange
  answered : Answered taken.value exchange

abbrev by_exchange : Given → GrantedStep
by_exchange g = record { step = g.taken.step; exchange = g.exchange }

none_granted : (b : Bool) → ◌≡◌ {A = List GrantedStep} [] (cond b [] [])
none_granted true = refl
none_granted false = refl

module _ (x : Exchange) where
  -- x has the outcome of n
  record Meets (n : Next) : Type 0 where
    code : x.code ≡ code_of (answer_of (writing (length x.first.before)) n.outcome)
    first : x.first.after ≡ lent_after first_lent text_after n.outcome x.first.before
    second : x.second.after ≡ lent_after second_lent as_it_was n.outcome x.second.before

  -- the granted steps of a call, from the codes and from the definitions
  abbrev Gives : Call → Next → Type 0
  Gives c n = (is_write c ≡ false → told_granted x.code ≡ is_granted n.outcome) → Meets n
      → (gs : List Given) × (map (λ g. g.taken) gs ≡ n.steps) × (map by_exchange gs ≡ granted_in x c)

  none_taken : (c : Call) (o : Outcome) → is_granted o ≡ false → (is_write c ≡ false → told_granted x.code ≡ is_granted o)
      → [] ≡ granted_in x c
  unfolding is_write
  none_taken start o g t = none_granted (told_granted x.code)
  none_taken (load i) o g t = none_granted (told_granted x.code)
  none_taken (begin u) o g t = none_granted (told_granted x.code)
  none_taken (commit u) o g t = none_granted (told_granted x.code)
  none_taken (abort u) o g t = none_granted (told_granted x.code)
  none_taken (step u s room) o g t = rw (t refl, g)
  none_taken write o g t = none_granted (told_granted x.code)
  none_taken (count_of n) o g t = none_granted (told_granted x.code)
  none_taken (open_part u) o g t = none_granted (told_granted x.code)
  none_taken (close_part u) o g t = none_granted (told_granted x.code)
  none_taken (undo_part u) o g t = none_granted (told_granted x.code)

  gives : (c : Call) (M : State) → Gives c (next c M)
  unfolding answer_of lent_after is_write
  gives c M = every_call Gives M (record {
    refusal = λ c cause r t m. ([], refl, none_taken c (refused cause) refl t);
    at_start = λ t m. ([], refl, none_granted (told_granted x.code));
    at_unread = λ c i t m. ([], refl, none_granted (told_granted x.code));
    at_load = λ d h w t m. ([], refl, none_granted (told_granted x.code));
    at_begin = λ u i o t m. ([], refl, none_granted (told_granted x.code));
    at_commit = λ u i o l t m. ([], refl, none_granted (told_granted x.code));
    at_abort = λ u i o t m. ([], refl, none_granted (told_granted x.code));
    at_wait = λ u s room i o r z t m. ([], refl, none_taken (step u s room) (waits 0) refl t);
    at_step = λ u s room i o p t m. (
      record { taken = _; exchange = x; answered = record { code = m.code; first = m.first; second = m.second } }
          ∷ [],
      refl,
      rw (t refl),
    );
    at_write = λ t m. ([], refl, none_granted (told_granted x.code));
    at_count = λ n h t m. ([], refl, none_granted (told_granted x.code));
    at_open_part = λ u i o l t m. ([], refl, none_granted (told_granted x.code));
    at_close_part = λ u i o l t m. ([], refl, none_granted (told_granted x.code));
    at_undo_part = λ u i o l t m. ([], refl, none_granted (told_granted x.code));
  }) c

-- the flag of a call that writes plays no part
same_flag : {E : Type 0} (c : Call) (a b : Bool) (es : List E) (L : Log E) → (is_write c ≡ false → a ≡ b)
    → logged c a es L ≡ logged c b es L
unfolding is_write
same_flag start a b es L h = rw (h refl)
same_flag (load (unreadable cause offset)) a b es L h = refl
same_flag (load (stands_for d l)) a b es L h = rw (h refl)
same_flag (begin t) a b es L h = rw (h refl)
same_flag (commit t) a b es L h = rw (h refl)
same_flag (abort t) a b es L h = rw (h refl)
same_flag (step t s room) a b es L h = refl
same_flag write a b es L h = refl
same_flag (count_of n) a b es L h = refl
same_flag (open_part t) a b es L h = rw (h refl)
same_flag (close_part t) a b es L h = rw (h refl)
same_flag (undo_part t) a b es L h = rw (h refl)

-- lists of calls ---------------------------------------------------------------------------

-- demand 2 of each call, in the state that the calls before it reach
abbrev pub InReached : List Call → Exchange → Call → Type 0
InReached before x c = Demand2 (reached before) x c

module _ (M : State) (x : Exchange) (c : Call) (d : Demand2 M x c) where
  pub same_told : is_write c ≡ false → told_granted x.code ≡ is_granted (next c M).outcome
  unfolding is_write
  same_told w = granted_same x.code (is_granted (next c M).outcome) (d.as_granted (λ e. false≢true (sym w ∙ ap is_write e)))

  given : (gs : List Given) × (map (λ g. g.taken) gs ≡ (next c M).steps) × (map by_exchange gs ≡ granted_in x c)
  given = let b = d.by_definition in gives x c M same_told (record { code = b.code; first = b.first; second = b.second })

  -- the log with all of it
  abbrev with_given : Log Given → Log Given
  with_given L = logged c (is_granted (next c M).outcome) given.0 L

  read_taken : {E : Type 0} (f : StepAnswer → E) (L : Log Given)
      → logged c (is_granted (next c M).outcome) (map f (next c M).steps) (read_off (λ g. f g.taken) L)
      ≡ read_off (λ g. f g.taken) (with_given L)
  read_taken f L =
      rw (← given.1, map_map f (λ (g : Given). g.taken) (λ g. f g.taken) given.0 (λ g i. refl))
      (sym (logged_read (λ g. f g.taken) c (is_granted (next c M).outcome) given.0 L))

  read_codes : (L : Log Given)
      → logged c (told_granted x.code) (granted_in x c) (read_off by_exchange L) ≡ read_off by_exchange (with_given L)
  read_codes L =
      same_flag c (told_granted x.code) (is_granted (next c M).outcome) (granted_in x c) (read_off by_exchange L) same_told
      ∙ rw (← given.2) (sym (logged_read by_exchange c (is_granted (next c M).outcome) given.0 L))

-- one log from which the history's logs and the one by codes are read off
log_given : (before : List Call) (xs : List Exchange) (cs : List Call) → Each InReached before xs cs → (L : Log Given)
    → (K : Log Given) × (log_after (λ t. t.step) (read_off (λ g. g.taken.step) L) (history (reached before) cs)
    ≡ read_off (λ g. g.taken.step) K)
    × (log_after (λ t. t.value) (read_off (λ g. g.taken.value) L) (history (reached before) cs) ≡ read_off (λ g. g.taken.value) K)
    × (log_by_codes (read_off by_exchange L) xs cs ≡ read_off by_exchange K)
unfolding log_after history log_by_codes
log_given before [] [] h L = (L, refl, refl, refl)
log_given before [] (c ∷ cs) h L = absurd h
log_given before (x ∷ xs) [] h L = absurd h
log_given before (x ∷ xs) (c ∷ cs) h L =
    let M = reached before in
    let k = log_given (before ++ (c ∷ [])) xs cs h.1 (with_given M x c h.0 L) in (
      k.0,
      ap (λ (z : Log Step). log_after (λ t. t.step) z (history (next c M).state cs)) (read_taken M x c h.0 (λ t. t.step) L)
          ∙ (rw (further before c) at k.1),
      ap (λ (z : Log Value). log_after (λ t. t.value) z (history (next c M).state cs)) (read_taken M x c h.0 (λ t. t.value) L)
          ∙ (rw (further before c) at k.2),
      rw (read_codes M x c h.0 L) k.3,
    )

all_answered : (gs : List Given) → AllAnswered (map plain_value (map (λ g. g.taken.value) gs)) (map by_exchange gs)
all_answered [] = tt
all_answered (g ∷ gs) = (g.answered, all_answered gs)

-- what is told of the steps --------------------------------------------------------------------

operation_is : (o : Operation Given) → told (λ (s : GrantedStep). s.step) (told by_exchange o) ≡ told (λ (g : Given). g.taken.step) o
operation_is (does g) = refl
operation_is opens = refl
operation_is closes = refl
operation_is undoes = refl

operations_are : (os : List (Operation Given)) → operations (map (told by_exchange) os) ≡ map (told (λ (g : Given). g.taken.step)) os
operations_are os = map_map (told (λ (s : GrantedStep). s.step)) (told by_exchange) (told (λ (g : Given). g.taken.step)) os
    (λ o i. operation_is o)

all_operations : (ts : List (List (Operation Given)))
    → map operations (map (map (told by_exchange)) ts) ≡ map (map (told (λ (g : Given). g.taken.step))) ts
all_operations ts = map_map operations (map (told by_exchange)) (map (told (λ (g : Given). g.taken.step))) ts (λ os i. operations_are os)

joined_steps : {E F : Type 0} (g : E → F) (ts : List (List (Operation E)))
    → joined (map steps_in (map (map (told g)) ts)) ≡ map g (joined (map steps_in ts))
joined_steps g [] = refl
joined_steps g (l ∷ ts) = rw (steps_told g l, joined_steps g ts) (sym (map_append g (steps_in l) (joined (map steps_in ts))))

-- x is the granted start
module _ (x : Exchange) (xs : List Exchange) (cs : List Call) (g : outcome x.code ≡ 0) (h : Each InReached [] xs cs) where
  abbrev G : Log GrantedStep
  G = granted_steps (x ∷ xs) (start ∷ cs)

  abbrev K : Log Given
  K = (log_given [] xs cs h (new_log node_0_alone)).0

  fed_is : fed (since_start cs) ≡ read_off (λ g. g.taken.step) K
  unfolding log_after history next state_after
  fed_is = (log_given [] xs cs h (new_log node_0_alone)).1

  answered_is : answered (since_start cs) ≡ read_off (λ g. g.taken.value) K
  unfolding log_after history next state_after
  answered_is = (log_given [] xs cs h (new_log node_0_alone)).2

  codes_are : G ≡ read_off by_exchange K
  unfolding log_by_codes
  codes_are = rw g (log_given [] xs cs h (new_log node_0_alone)).3

  pub feeds : Feeds G (since_start cs)
  feeds = rw codes_are (record {
    initial = sym (ap (λ (F : Log Step). F.initial) fed_is);
    committed = all_operations K.committed ∙ sym (ap (λ (F : Log Step). F.committed) fed_is);
    open_log = λ t. operations_are (K.open_log t) ∙ sym (ap (λ (F : Log Step). F.open_log t) fed_is);
  })

  -- `Runs`, said of the log of exchanges
  pub runs_given : (b : List ℕ) (d : Document) → Runs (since_start cs) b d → RunsInOrder G b d
  runs_given b d r = rw codes_are (record {
    answers = rw (committed_read by_exchange K b) answers_given;
    document = rw (committed_read by_exchange K b) document_given;
  })
    where
      ts : List (List (Operation Given))
      ts = committed_then K b

      same_operations : operations_of (since_start cs) b ≡ map operations (map (map (told by_exchange)) ts)
      same_operations = rw (fed_is, committed_read (λ (g : Given). g.taken.step) K b) (sym (all_operations ts))

      same_values : answers_of (since_start cs) b ≡ map (λ g. g.taken.value) (joined (map steps_in ts))
      same_values = rw (answered_is, committed_read (λ (g : Given). g.taken.value) K b) (joined_steps (λ (g : Given). g.taken.value) ts)

      first : (fed (since_start cs)).initial ≡ K.initial
      first = ap (λ (F : Log Step). F.initial) fed_is

      answers_given : PlainAnswers K.initial (map (map (told by_exchange)) ts)
      answers_given =
          let e : plain_answers K.initial (map operations (map (map (told by_exchange)) ts))
          ≡ map plain_value (map (λ g. g.taken.value) (joined (map steps_in ts))) =
          rw (first, same_operations, same_values) at r.answers in
          rw (joined_steps by_exchange ts)
          (subst (λ (vs : List PlainAnswer). AllAnswered vs (map by_exchange (joined (map steps_in ts)))) (sym e)
          (all_answered (joined (map steps_in ts))))

      document_given : plain_left K.initial (map (map (told by_exchange)) ts) ≡ d
      document_given = rw (first, same_operations) at r.document

  -- the committed transactions, and none behind them
  pub plain_answers_given : PlainAnswers G.initial G.committed
  plain_answers_given = rw (append-nil G.committed) at (runs_given [] _ (any_order cs [] refl)).answers
