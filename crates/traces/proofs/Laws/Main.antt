-- THE THEOREM: every list of calls on one lent state that begins with a granted start, from the contracts of the calls.
use Rattle.std.specs.Prelude.{◌≡◌, refl, ℕ, true, false}
use Rattle.std.proofs.Common.{ap, ap₂, ◌∙◌}
use Rattle.std.proofs.Math.Bool.{false≢true}
use mathlib.Core.List.Memᴰ
use mathlib.Core.List.{List, [], ◌∷◌, ◌++◌, map, append-nil, append_assoc, Memᴰ}
use Rattle.tree.specs.Lists.{keep}
use Rattle.tree.specs.Document.{Document}
use Rattle.protocol.specs.State.{State, start_state, transactions, held_document}
use Rattle.protocol.specs.Calls.{Call, commit, count_of, next}
use Rattle.protocol.specs.History.{Event, history, state_after, is_granted, Log}
use Rattle.protocol.specs.Answers.{code_of, answer_of, granted_answer}
use Rattle.protocol.specs.declared.Answer.TheVariants.{Done}
use Rattle.form.specs.Form.{Holds}
use Rattle.form.specs.Laws.OneState.{holds_one}
use Rattle.serializability.specs.Theorem.{since_start, reached, Runs}
use Rattle.serializability.proofs.Laws.Main.{is_write, plain_committed, further, demand_3}
use Rattle.serializability.proofs.Laws.OneCall.{commit_outcome}
use Rattle.serializability.proofs.Laws.AnyOrder.{reached_tracks}
use Rattle.serializability.proofs.Laws.OpenOrders.{some_order, open_in_any_order, commit_in_any_order}
use Rattle.serializability.proofs.Laws.Reached.{always_reached}
use Rattle.traces.specs.Exchange.{Request, Exchange, outcome}
use Rattle.traces.specs.Contract.{makes_commit, makes_count, MakesCall, Contract}
use Rattle.traces.specs.Theorem.{Linked, Trace, Made, no_call, call_then, Demand1, Demand2, WritesPlain, GrantedStep, Feeds}
use Rattle.traces.specs.Theorem.{RunsInOrder, last_state, FinishInAnyOrder, Counted, Each, Delivered}
use Rattle.traces.proofs.Laws.Causes.{makes_one, makes_only}
use Rattle.traces.proofs.Laws.OneCall.{outcomes_of, demand_2, granted_text}
use Rattle.traces.proofs.Laws.Answers.{start_of, answers_of}
use Rattle.traces.proofs.Laws.StateBytes.{granted_size, state_bytes}
use Rattle.traces.proofs.Laws.Logs.{InReached, feeds, runs_given, plain_answers_given}
use Rattle.traces.proofs.Laws.Waiting.{waiting_told}
use Rattle.traces.proofs.Laws.Counts.{commits_left, counts_plain_left, count_told, document_told, limit_told}

-- the calls that were made ----------------------------------------------------------------

made_some : (xs : List Exchange) → (cs : List Call) × Made xs cs
made_some [] = ([], no_call)
made_some (x ∷ xs) = let m = makes_one _ x.request in let k = made_some xs in (m.0 ∷ k.0, call_then m.1 k.1)

made_only : {xs : List Exchange} {cs ds : List Call} → Made xs cs → Made xs ds → cs ≡ ds
made_only no_call no_call = refl
made_only (call_then m k) (call_then n l) = ap₂ (λ (c : Call) (cs : List Call). c ∷ cs) (makes_only _ m n) (made_only k l)

-- demand 1 --------------------------------------------------------------------------------

-- of every call that meets its contract, whatever bytes it was lent
pub demand_1 : (x : Exchange) → Contract x → Demand1 x
demand_1 x k = record { outcomes = outcomes_of x k; state_bytes = state_bytes x k; answers = answers_of x k }

each_demand : (s : List ℕ) (xs : List Exchange) → Linked s xs → (y : Exchange) → Memᴰ y xs → Demand1 y
each_demand s [] l y i = absurd (Memᴰ.not-nil i)
each_demand s (x ∷ xs) l y (Memᴰ.head e) = rw e (demand_1 x l.0)
each_demand s (x ∷ xs) l y (Memᴰ.tail i) = each_demand x.state.after xs l.2 y i

-- demands 2 and 3 --------------------------------------------------------------------------

-- of one call, behind the calls `before`
abbrev Both : List Call → Exchange → Call → Type 0
Both before x c = Demand2 (reached before) x c × WritesPlain before x c

both : (before : List Call) (x : Exchange) (c : Call) → Contract x → MakesCall x c → Holds x.state.before (reached before)
    → Both before x c
both before x c k m h =
    let d = demand_2 (reached before) x c k m h ((always_reached before).documents_legal (λ u. false)) in
    (d, λ e g. rw (← plain_committed before) (granted_text (reached before) x c d e g))

-- the same bytes hold the same state
holds_same : {s s' : List ℕ} {M : State} → s' ≡ s → Holds s M → Holds s' M
holds_same e h = rw e h

each_both : (before : List Call) (s : List ℕ) (xs : List Exchange) (cs : List Call) → Holds s (reached before) → Linked s xs → Made xs cs
    → Each Both before xs cs
each_both before s [] [] h l no_call = tt
each_both before s [] (c ∷ cs) h l m = elim m [ ]
each_both before s (x ∷ xs) [] h l m = elim m [ ]
each_both before s (x ∷ xs) (c ∷ cs) h l (call_then m k) =
    let b = both before x c l.0 m (holds_same l.1 h) in
    (b, each_both (before ++ (c ∷ [])) x.state.after xs cs (rw (further before c) b.0.by_definition.left) l.2 k)

-- the bytes in the end
holds_last : (before : List Call) (s : List ℕ) (xs : List Exchange) (cs : List Call) → Holds s (reached before) → Linked s xs → Made xs cs
    → Holds (last_state s xs) (reached (before ++ cs))
holds_last before s [] [] h l no_call = rw (append-nil before) h
holds_last before s [] (c ∷ cs) h l m = elim m [ ]
holds_last before s (x ∷ xs) [] h l m = elim m [ ]
holds_last before s (x ∷ xs) (c ∷ cs) h l (call_then m k) =
    let b = both before x c l.0 m (holds_same l.1 h) in
    let n : Holds x.state.after (reached (before ++ (c ∷ []))) = rw (further before c) b.0.by_definition.left in
    rw (append_assoc before (c ∷ []) cs) at (holds_last (before ++ (c ∷ [])) x.state.after xs cs n l.2 k)

each_part : (P Q : List Call → Exchange → Call → Type 0) → ((before : List Call) (x : Exchange) (c : Call) → P before x c → Q before x c)
    → (before : List Call) (xs : List Exchange) (cs : List Call) → Each P before xs cs → Each Q before xs cs
each_part P Q f before [] [] h = tt
each_part P Q f before [] (c ∷ cs) h = h
each_part P Q f before (x ∷ xs) [] h = h
each_part P Q f before (x ∷ xs) (c ∷ cs) h = (f before x c h.0, each_part P Q f (before ++ (c ∷ [])) xs cs h.1)

-- A.14 ------------------------------------------------------------------------------------

-- commits that are told as granted are granted
commits_granted : (before : List Call) (ys : List Exchange) (b : List ℕ) → Each InReached before ys (map commit b)
    → ((y : Exchange) → Memᴰ y ys → outcome y.code ≡ 0)
    → (e : Event) → Memᴰ e (history (reached before) (map commit b)) → is_granted e.outcome ≡ true
unfolding history is_write
commits_granted before [] [] h g e i = absurd (Memᴰ.not-nil i)
commits_granted before [] (t ∷ b) h g e i = absurd h
commits_granted before (y ∷ ys) [] h g e i = absurd h
commits_granted before (y ∷ ys) (t ∷ b) h g e (Memᴰ.head k) =
    rw k ((h.0.as_granted (λ w. false≢true (ap is_write w))).0 (g y (Memᴰ.head refl)))
commits_granted before (y ∷ ys) (t ∷ b) h g e (Memᴰ.tail i) =
    commits_granted (before ++ (commit t ∷ [])) ys b h.1 (λ z j. g z (Memᴰ.tail j)) e (rw (further before (commit t)) i)

-- of bytes that hold the state which the calls cs reach, and of a log whose runs are those of the history
module _ (cs : List Call) (s : List ℕ) (h : Holds s (reached cs)) (L : Log GrantedStep)
    (f : Feeds L (since_start cs)) (r : (b : List ℕ) (d : Document) → Runs (since_start cs) b d → RunsInOrder L b d) where
  -- the next call
  next_meets : (c : Call) (y : Exchange) → Linked s (y ∷ []) → MakesCall y c → Demand2 (reached cs) y c
  next_meets c y l m = (both cs y c l.0 m (holds_same l.1 h)).0

  in_any_order : (M : State) → Holds s M → FinishInAnyOrder L s M
  unfolding is_write
  in_any_order M k = rw (holds_one M (reached cs) k h) (record {
    some_order = (keep (reached cs).header.is_open transactions, some_order cs);
    runs = λ b o. r b (held_document (reached cs)) (open_in_any_order cs b o);
    commit_granted = λ t o k y l q.
        ((next_meets (commit t) y l (rw q makes_commit)).as_granted (λ w. false≢true (ap is_write w))).1
        (rw (commit_outcome t (reached cs) ((reached_tracks cs).good.numbered t o) o, commits_left cs L f k));
    commits = λ b o ys l m g N n.
        let e = holds_one N (reached (cs ++ map commit b)) n (holds_last cs s ys (map commit b) h l m) in
        let d = each_part Both InReached (λ before y c p. p.0) cs ys (map commit b) (each_both cs s ys (map commit b) h l m) in
        rw e (commit_in_any_order cs b o (commits_granted cs ys b d g));
  })

  counted : (M : State) → Holds s M → Counted L s M
  counted M k = rw (holds_one M (reached cs) k h) (record {
    plain = counts_plain_left cs L f;
    told = λ n y l q. count_told cs L f n y (next_meets (count_of n) y l (rw q makes_count));
    document = λ y l q. document_told cs L f y (next_meets (count_of 0) y l (rw q makes_count));
    limit = λ t o y l q. limit_told cs L f t o y (next_meets (commit t) y l (rw q makes_commit));
  })

-- the start --------------------------------------------------------------------------------

-- its answer
start_code : (x : Exchange) (k : Contract x) → x.request ≡ Request.start → outcome x.code ≡ 0 → x.code ≡ 0
unfolding next answer_of granted_answer code_of
start_code x k q g = k.code ∙ ap code_of ((start_of x k q).restarted.answer (granted_size x k q g) start_state (λ d. Done))

-- THE THEOREM
pub delivered : (x : Exchange) (xs : List Exchange) → Trace x xs → Delivered x xs
unfolding state_after next
delivered x xs t =
    let m = made_some xs in
    let n = granted_size x t.contract t.starts t.start_granted in
    let h : Holds x.state.after (reached []) = ((demand_1 x t.contract).answers.starts t.starts n).left in
    let b = each_both [] x.state.after xs m.0 h t.linked m.1 in
    let e : Each InReached [] xs m.0 = each_part Both InReached (λ before y c p. p.0) [] xs m.0 b in
    let s = last_state x.state.after xs in
    let l : Holds s (reached m.0) = holds_last [] x.state.after xs m.0 h t.linked m.1 in
    let f = feeds x xs m.0 t.start_granted e in
    let r = runs_given x xs m.0 t.start_granted e in
    record {
      calls = m.0;
      made = m.1;
      only = λ cs k. made_only k m.1;
      start_code = start_code x t.contract t.starts t.start_granted;
      start_buffers = let k = start_of x t.contract t.starts in (k.first, k.second);
      demand_1 = all_calls;
      held = l;
      demand_2 = e;
      demand_3 = demand_3 m.0;
      writes = each_part Both WritesPlain (λ before y c p. p.1) [] xs m.0 b;
      feeds = f;
      answers = plain_answers_given x xs m.0 t.start_granted e;
      open_in_any_order = in_any_order m.0 s l _ f r;
      waiting = λ M k. rw (holds_one M (reached m.0) k l) (waiting_told x xs m.0 t.start_granted e);
      counts = counted m.0 s l _ f r;
    }
  where
    all_calls : (y : Exchange) → Memᴰ y (x ∷ xs) → Demand1 y
    all_calls y (Memᴰ.head e) = rw e (demand_1 x t.contract)
    all_calls y (Memᴰ.tail i) = each_demand x.state.after xs t.linked y i
