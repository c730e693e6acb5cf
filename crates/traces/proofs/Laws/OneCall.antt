-- Demands 1 and 2 on one call, from its contract.
use Rattle.std.specs.Prelude.{◌≡◌, ℕ, suc, ◌≤◌, Bool, ◌&&◌, List, [], ◌∷◌, drop}
use Rattle.std.proofs.Math.Path.{refl, ap}
use Rattle.std.proofs.Common.{sym, ◌∙◌, true≢false, arith, length-append, leb-true, leb-false, ne_eqb}
use Rattle.std.proofs.Math.Bool.{true, false, cond}
use Rattle.std.proofs.lemmas.Bool.{false≢true}
use Rattle.std.proofs.Math.ListN.{length}
use Rattle.std.proofs.Math.Seq.{take-append_seam}
use Rattle.std.proofs.Math.Dec.{leb}
use Rattle.tree.specs.Forest.{Forest, nil, node, rows, view}
use Rattle.tree.specs.Document.{Node, Document, ordered, legal, lines}
use Rattle.tree.specs.Steps.{Value, done, how_many}
use Rattle.protocol.specs.State.{State, start_state, shown, as_shown, nothing, document_of, committed_document}
use Rattle.protocol.specs.Lent.{Room, filled, first_lent, second_lent}
use Rattle.protocol.specs.Calls.{node_limit, Call, start, write, count_of, Outcome, granted, written, waits, refused, refused_at, next}
use Rattle.protocol.specs.History.{is_granted, is_wait}
use Rattle.protocol.specs.Answers.{code_of, answer_of, granted_answer, lent_after, as_it_was}
use Rattle.protocol.specs.declared.Answer.{Answer}
use Rattle.protocol.specs.declared.Answer.TheVariants.{Done, Count, Refused}
use Rattle.table.specs.Flat.{flat}
use Rattle.table.specs.Layout.{state_size}
use Rattle.form.specs.Form.{form, Holds}
use Rattle.form.specs.Laws.Holds.{form_holds, holds_form}
use Rattle.engine.specs.Contract.{set_place}
use Rattle.serializability.proofs.Laws.Main.{is_write}
use Rattle.serializability.proofs.Laws.OneCall.{waiting, deadlock_only, step_not_at}
use Rattle.xml.specs.Writing as xml
use Rattle.xml.proofs.Laws.Expressible.{read_back}
use Rattle.traces.specs.Exchange.{Request, Exchange, outcome, value}
use Rattle.xml_write.specs.Contract.{writable, writing, text_after, write_answer, write_buffer}
use Rattle.xml_write.specs.Laws.Calls.{legal_writing}
use Rattle.traces.specs.Contract as contract
use Rattle.traces.specs.Contract.{Makes, makes_start, makes_load, makes_write, makes_begin, makes_commit, makes_abort, makes_step}
use Rattle.traces.specs.Contract.{makes_count, MakesCall, Ensured, Contract}
use Rattle.traces.specs.Theorem.{Same, SameOutside, remembered_at, changed_in, only_reads, ByDefinition, Outcomes, Demand2}
use Rattle.traces.proofs.Laws.Codes.{listed, Told, told, told_cause, not_written, count_value}
use Rattle.traces.proofs.Laws.Causes.{makes_one, all_listed}
use Rattle.traces.proofs.Laws.Answers.{ensured_cases, ensured_by}

-- demand 1 ------------------------------------------------------------------------------

-- by an outcome that the number tells
told_demand : (x : Exchange) (o : Outcome) → Told x.code o
    → (is_granted o ≡ false → SameOutside (changed_in x) x.state × Same x.first × Same x.second)
    → (only_reads x.request ≡ true → Same x.state)
    → length x.state.after ≡ length x.state.before → drop state_size x.state.after ≡ drop state_size x.state.before
    → Outcomes x
told_demand x o t k ro l b = record {
  outcomes = t.outcomes;
  causes = t.causes;
  no_cause = t.no_cause;
  still = λ n. k (t.not_granted n);
  read_only = ro;
  long = l;
  behind = b;
}

-- where it is no wait, every byte of the state is as it was
told_still : (x : Exchange) (o : Outcome) → Told x.code o → is_wait o ≡ false → Same x.state → SameOutside (changed_in x) x.state
told_still x o t n e = rw (t.wait ∙ n) e

told_quiet : (x : Exchange) (o : Outcome) → Told x.code o → is_wait o ≡ false → Same x.state → Same x.first → Same x.second
    → length x.state.after ≡ length x.state.before → drop state_size x.state.after ≡ drop state_size x.state.before
    → Outcomes x
told_quiet x o t n e f k = told_demand x o t (λ _. (told_still x o t n e, f, k)) (λ _. e)

-- where the set stands that a call of protocol may change, by the request
same_place : {room : Room} {q : Request} {c : Call} → Makes room q c → set_place c ≡ remembered_at q
same_place makes_start = refl
same_place (makes_load h) = refl
same_place makes_write = refl
same_place makes_begin = refl
same_place makes_commit = refl
same_place makes_abort = refl
same_place makes_step = refl
same_place makes_count = refl

kept_buffer : (lent : Value → List ℕ) (o : Outcome) (b : List ℕ) → is_granted o ≡ false → lent_after lent as_it_was o b ≡ b
unfolding lent_after
kept_buffer lent (granted v) b h = absurd (false≢true (sym h))
kept_buffer lent (written d) b h = refl
kept_buffer lent (waits w) b h = refl
kept_buffer lent (refused c) b h = refl
kept_buffer lent (refused_at c i) b h = refl

-- the refusal of bytes that are no state
told_13 : Told (code_of (Refused 13)) (refused 13)
unfolding answer_of
told_13 = told (refused 13) refl

-- write and count_of leave the state
reads_only : (x : Exchange) → Contract x → only_reads x.request ≡ true → Same x.state
unfolding Ensured
reads_only x k = go x.request refl
  where
    go : (q : Request) → x.request ≡ q → only_reads q ≡ true → Same x.state
    go Request.write e h = (k.ensured write (rw e makes_write)).state
    go (Request.count_of n) e h = (k.ensured (count_of n) (rw e makes_count)).state
    go Request.start e h = absurd (false≢true h)
    go (Request.load xml) e h = absurd (false≢true h)
    go (Request.begin t) e h = absurd (false≢true h)
    go (Request.commit t) e h = absurd (false≢true h)
    go (Request.abort t) e h = absurd (false≢true h)
    go (Request.step t s) e h = absurd (false≢true h)

module _ (x : Exchange) (r : Answer) (e : x.code ≡ code_of r) where
  -- the number is that of an outcome
  tells : (o : Outcome) → listed o ≡ true → r ≡ answer_of (λ d. Done) o → Told x.code o
  tells o l f = rw (e, f) (told o l)

  step_demand : (c : Call) → MakesCall x c → contract.OnState x r c → ((M : State) → listed (next c M).outcome ≡ true)
      → (only_reads x.request ≡ true → Same x.state) → Outcomes x
  step_demand c m h l ro = go (form x.state.before) refl
    where
      go : (f : Bool) → form x.state.before ≡ f → Outcomes x
      go false f =
          let u = h.performed.unformed f in
          told_quiet x (refused 13) (rw (e, u.0) told_13) refl u.1 (h.first.unformed f) (h.second.unformed f) h.performed.long
          h.performed.behind
      go true f =
          let M = form_holds x.state.before f in
          let o = (next c M.0).outcome in
          let t = tells o (l M.0) (h.performed.answer M.0 M.1 (λ d. Done)) in
          told_demand x o t
          (λ g. (
            rw (t.wait, ← same_place m) (h.performed.still M.0 M.1 g),
            h.first.filled M.0 M.1 ∙ kept_buffer first_lent o x.first.before g,
            h.second.filled M.0 M.1 ∙ kept_buffer second_lent o x.second.before g,
          ))
          ro h.performed.long h.performed.behind

  start_demand : contract.Start x r → (only_reads x.request ≡ true → Same x.state) → Outcomes x
  unfolding next answer_of
  start_demand h ro = go (leb state_size (length x.state.before)) refl
    where
      go : (f : Bool) → leb state_size (length x.state.before) ≡ f → Outcomes x
      go false f =
          let u = h.restarted.short (leb-false state_size (length x.state.before) f) in
          told_quiet x (refused 13) (rw (e, u.0) told_13) refl u.1 h.first h.second h.restarted.long h.restarted.behind
      go true f =
          told_demand x (granted done)
          (tells (granted done) refl (h.restarted.answer (leb-true state_size (length x.state.before) f) start_state (λ d. Done)))
          (λ g. absurd (false≢true (sym g))) ro h.restarted.long h.restarted.behind

  -- a write of d: its outcome as a number tells it, and what it leaves
  writing_demand : (d : Document) → r ≡ writing (length x.first.before) d → x.first.after ≡ text_after x.first.before d
      → Same x.state → Same x.second → Outcomes x
  unfolding writing text_after writable answer_of granted_answer
  writing_demand d a f s k = go (xml.expressible d) (leb (length (xml.write d)) (length x.first.before)) a f
    where
      go : (p q : Bool) → r ≡ cond p (cond q (Count (length (xml.write d))) (Refused 13)) (Refused 14)
          → x.first.after ≡ cond (p && q) (filled (xml.write d) x.first.before) x.first.before → Outcomes x
      go true true a f =
          told_demand x (granted (how_many (length (xml.write d)))) (tells (granted (how_many (length (xml.write d)))) refl a)
          (λ g. absurd (false≢true (sym g))) (λ _. s) (ap length s) (ap (drop state_size) s)
      go true false a f = told_quiet x (refused 13) (tells (refused 13) refl a) refl s f k (ap length s) (ap (drop state_size) s)
      go false q a f = told_quiet x (refused 14) (tells (refused 14) refl a) refl s f k (ap length s) (ap (drop state_size) s)

  write_demand : contract.Write x r → Outcomes x
  unfolding answer_of write_answer write_buffer
  write_demand h = go (form x.state.before) refl
    where
      by_order : (d : Document) (o : Bool) → r ≡ cond o (writing (length x.first.before) d) (Refused 14)
          → x.first.after ≡ cond o (text_after x.first.before d) x.first.before → Outcomes x
      by_order d true a f = writing_demand d a f h.state h.second
      by_order d false a f =
          told_quiet x (refused 14) (tells (refused 14) refl a) refl h.state f h.second (ap length h.state)
          (ap (drop state_size) h.state)

      go : (f : Bool) → form x.state.before ≡ f → Outcomes x
      go false f =
          let u = h.written.unformed f in
          told_quiet x (refused 13) (rw (e, u.0) told_13) refl h.state u.1 h.second (ap length h.state)
          (ap (drop state_size) h.state)
      go true f =
          let M = form_holds x.state.before f in
          by_order (committed_document M.0) (ordered (committed_document M.0)) (h.written.answer M.0 M.1)
          (h.written.text M.0 M.1)

-- on any bytes
pub outcomes_of : (x : Exchange) → Contract x → Outcomes x
outcomes_of x k =
    let m = makes_one _ x.request in
    ensured_cases x k.answer (λ c. MakesCall x c → ((M : State) → listed (next c M).outcome ≡ true) → Outcomes x)
    (λ h n l. start_demand x k.answer k.code h (reads_only x k)) (λ h n l. write_demand x k.answer k.code h)
    (λ c h n l. step_demand x k.answer k.code c n h l (reads_only x k)) m.0 (k.ensured m.0 m.1) m.1 (all_listed m.1)

-- demand 2 ------------------------------------------------------------------------------

-- no document shown has more nodes than are held
view_length : {A B K : Type 0} (seen : A → Bool) (g : A → B) (key : B → K) (p : List K) (e : ℕ) (f : Forest A)
    → length (rows key p (view seen g f)) ≤ length (flat e f)
unfolding rows view flat
view_length seen g key p e nil = omega arith
view_length seen g key p e (node a ks fs) =
    go (seen a) (view_length seen g key (key (g a) ∷ p) (suc e) ks) (view_length seen g key p e fs)
  where
    go : (b : Bool) → length (rows key (key (g a) ∷ p) (view seen g ks)) ≤ length (flat (suc e) ks)
        → length (rows key p (view seen g fs)) ≤ length (flat e fs)
        → length (rows key p (cond b (node (g a) (view seen g ks) (view seen g fs)) (view seen g fs))) ≤ length (flat e (node a ks fs))
    go true h k =
        omega (
          arith,
          length-append (rows key (key (g a) ∷ p) (view seen g ks)) (rows key p (view seen g fs)),
          length-append (flat (suc e) ks) (flat e fs),
        )
    go false h k = omega (arith, length-append (flat (suc e) ks) (flat e fs))

few_lines : {s : List ℕ} {M : State} → Holds s M → length (lines (committed_document M)) ≤ node_limit
unfolding lines document_of
few_lines {s} {M} h = omega (
  arith,
  view_length (shown nothing) (as_shown nothing) (λ (a : Node). a.number) [] 0
      M.tree,
  h.layout.many,
  h.layout.room,
  ap length h.rows,
)

-- what a granted write gave: the tests that it passed
granted_write : (out : List ℕ) (d : Document) → outcome (code_of (writing (length out) d)) ≡ 0
    → (xml.expressible d ≡ true) × (text_after out d ≡ filled (xml.write d) out) × (writing (length out) d ≡ Count (length (xml.write d)))
unfolding writing text_after writable code_of
granted_write out d h = go (xml.expressible d) refl (leb (length (xml.write d)) (length out)) h
  where
    go : (p : Bool) → xml.expressible d ≡ p → (q : Bool)
        → outcome (code_of (cond p (cond q (Count (length (xml.write d))) (Refused 13)) (Refused 14))) ≡ 0
        → (xml.expressible d ≡ true) × (cond (p && q) (filled (xml.write d) out) out ≡ filled (xml.write d) out)
        × (cond p (cond q (Count (length (xml.write d))) (Refused 13)) (Refused 14) ≡ Count (length (xml.write d)))
    go true e true h = (e, refl, refl)
    go true e false h = absurd (omega arith)
    go false e q h = absurd (omega arith)

write_no_wait : (out : List ℕ) (d : Document) → outcome (code_of (writing (length out) d)) ≡ 1 → ⊥
unfolding writing code_of
write_no_wait out d h = go (xml.expressible d) (leb (length (xml.write d)) (length out)) h
  where
    go : (p q : Bool) → outcome (code_of (cond p (cond q (Count (length (xml.write d))) (Refused 13)) (Refused 14))) ≡ 1 → ⊥
    go true true h = omega arith
    go true false h = omega arith
    go false q h = omega arith

module _ (M : State) (x : Exchange) (r : Answer) (e : x.code ≡ code_of r) (b : Holds x.state.before M) where
  -- a call that does not write
  told_meets : (c : Call) → ((w : Document → Answer) → r ≡ answer_of w (next c M).outcome) → listed (next c M).outcome ≡ true
      → ByDefinition writing text_after M x c → Demand2 M x c
  unfolding next
  told_meets c given l d = record {
    held = b;
    by_definition = d;
    formed = holds_form d.left;
    as_granted = λ _. t.as_granted;
    as_waiting = t.set;
    deadlock = λ u s room k w.
        let o = ap (λ (y : Call). (next y M).outcome) (sym k) in
        deadlock_only u s room M (o ∙ told_cause x.code _ t (λ i j h. step_not_at u s room M i j (o ∙ h)) 17 (λ z. omega arith) w);
    wait_set = λ u s room k w. waiting u s room M (value x.code) (ap (λ (y : Call). (next y M).outcome) (sym k) ∙ t.waiting w);
    read_back = λ k g. absurd (not_written r (committed_document M) (λ w. given w ∙ ap (λ (y : Call). answer_of w (next y M).outcome) k));
  }
    where
      t : Told x.code (next c M).outcome
      t = tells x r e (next c M).outcome l (given (λ d. Done))

  write_meets : legal (committed_document M) ≡ true → ByDefinition writing text_after M x write → Demand2 M x write
  unfolding next lent_after answer_of is_write
  write_meets l d = record {
    held = b;
    by_definition = d;
    formed = holds_form d.left;
    as_granted = λ n. absurd (n refl);
    as_waiting = rw (ne_eqb (outcome x.code) 1 (λ w. write_no_wait x.first.before (committed_document M) (rw d.code at w)));
    deadlock = λ t s room k w. absurd (true≢false (ap is_write k));
    wait_set = λ t s room k w. absurd (write_no_wait x.first.before (committed_document M) (rw d.code at w));
    read_back = λ k g.
        let m = committed_document M in
        let w = granted_write x.first.before m (rw d.code at g) in (
          rw (d.code, w.2, count_value (length (xml.write m)), d.first, w.1)
              (take-append_seam (xml.write m) (drop (length (xml.write m)) x.first.before)),
          read_back m l w.0 (few_lines b),
        );
  }

  ensured_meets : (c : Call) → listed (next c M).outcome ≡ true → legal (committed_document M) ≡ true
      → ByDefinition writing text_after M x c
      → Ensured x r c → Demand2 M x c
  ensured_meets c l g d h =
      ensured_cases x r (λ c. listed (next c M).outcome ≡ true → ByDefinition writing text_after M x c → Demand2 M x c)
      (λ h l d. told_meets start (h.restarted.answer b.layout.size M) l d) (λ h l d. write_meets g d)
      (λ c h l d. told_meets c (h.performed.answer M b) l d) c h l d

-- on bytes that hold a state whose committed document is by the rules
pub demand_2 : (M : State) (x : Exchange) (c : Call) → Contract x → MakesCall x c → Holds x.state.before M
    → legal (committed_document M) ≡ true → Demand2 M x c
demand_2 M x c k m b g =
    let d = ensured_by writing text_after M x k.answer k.code b (λ h. legal_writing M h.written b g) c (k.ensured c m) in
    ensured_meets M x k.answer k.code b c (all_listed m M) g d (k.ensured c m)

-- a granted write answers the length of the committed document's text, and puts the text before the rest of the buffer
pub granted_text : (M : State) (x : Exchange) (c : Call) → Demand2 M x c → c ≡ write → outcome x.code ≡ 0
    → (x.code ≡ code_of (Count (length (xml.write (committed_document M)))))
    × (x.first.after ≡ filled (xml.write (committed_document M)) x.first.before)
unfolding next lent_after answer_of
granted_text M x c h k g =
    let o : (next c M).outcome ≡ written (committed_document M) = ap (λ (y : Call). (next y M).outcome) k in
    let d = h.by_definition in
    let a : x.code ≡ code_of (writing (length x.first.before) (committed_document M)) = d.code ∙ rw o in
    let w = granted_write x.first.before (committed_document M) (rw a at g) in
    (a ∙ ap code_of w.2, d.first ∙ rw o w.1)
