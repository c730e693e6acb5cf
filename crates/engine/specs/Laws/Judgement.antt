-- How far a step that was admitted is judged, and where it ends: 8, 9, 10, wait or 17, 11, 12, 13, granted.
use Rattle.std.specs.Prelude.{◌≡◌, ℕ, ◌≤◌, ◌<◌, Bool, cond, not, length, ltb, Result, Ok, Err, IsErr, IsErrAnd, MatchResult, ⊤}
use Rattle.std.proofs.Math.Path.{refl, ap}
use Rattle.std.proofs.Common.{sym, ◌∙◌, arith}
use Rattle.std.proofs.Math.Bool.{true, false}
use Rattle.std.proofs.lemmas.Bool.{false≢true}
use mathlib.Core.List.{List, [], ◌∷◌, ◌++◌, map}
use Rattle.std.proofs.Math.Dec.{eqb}
use borrow.Author.Tests.{eqb-false, ne_eqb}
use Rattle.tree.specs.Lists.{any, every}
use Rattle.tree.specs.Steps.{Step, target, inserts, wrong_kind_on, wrong_content_on}
use Rattle.tree.specs.Laws.Lists.{any_same}
use Rattle.tree.specs.Laws.Tests.{and_left, and_right}
use Rattle.locks.specs.Needs.{need, locks}
use Rattle.locks.specs.Words.{words, step_named, need_words}
use Rattle.locks.specs.declared.StepName.{StepName}
use Rattle.locks.specs.declared.NeedWords.{NeedWords}
use Rattle.protocol.specs.State.{in_set, with_set, Header, State, Tree, act, grant, number_held, with_tree, set_header, forgetting}
use Rattle.protocol.specs.Rings.{in_ring}
use Rattle.protocol.proofs.Laws.WaitSets.{among_forgetting}
use Rattle.protocol.specs.Causes.{deadlock}
use Rattle.protocol.specs.declared.causes.Cause.{Cause as CauseName}
use Rattle.protocol.specs.declared.causes.Cause.TheVariants.{Deadlock}
use Rattle.protocol.specs.CauseNumbers.{number_of as number_of_cause}
use Rattle.protocol.specs.Lent.{Room}
use Rattle.tree.specs.Steps.{Value}
use Rattle.engine.specs.Contract.{Performed, Lent}
use Rattle.protocol.specs.Calls.{Call, step, Check, checked, waits, refused, unchanged, held_back, closes_ring, grants_step, Next, next}
use Rattle.protocol.specs.Answers.{answer_of}
use Rattle.protocol.specs.declared.Answer.{Answer}
use Rattle.protocol.specs.declared.Answer.TheVariants.{Waits, Refused}
use Rattle.table.specs.Flat.{flat}
use Rattle.table.specs.Laws.Bytes.{put_word}
use Rattle.table.specs.Layout.{Entry, set_at, nodes, is_open, remembered, Layout, Left, header}
use Rattle.table.specs.Laws.Kept.{left_as}
use Rattle.rows.specs.Places.{item, number_of, place_of, ups, numbers_above}
use Rattle.rows.specs.Found.{answer_at, used_in, wait_word, judged_at}
use Rattle.rows.proofs.Laws.Find.{held_place}
use Rattle.rows.specs.Rows.{granted_up, stepped}
use Rattle.rows.proofs.Laws.Granted.{step_rows}
use Rattle.rows.proofs.Laws.Kept.{unique_grant, unique_act}
use Rattle.form.specs.Form.{Holds}
use Rattle.form.specs.Laws.Steps.{holds_unique, valid_grant, valid_act}
use Rattle.engine.specs.Way.{AllInside}
use Rattle.engine.specs.Waits.{WaitsFor}
use Rattle.engine.specs.Grants.{Settled, GrantedStep}
use Rattle.engine.specs.Laws.Way.{climbed_nodes, climbed_grants}
use Rattle.engine.specs.Admission.{Site, Rejected, Standing}
use Rattle.engine.specs.Judgement.{Cause, first_cause, own_causes, own_cause, late_causes, Stopped, with_wait}
use Rattle.engine.specs.Judgement.{left_by, CanStop, Storable, Asked, Free, Passed, HeldBack, Halted, Tried, TriedLent}
use Rattle.engine.specs.Laws.Causes.{cause_named}
use Rattle.engine.specs.declared.Stop.{Stop}
use Rattle.engine.specs.declared.Stop.TheVariants as stop
use Rattle.engine.specs.Laws.Outcomes.{not_both, Grants, stopped_stays}
use Rattle.engine.specs.Laws.Waiting.{waits_for_open, stopped_waits}

-- lists of causes ------------------------------------------------------------------------

abbrev refusals : List Cause → List Check
refusals cs = map (λ c. (refused c.0, c.1)) cs

-- no cause is 0
abbrev named : List Cause → Bool
named cs = every (λ c. not (eqb c.0 0)) cs

module _ (t : ℕ) (M : State) (rest : List Check) (n : Next) where
  abbrev after : List Cause → Next
  after cs = checked (held_back t M) (refusals cs ++ rest) n

  first_applies : (cs : List Cause) (c : ℕ) → c ≡ first_cause cs → (c ≡ 0 → ⊥) → after cs ≡ unchanged (refused c) M
  first_applies [] c e z = absurd (z e)
  first_applies (x ∷ cs) c e z = go x.1 e (λ f. first_applies cs c f z)
    where
      go : (b : Bool) → c ≡ cond b x.0 (first_cause cs)
          → (c ≡ first_cause cs → after cs ≡ unchanged (refused c) M)
          → cond b (unchanged (refused x.0) M) (after cs) ≡ unchanged (refused c) M
      go true f g = rw f
      go false f g = g f

  none_applies : (cs : List Cause) → named cs ≡ true → first_cause cs ≡ 0 → after cs ≡ checked (held_back t M) rest n
  none_applies [] i e = refl
  none_applies (x ∷ cs) i e =
      go x.1 (eqb-false x.0 0 (positive (eqb x.0 0) (and_left (not (eqb x.0 0)) (named cs) i))) e
      (none_applies cs (and_right (not (eqb x.0 0)) (named cs) i))
    where
      positive : (b : Bool) → not b ≡ true → b ≡ false
      positive true h = absurd (false≢true h)
      positive false h = refl

      go : (b : Bool) → (x.0 ≡ 0 → ⊥) → cond b x.0 (first_cause cs) ≡ 0
          → (first_cause cs ≡ 0 → after cs ≡ checked (held_back t M) rest n)
          → cond b (unchanged (refused x.0) M) (after cs) ≡ checked (held_back t M) rest n
      go true z f g = absurd (z f)
      go false z f g = g f

-- the whole judgement, by its lists --------------------------------------------------------

abbrev set_of : ℕ → Step → State → List Entry → ℕ → ℕ
set_of t st M l p = wait_word t (need st) M.header.is_open (item l p ∷ ups l p)

-- the wait, with 17 in its place, and what is behind it
abbrev waiting : ℕ → Step → Room → State → List Entry → ℕ → List Check
waiting t st room M l p =
    (refused deadlock, closes_ring t (set_of t st M l p) M) ∷ (waits (set_of t st M l p), not (eqb (set_of t st M l p) 0))
    ∷ refusals (late_causes t st room l p)

abbrev tree_after : ℕ → Step → State → List Entry → ℕ → Tree
tree_after t st M l p = grant t (locks st (numbers_above l p)) (act t (M.header.depth t) st M.tree)

abbrev granting : ℕ → Step → State → List Entry → ℕ → Next
granting t st M l p = grants_step st (answer_at st t l p) (forgetting t (with_tree M (tree_after t st M l p)))

module _ (t : ℕ) (st : Step) (room : Room) (M : State) (l : List Entry) (p : ℕ) where
  at_own : (c : ℕ) → c ≡ own_cause st l p → (c ≡ 0 → ⊥) → judged_at t st room M l p ≡ unchanged (refused c) M
  unfolding judged_at
  at_own c e n = first_applies t M (waiting t st room M l p) (granting t st M l p) (own_causes st l p) c e n

  behind_own : own_cause st l p ≡ 0 → judged_at t st room M l p ≡ checked (held_back t M) (waiting t st room M l p) (granting t st M l p)
  unfolding judged_at
  behind_own e = none_applies t M (waiting t st room M l p) (granting t st M l p) (own_causes st l p) refl e

-- the wait and before --------------------------------------------------------------------

-- a step that was not admitted
pub stopped_rejected : {s : List ℕ} {t c : ℕ} (st : Step) → Rejected s t (target st) c → (room : Room)
    → Stopped s s (Refused c) (step t st room)
unfolding answer_of
stopped_rejected st r room =
    stopped_stays (λ x. ap Refused (r.unformed x)) (λ M h. r.formed M h st refl room) refl (λ writing. refl)

-- a step with a cause of its own
pub stopped_own : {s : List ℕ} {t : ℕ} {a : Site} {st : Step} → Standing s t (target st) a → (c : ℕ) → c ≡ own_cause st (nodes s) a.place
    → (c ≡ 0 → ⊥) → (room : Room) → Stopped s s (Refused c) (step t st room)
unfolding answer_of
stopped_own {s} {a = a} {st = st} at c e n room =
    stopped_stays {o = refused c} (λ x. not_both at.formed x)
    (λ M h. at.next M h st refl room ∙ at_own a.t st room M (nodes s) a.place c e n) refl (λ writing. refl)

module _ {s : List ℕ} {a : Site} {w : NeedWords} (set : ℕ) (v : WaitsFor s a.t w a.way set) where
  module _ {t : ℕ} {st : Step} (q : Asked s t a w st) where
    set_is : set ≡ wait_word a.t (need st) (is_open s) (item (nodes s) a.place ∷ ups (nodes s) a.place)
    set_is = v.is st q.needs ∙ rw (climbed_nodes q.standing.climbed)

    set_in : {M : State} → Holds s M → set ≡ set_of a.t st M (nodes s) a.place
    set_in h = set_is ∙ rw (← h.header)

    -- what the wait would be in a ring with: as in the state that the bytes hold
    module _ (n : set ≡ 0 → ⊥) (b : Bool) (r : b ≡ in_ring (with_set a.t (in_set set) (remembered s)) a.t) where
      ring_in : (M : State) → Holds s M → closes_ring a.t (set_of a.t st M (nodes s) a.place) M ≡ b
      ring_in M h = rw (← set_in h, ne_eqb set 0 n) (ap (λ (q : Header). in_ring (with_set a.t (in_set set) q.remembered) a.t)
          (sym h.header) ∙ sym r)

      asked_ring : b ≡ true → (room : Room) → Stopped s s (Refused deadlock) (step t st room)
      unfolding answer_of
      asked_ring e room =
          let at = q.standing in
          stopped_stays {o = refused deadlock} (λ x. not_both at.formed x)
          (λ M h. at.next M h st refl room ∙ behind_own a.t st room M (nodes s) a.place q.fits ∙ rw (ring_in M h ∙ e)) refl
          (λ writing. refl)

      asked_waits : b ≡ false → (room : Room) → Stopped s (with_wait a.t set s) (Waits set) (step t st room)
      unfolding with_wait
      asked_waits e room = rw (ne_eqb set 0 n)
          (stopped_waits q.standing set (λ u i. waits_for_open a.t (need st) (is_open s)
          (item (nodes s) a.place ∷ ups (nodes s) a.place) u (rw set_is at i)) room
          (λ M h. q.standing.next M h st refl room ∙ behind_own a.t st room M (nodes s) a.place q.fits
          ∙ rw (ring_in M h ∙ e, ← set_in h, ne_eqb set 0 n)))

  -- the ends of the judgement
  pub judged_free : set ≡ 0 → Passed s a w
  judged_free e = record {
    free = λ q. record { standing = q.standing; fits = q.fits; none = sym (set_is q) ∙ e; needs = q.needs };
  }

  module _ (n : set ≡ 0 → ⊥) (b : Bool) (r : b ≡ in_ring (with_set a.t (in_set set) (remembered s)) a.t) where
    pub judged_ring : b ≡ true → HeldBack s a w (stop.Refused Deadlock)
    unfolding with_wait
    judged_ring e = record { can_stop = tt; stopped = λ q room. asked_ring q n b r e room }

    pub judged_waits : b ≡ false → Layout s × AllInside (nodes s) a.way × (1 ≤ a.t) × (a.t ≤ 16) → HeldBack s a w (stop.Waits set)
    judged_waits e p = record { can_stop = (n, p.0, p.2, p.3); stopped = λ q room. asked_waits q n b r e room }

-- a step by its name, which stands and has no cause of its own
pub asked : {s : List ℕ} {t : ℕ} {a : Site} {w : NeedWords} (k : StepName) (st : Step) → need (step_named k) ≡ need st
    → Standing s t (target st) a
    → 0 ≡ own_cause st (nodes s) a.place
    → w ≡ need_words k
    → Asked s t a w st
unfolding need_words
asked k st same at f e = record { standing = at; fits = sym f; needs = e ∙ ap words same }

-- a step that was tried ---------------------------------------------------------------------

-- at the exit of a `?`, with a cause
pub tried_refused : {s : List ℕ} {call : Call} (t : ℕ) (r : Result Answer Stop) (c : CauseName) → IsErrAnd r (λ x. x ≡ stop.Refused c)
    → Stopped s s (Refused (number_of_cause c)) call
    → Tried s s t r call
unfolding with_wait
tried_refused t (Ok a) c e h = absurd e
tried_refused t (Err x) c e h = rw e (record { same = refl; can_stop = tt; stopped = h })

module _ {s : List ℕ} {t : ℕ} (r : Result Answer Stop) (c : CauseName) (e : IsErrAnd r (λ x. x ≡ stop.Refused c)) where
  pub tried_rejected : (st : Step) → Rejected s t (target st) (number_of_cause c) → (room : Room) → Tried s s t r (step t st room)
  tried_rejected st h room = tried_refused t r c e (stopped_rejected st h room)

  pub tried_own : {a : Site} (st : Step) → Standing s t (target st) a → number_of_cause c ≡ own_cause st (nodes s) a.place → (room : Room)
      → Tried s s t r (step t st room)
  tried_own st at h room = tried_refused t r c e (stopped_own {st = st} at _ h (cause_named c) room)

-- by the judgement
pub tried_judged : {s : List ℕ} {t : ℕ} {a : Site} {w : NeedWords} {st : Step} (r : Result Answer Stop) (x : Stop) → IsErrAnd r (λ y. y ≡ x)
    → Asked s t a w st
    → HeldBack s a w x
    → (room : Room) → Tried s s t r (step t st room)
tried_judged (Ok a) x e q h room = absurd e
tried_judged {s} {t} {a} {w} {st} (Err y) x e q h room = rw e (record {
  same = refl;
  can_stop = rw q.standing.same at h.can_stop;
  stopped = rw q.standing.same at (h.stopped q room);
})

-- a lent buffer there
pub lent_exit : (lent : Value → List ℕ) (s b : List ℕ) (r : Result Answer Stop) (call : Call) → IsErr r → TriedLent lent s b b r call
lent_exit lent s b (Ok a) call e = absurd (false≢true e)
lent_exit lent s b (Err x) call e = refl

-- what it answers
pub can_answer : (s s' : List ℕ) (t : ℕ) (r : Result Answer Stop) (call : Call) → Tried s s' t r call
    → MatchResult r (λ a. ⊤) (CanStop s' t)
can_answer s s' t (Ok a) call h = tt
can_answer s s' t (Err x) call h = rw h.same h.can_stop

can_store : (s : List ℕ) (t : ℕ) (x : Stop) → CanStop s t x → Storable s t x
can_store s t (stop.Refused c) h = tt
can_store s t (stop.Waits w) h = λ n. (h.1, h.2, h.3)

pub can_remember : (s s' : List ℕ) (t : ℕ) (r : Result Answer Stop) (call : Call) → Tried s s' t r call
    → MatchResult r (λ a. ⊤) (Storable s' t)
can_remember s s' t (Ok a) call h = tt
can_remember s s' t (Err x) call h = can_store s' t x (can_answer s s' t (Err x) call h)

pub tried_lent : (lent : Value → List ℕ) (s s' b b' : List ℕ) (t : ℕ) (r : Result Answer Stop) (call : Call) → Tried s s' t r call
    → TriedLent lent s b b' r call
    → Lent lent s b b' call
tried_lent lent s s' b b' t (Ok a) call h k = k
tried_lent lent s s' b b' t (Err x) call h k = rw k (h.stopped.lent lent b)

pub performed_refused : {s s' : List ℕ} {t : ℕ} {c : CauseName} {a : Answer} {call : Call} → Halted s s' t (stop.Refused c) call
    → a ≡ Refused (number_of_cause c)
    → Performed s s' a call
unfolding with_wait
performed_refused h e = rw (e, h.same) h.stopped.performed

pub performed_waits : {s s' s'' : List ℕ} {t w : ℕ} {call : Call} → Halted s s' t (stop.Waits w) call → s'' ≡ put_word s' (set_at t) w
    → Performed s s'' (Waits w) call
unfolding with_wait
performed_waits {w = w} h e = let p = h.stopped.performed in rw (e, h.same) (rw (ne_eqb w 0 h.can_stop.0) at p)

-- the bytes behind a refusal and behind a wait
pub left_refused : (s : List ℕ) (t : ℕ) {o : Result Answer Stop} {x : Stop} {c : CauseName} → o ≡ Err x → x ≡ stop.Refused c → s ≡ left_by t o s
unfolding with_wait
left_refused s t e f = rw (e, f) refl

pub left_waits : (s : List ℕ) {s' : List ℕ} (t : ℕ) {w : ℕ} {o : Result Answer Stop} {x : Stop} → o ≡ Err x → x ≡ stop.Waits w
    → (w ≡ 0 → ⊥) → s' ≡ put_word s (set_at t) w → s' ≡ left_by t o s
unfolding with_wait
left_waits s t {w = w} e f n k = rw (e, f) (rw (ne_eqb w 0 n) k)

-- behind a wait for nobody
pub left_none : (s : List ℕ) (t : ℕ) {w : ℕ} {o : Result Answer Stop} {x : Stop} → o ≡ Err x → x ≡ stop.Waits w → w ≡ 0 → s ≡ left_by t o s
unfolding with_wait
left_none s t e f z = rw (e, f, z) refl

-- behind the wait --------------------------------------------------------------------------

-- none of 8, 9 and 10
pub free_fits : {s : List ℕ} {t : ℕ} {a : Site} {w : NeedWords} {st : Step} → Free s t a w st
    → (wrong_kind_on st (item (nodes s) a.place).now.kind ≡ false) ×
    (wrong_content_on st (item (nodes s) a.place).now.kind ≡ false)
    × (used_in st (nodes s) ≡ false)
free_fits {s} {a = a} {st = st} f =
    go (wrong_kind_on st (item (nodes s) a.place).now.kind) (wrong_content_on st (item (nodes s) a.place).now.kind)
    (used_in st (nodes s))
    f.fits
  where
    go : (x y z : Bool) → ◌≡◌ {A = ℕ} (cond x 8 (cond y 9 (cond z 10 0))) 0 → (x ≡ false) × (y ≡ false) × (z ≡ false)
    go true y z e = absurd (omega arith)
    go false true z e = absurd (omega arith)
    go false false true e = absurd (omega arith)
    go false false false e = (refl, refl, refl)

module _ {s : List ℕ} {t : ℕ} {a : Site} {w : NeedWords} {st : Step} (f : Free s t a w st) (room : Room) where
  to_late : (M : State) → Holds s M → next (step t st room) M
      ≡ checked (held_back a.t M) (refusals (late_causes a.t st room (nodes s) a.place))
      (granting a.t st M (nodes s) a.place)
  to_late M h =
      let e : set_of a.t st M (nodes s) a.place ≡ 0 = rw (← h.header) f.none in
      f.standing.next M h st refl room ∙ behind_own a.t st room M (nodes s) a.place f.fits ∙ rw e

  pub free_refused : (c : ℕ) → c ≡ first_cause (late_causes a.t st room (nodes s) a.place) → (c ≡ 0 → ⊥)
      → Stopped s s (Refused c) (step t st room)
  unfolding answer_of
  free_refused c e n =
      stopped_stays {o = refused c} (λ x. not_both f.standing.formed x)
      (λ M h. to_late M h
      ∙ first_applies a.t M [] (granting a.t st M (nodes s) a.place) (late_causes a.t st room (nodes s) a.place) c e n) refl
      (λ writing. refl)

  pub free_granted : {s' : List ℕ} → first_cause (late_causes a.t st room (nodes s) a.place) ≡ 0
      → Left s s' (set_header a.t (λ u. false) (header s)) (stepped a.t ((header s).depth a.t) st a.place (nodes s))
      → Grants s s' (answer_at st a.t (nodes s) a.place) (step t st room)
  free_granted {s'} e l = record {
    formed = f.standing.formed;
    outcome = λ M h. ap (λ z. z.outcome) (done M h);
    state = λ M h. rw (done M h) (left M h);
    long = l.long;
    behind = l.behind;
  }
    where
      done : (M : State) → Holds s M → next (step t st room) M ≡ granting a.t st M (nodes s) a.place
      done M h =
          to_late M h ∙ none_applies a.t M [] (granting a.t st M (nodes s) a.place)
          (late_causes a.t st room (nodes s) a.place) refl e

      none_held : (M : State) → Holds s M → any (λ m. number_held m M.tree) (inserts st) ≡ false
      none_held M h =
          any_same (λ m. number_held m M.tree) (λ m. ltb (place_of m (nodes s)) (length (nodes s))) (inserts st)
          (λ m i. held_place m M.tree ∙ rw (← h.rows)) ∙ (free_fits f).2

      left : (M : State) → Holds s M → Holds s' (forgetting a.t (with_tree M (tree_after a.t st M (nodes s) a.place)))
      left M h =
          let g = M.tree in
          let at = f.standing in
          let ls = locks st (numbers_above (nodes s) a.place) in
          let level : ℕ = M.header.depth a.t in
          let same : level ≡ (header s).depth a.t = ap (λ (q : Header). q.depth a.t) (sym h.header) in
          let u : Tree = act a.t level st g in
          let i : a.place < length (flat 0 g) = rw h.rows at at.inside in
          let o : number_of (item (flat 0 g) a.place) ≡ target st = rw h.rows at at.number in
          let at_level : flat 0 (tree_after a.t st M (nodes s) a.place) ≡ stepped a.t level st a.place (nodes s) =
          rw h.rows (step_rows a.t level g a.place (holds_unique h) i st o (rw h.rows at at.seen) (none_held M h)) in
          let rows = at_level ∙ ap (λ (z : ℕ). stepped a.t z st a.place (nodes s)) same in
          record {
            layout = l.layout;
            header = l.header ∙ ap (set_header a.t (λ u. false)) h.header;
            rows = l.nodes ∙ sym rows;
            unique = rw (l.nodes, ← rows)
                (unique_grant a.t ls u ∙ unique_act a.t level st g a.place (holds_unique h) i o (none_held M h));
            valid = valid_grant a.t ls u
                (valid_act a.t level st g a.place at.high h.valid (holds_unique h) i o (rw h.rows at (free_fits f).0));
            sets = among_forgetting M.header h.sets a.t;
          }

-- what `grant` left, as the rows with the step's locks
pub free_locked : {s s' : List ℕ} {t : ℕ} {a : Site} {w : NeedWords} {st : Step} → Free s t a w st → GrantedStep s s' a.t w a.way
    → Settled s s' a.t (granted_up a.t (need st) a.place (nodes s))
free_locked {a = a} {st = st} f g =
    let x = g.settled st f.needs in
    record { left = left_as _ _ (climbed_grants f.standing.climbed a.t (need st)) x.left; many = x.many }
