-- What the number answered tells of the outcome.
use Rattle.std.specs.Prelude.{◌≡◌, refl, ℕ, ◌≤◌, ◌<◌, Bool, true, false, cond, ◌↔◌, eqb, ltb}
use Rattle.std.proofs.Common.{sym, ap, ◌∙◌, true≢false, arith, ltb-true, eqb-true}
use Rattle.std.proofs.lemmas.Bool.{false≢true}
use Rattle.tree.specs.Lists.{every, has}
use Rattle.tree.specs.Laws.Lists.{every_at, has_in}
use Rattle.tree.specs.Document.{Document}
use Rattle.tree.specs.Steps.{done, kind_parent, child_is, none, content_is, numbers_are, cells_are, how_many}
use Rattle.protocol.specs.Causes.{causes}
use Rattle.protocol.specs.Calls.{Outcome, granted, written, waits, refused, refused_at}
use Rattle.protocol.specs.History.{is_granted, is_wait, waited_for}
use Rattle.protocol.specs.Answers.{granted_answer, answer_of, packed, code_of}
use Rattle.protocol.specs.declared.Answer.{Answer}
use Rattle.protocol.specs.declared.Answer.TheVariants.{Done, Count, Waits}
use Rattle.traces.specs.Exchange.{outcome, cause, value, told_waiting, told_set}

-- one of the causes, where it is a refusal
abbrev pub listed : Outcome → Bool
listed (granted v) = true
listed (written d) = true
listed (waits set) = true
listed (refused c) = has c causes
listed (refused_at c offset) = has c causes

-- a cause takes one byte of the number
few_causes : every (λ c. ltb c 256) causes ≡ true
few_causes = refl

cause_byte : (c : ℕ) → has c causes ≡ true → c < 256
cause_byte c h = ltb-true c 256 (every_at (λ c. ltb c 256) causes few_causes (has_in c causes h))

-- one that is no wait has no set
no_set : (o : Outcome) → is_wait o ≡ false → waited_for o ≡ 0
no_set (granted v) h = refl
no_set (written d) h = refl
no_set (waits w) h = absurd (true≢false h)
no_set (refused c) h = refl
no_set (refused_at c o) h = refl

granted_no_wait : (o : Outcome) → is_granted o ≡ true → is_wait o ≡ false
granted_no_wait (granted v) h = refl
granted_no_wait (written d) h = refl
granted_no_wait (waits w) h = absurd (false≢true h)
granted_no_wait (refused c) h = refl
granted_no_wait (refused_at c o) h = refl

-- the cause of a refusal
refused_by : Outcome → ℕ
refused_by (granted v) = 0
refused_by (written d) = 0
refused_by (waits w) = 0
refused_by (refused c) = c
refused_by (refused_at c o) = c

pub record Told (code : ℕ) (o : Outcome) : Type 0 where
  pub outcomes : outcome code ≤ 2
  pub causes : outcome code ≡ 2 → has (cause code) causes ≡ true
  pub no_cause : (outcome code ≡ 2 → ⊥) → cause code ≡ 0
  pub not_granted : (outcome code ≡ 0 → ⊥) → is_granted o ≡ false
  pub as_granted : (outcome code ≡ 0) ↔ (is_granted o ≡ true)
  pub waiting : outcome code ≡ 1 → o ≡ waits (value code)
  pub wait : told_waiting code ≡ is_wait o
  pub set : told_set code ≡ waited_for o
  pub refusal : (c : ℕ) → o ≡ refused c → cause code ≡ c

-- the parts of a packed number
packed_outcome : (o c v : ℕ) → o < 256 → outcome (packed o c v) ≡ o
packed_outcome o c v h = omega arith

packed_cause : (o c v : ℕ) → o < 256 → c < 256 → cause (packed o c v) ≡ c
packed_cause o c v h k = omega arith

packed_value : (o c v : ℕ) → o < 256 → c < 256 → value (packed o c v) ≡ v
packed_value o c v h k = omega arith

told_granted : (v : ℕ) (o : Outcome) → is_granted o ≡ true → Told (packed 0 0 v) o
told_granted v o g =
    let e : outcome (packed 0 0 v) ≡ 0 = packed_outcome 0 0 v (omega arith) in
    let c : cause (packed 0 0 v) ≡ 0 = packed_cause 0 0 v (omega arith) (omega arith) in
    record {
      outcomes = omega arith;
      causes = λ h. absurd (omega arith);
      no_cause = λ _. c;
      not_granted = λ n. absurd (n e);
      as_granted = (λ _. g, λ _. e);
      waiting = λ h. absurd (omega arith);
      wait = ap (λ (z : ℕ). eqb z 1) e ∙ sym (granted_no_wait o g);
      set = ap (λ (z : ℕ). cond (eqb z 1) (value (packed 0 0 v)) 0) e ∙ sym (no_set o (granted_no_wait o g));
      refusal = λ c h. absurd (false≢true (sym (ap is_granted h) ∙ g));
    }

told_waits : (w : ℕ) → Told (packed 1 0 w) (waits w)
told_waits w =
    let e : outcome (packed 1 0 w) ≡ 1 = packed_outcome 1 0 w (omega arith) in
    let c : cause (packed 1 0 w) ≡ 0 = packed_cause 1 0 w (omega arith) (omega arith) in
    record {
      outcomes = omega arith;
      causes = λ h. absurd (omega arith);
      no_cause = λ _. c;
      not_granted = λ _. refl;
      as_granted = (λ h. absurd (omega arith), λ h. absurd (false≢true h));
      waiting = λ _. ap waits (sym (packed_value 1 0 w (omega arith) (omega arith)));
      wait = ap (λ (z : ℕ). eqb z 1) e;
      set = ap (λ (z : ℕ). cond (eqb z 1) (value (packed 1 0 w)) 0) e ∙ packed_value 1 0 w (omega arith) (omega arith);
      refusal = λ c h. absurd (true≢false (ap is_wait h));
    }

told_refused : (k v : ℕ) (o : Outcome) → has k causes ≡ true → is_granted o ≡ false → is_wait o ≡ false
    → ((c : ℕ) → o ≡ refused c → k ≡ c)
    → Told (packed 2 k v) o
told_refused k v o l g n f =
    let e : outcome (packed 2 k v) ≡ 2 = packed_outcome 2 k v (omega arith) in
    let c : cause (packed 2 k v) ≡ k = packed_cause 2 k v (omega arith) (cause_byte k l) in
    record {
      outcomes = omega arith;
      causes = λ _. rw c l;
      no_cause = λ m. absurd (m e);
      not_granted = λ _. g;
      as_granted = (λ h. absurd (omega arith), λ h. absurd (false≢true (sym g ∙ h)));
      waiting = λ h. absurd (omega arith);
      wait = ap (λ (z : ℕ). eqb z 1) e ∙ sym n;
      set = ap (λ (z : ℕ). cond (eqb z 1) (value (packed 2 k v)) 0) e ∙ sym (no_set o n);
      refusal = λ d h. c ∙ f d h;
    }

-- where nothing is written, so that `writing` plays no part
pub told : (o : Outcome) → listed o ≡ true → Told (code_of (answer_of (λ d. Done) o)) o
unfolding code_of answer_of granted_answer refused_by
told (granted done) l = told_granted 0 (granted done) refl
told (granted (kind_parent kind parent)) l = told_granted _ _ refl
told (granted (child_is number kind)) l = told_granted _ _ refl
told (granted none) l = told_granted 0 (granted none) refl
told (granted (content_is b)) l = told_granted _ _ refl
told (granted (numbers_are b)) l = told_granted _ _ refl
told (granted (cells_are b)) l = told_granted _ _ refl
told (granted (how_many n)) l = told_granted _ _ refl
told (written d) l = told_granted 0 (written d) refl
told (waits w) l = told_waits w
told (refused c) l = told_refused c 0 (refused c) l refl refl (λ d h. ap refused_by h)
told (refused_at c i) l = told_refused c i (refused_at c i) l refl refl (λ d h. ap refused_by h)

-- an answer that does not depend on `writing` is not that of a write
pub not_written : (r : Answer) (d : Document) → ((writing : Document → Answer) → r ≡ answer_of writing (written d)) → ⊥
unfolding answer_of code_of
not_written r d h = let e : code_of (Waits 0) ≡ code_of Done = ap code_of (sym (h (λ d. Waits 0)) ∙ h (λ d. Done)) in omega arith

pub count_value : (n : ℕ) → value (code_of (Count n)) ≡ n
unfolding code_of
count_value n = packed_value 0 0 n (omega arith) (omega arith)

-- a number with a cause is that of a refusal
pub told_cause : (code : ℕ) (o : Outcome) → Told code o → ((c i : ℕ) → o ≡ refused_at c i → ⊥) → (k : ℕ) → (k ≡ 0 → ⊥) → cause code ≡ k
    → o ≡ refused k
told_cause code o t n k z e = go o refl
  where
    go : (p : Outcome) → o ≡ p → p ≡ refused k
    go (granted v) h = absurd (z (sym e ∙ t.no_cause (λ x. omega (arith, t.as_granted.1 (ap is_granted h)))))
    go (written d) h = absurd (z (sym e ∙ t.no_cause (λ x. omega (arith, t.as_granted.1 (ap is_granted h)))))
    go (waits w) h = absurd (z (sym e ∙ t.no_cause (λ x. omega (arith, eqb-true (outcome code) 1 (t.wait ∙ ap is_wait h)))))
    go (refused c) h = ap refused (sym (t.refusal c h) ∙ e)
    go (refused_at c i) h = absurd (n c i h)
