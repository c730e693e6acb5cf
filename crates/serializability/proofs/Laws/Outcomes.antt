-- What a list of checks makes of a call, and with that a claim about every call, from its granted calls, its waits and its refusals.
use Rattle.std.specs.Prelude.{ℕ, ◌≡◌, Bool, true, false, length, take, drop, eqb, leb}
use Rattle.std.proofs.Math.Path.{refl}
use Rattle.std.proofs.Common.{sym, ap, ◌∙◌}
use Rattle.std.proofs.Math.Bool.{not}
use Rattle.std.proofs.lemmas.Bool.{false≢true, not-false}
use mathlib.Core.List.{List, [], ◌∷◌, Memᴰ}
use Rattle.tree.specs.Lists.{any, every, has, keep}
use Rattle.tree.specs.Laws.Lists.{every_at, keep_in}
use Rattle.tree.specs.Document.{Document, lines, here}
use Rattle.tree.specs.Steps.{Step, done, how_many, unknown, wrong_kind, wrong_content, misplaced, answer}
use Rattle.locks.specs.Needs.{needs}
use Rattle.serializability.proofs.Laws.Tests.{by_test}
use Rattle.protocol.specs.State.{State, is_transaction, transactions, callers_document, committed_document, act, grant, start_state}
use Rattle.protocol.specs.State.{with_tree, opened, forgetting, committed, aborted, with_document, part_opened, part_closed}
use Rattle.protocol.specs.State.{part_taken_back}
use Rattle.protocol.specs.Lent.{Room}
use Rattle.protocol.specs.Causes.{causes, not_a_transaction, already_open, not_open, no_such_node, open_at_load, no_more_commits}
use Rattle.protocol.specs.Causes.{part_not_allowed}
use Rattle.protocol.specs.Calls.{Call, start, load, begin, commit, abort, step, write, count_of, open_part, close_part, undo_part, Input}
use Rattle.protocol.specs.Calls.{unreadable, stands_for, node_limit, part_limit, loadable, Outcome, granted, written, waits, refused}
use Rattle.protocol.specs.Calls.{refused_at, Next, unchanged, becomes, grants_step, held_back, Check, checked, refusing, wait_set}
use Rattle.protocol.specs.Calls.{number_in_use, closes_ring, step_checks, judged, if_open, loaded, commit_limit, commits_reached}
use Rattle.protocol.specs.Calls.{commit_count, next}

-- none of the checks applies
abbrev pub AllPassed : List Check → Type 0
AllPassed [] = Unit {0}
AllPassed (c ∷ cs) = (c.1 ≡ false) × AllPassed cs

-- one of the checks applies, or none does
pub checked_cases : (P : Next → Type 0) (stop : Outcome → Next) (cs : List Check) (n : Next)
    → ((c : Check) → Memᴰ c cs → c.1 ≡ true → P (stop c.0)) → (AllPassed cs → P n) → P (checked stop cs n)
checked_cases P stop [] n f g = g tt
checked_cases P stop (c ∷ cs) n f g = by_test c.1 (λ e. rw e (f c (Memᴰ.head refl) e))
    (λ e. rw e (checked_cases P stop cs n (λ x i. f x (Memᴰ.tail i)) (λ p. g (e, p))))

-- an outcome with a property that n's has not is that of a check with the property, which applies; `stop` keeps the outcome
pub checked_by : (p : Outcome → Bool) (stop : Outcome → Next) → ((o : Outcome) → (stop o).outcome ≡ o) → (cs : List Check) (n : Next)
    → p n.outcome ≡ false → p (checked stop cs n).outcome ≡ true
    → (c : Check) × Memᴰ c (keep (λ x. p x.0) cs) × (c.1 ≡ true) × ((checked stop cs n).outcome ≡ c.0)
checked_by p stop same cs n h = checked_cases
    (λ x. p x.outcome ≡ true → (c : Check) × Memᴰ c (keep (λ y. p y.0) cs) × (c.1 ≡ true) × (x.outcome ≡ c.0)) stop cs n
    (λ c i e k. (c, keep_in (λ y. p y.0) cs i (sym (ap p (same c.0)) ∙ k), e, same c.0))
    (λ q k. absurd (false≢true (sym h ∙ k)))

-- what is held back has the outcome of its check
pub held_back_outcome : (t : ℕ) (M : State) (o : Outcome) → (held_back t M o).outcome ≡ o
held_back_outcome t M (granted v) = refl
held_back_outcome t M (written d) = refl
held_back_outcome t M (waits w) = refl
held_back_outcome t M (refused c) = refl
held_back_outcome t M (refused_at c o) = refl

-- a refusal by one of the causes
abbrev pub is_refusal : Outcome → Bool
is_refusal (granted v) = false
is_refusal (written d) = false
is_refusal (waits w) = false
is_refusal (refused c) = has c causes
is_refusal (refused_at c o) = false

-- what a granted step has passed
pub record Passed (t : ℕ) (s : Step) (M : State) (d : Document) : Type 0 where
  pub there : unknown s d ≡ false
  pub kind : wrong_kind s d ≡ false
  pub content : wrong_content s d ≡ false
  pub unheld : number_in_use s M.tree ≡ false
  pub clear : eqb (wait_set t (needs s d) M) 0 ≡ true
  pub place : misplaced s d ≡ false

-- a claim about a call in the state M and what it makes of M: of the refusals, of the waits, and of each granted call
pub record Cases (P : Call → Next → Type 0) (M : State) : Type 0 where
  pub refusal : (c : Call) (cause : ℕ) → has cause causes ≡ true → P c (unchanged (refused cause) M)
  pub at_start : P start (becomes done start_state)
  pub at_unread : (c i : ℕ) → P (load (unreadable c i)) (unchanged (refused_at c i) M)
  pub at_load : (d : Document) (h : loadable node_limit d ≡ true) → any M.header.is_open transactions ≡ false
      → P (load (stands_for d h)) (becomes (how_many (length (lines d))) (with_document d M))
  pub at_begin : (t : ℕ) → is_transaction t ≡ true → M.header.is_open t ≡ false → P (begin t) (becomes done (opened t M))
  pub at_commit : (t : ℕ) → is_transaction t ≡ true → M.header.is_open t ≡ true → commits_reached commit_limit M ≡ false
      → P (commit t) (becomes done (committed t M))
  pub at_abort : (t : ℕ) → is_transaction t ≡ true → M.header.is_open t ≡ true → P (abort t) (becomes done (aborted t M))
  pub at_wait : (t : ℕ) (s : Step) (room : Room) → is_transaction t ≡ true → M.header.is_open t ≡ true
      → let w = wait_set t (needs s (callers_document t M.tree)) M in closes_ring t w M ≡ false → eqb w 0 ≡ false
      → P (step t s room) (held_back t M (waits w))
  pub at_step : (t : ℕ) (s : Step) (room : Room) → is_transaction t ≡ true → M.header.is_open t ≡ true
      → let d = callers_document t M.tree in Passed t s M d
      → P (step t s room) (grants_step s (answer s d)
      (forgetting t (with_tree M (grant t (needs s d) (act t (M.header.depth t) s M.tree)))))
  pub at_write : P write (unchanged (written (committed_document M)) M)
  pub at_count : (n : ℕ) → here n (committed_document M) ≡ true → P (count_of n) (becomes (how_many (commit_count n M.tree)) M)
  pub at_open_part : (t : ℕ) → is_transaction t ≡ true → M.header.is_open t ≡ true → leb part_limit (M.header.depth t) ≡ false
      → P (open_part t) (becomes done (part_opened t M))
  pub at_close_part : (t : ℕ) → is_transaction t ≡ true → M.header.is_open t ≡ true → eqb (M.header.depth t) 0 ≡ false
      → P (close_part t) (becomes done (part_closed t M))
  pub at_undo_part : (t : ℕ) → is_transaction t ≡ true → M.header.is_open t ≡ true → eqb (M.header.depth t) 0 ≡ false
      → P (undo_part t) (becomes done (part_taken_back t M))

module _ (P : Call → Next → Type 0) (M : State) (k : Cases P M) where
  -- behind checks that refuse, where `stop` changes nothing at a refusal
  behind : (c : Call) (stop : Outcome → Next) → ((cause : ℕ) → stop (refused cause) ≡ unchanged (refused cause) M) → (cs : List Check)
      (n : Next) → every (λ x. is_refusal x.0) cs ≡ true → (AllPassed cs → P c n) → P c (checked stop cs n)
  behind c stop e cs n h g = checked_cases (P c) stop cs n (λ x i _. refuses x.0 (every_at (λ y. is_refusal y.0) cs h i)) g
    where
      refuses : (o : Outcome) → is_refusal o ≡ true → P c (stop o)
      refuses (granted v) h = absurd (false≢true h)
      refuses (written d) h = absurd (false≢true h)
      refuses (waits w) h = absurd (false≢true h)
      refuses (refused cause) h = rw (e cause) (k.refusal c cause h)
      refuses (refused_at cause i) h = absurd (false≢true h)

  refusing_case : (c : Call) (cs : List Check) (n : Next) → every (λ x. is_refusal x.0) cs ≡ true → (AllPassed cs → P c n)
      → P c (refusing cs M n)
  refusing_case c = behind c (λ o. unchanged o M) (λ cause. refl)

  if_open_case : (c : Call) (t : ℕ) (n : Next) → (is_transaction t ≡ true → M.header.is_open t ≡ true → P c n) → P c (if_open t M n)
  if_open_case c t n g =
      refusing_case c ((refused not_a_transaction, not (is_transaction t)) ∷ (refused not_open, not (M.header.is_open t)) ∷ []) n refl
      (λ p. g (not-false _ p.0) (not-false _ p.1.0))

  -- one check more
  one_more_case : (c : Call) (t cause : ℕ) (x : Bool) (n : Next) → has cause causes ≡ true
      → (is_transaction t ≡ true → M.header.is_open t ≡ true → x ≡ false → P c n)
      → P c (if_open t M (refusing ((refused cause, x) ∷ []) M n))
  one_more_case c t cause x n e g = if_open_case c t _ (λ h o.
      refusing_case c ((refused cause, x) ∷ []) n (rw e) (λ p. g h o p.0))

  load_case : (i : Input) → any M.header.is_open transactions ≡ false → P (load i) (loaded i M)
  load_case (unreadable c i) o = k.at_unread c i
  load_case (stands_for d h) o = k.at_load d h o

  -- 7, 8, 9, 10 and 17 before the wait, then the wait, then 11, 12, 13
  step_case : (t : ℕ) (s : Step) (room : Room) → is_transaction t ≡ true → M.header.is_open t ≡ true
      → P (step t s room) (judged t s room M (callers_document t M.tree))
  unfolding judged
  step_case t s room h o =
      let d = callers_document t M.tree in
      let cs = step_checks t s room M d in
      behind (step t s room) (held_back t M) (λ cause. refl) (take 5 cs) _ refl (λ p. by_test (eqb (wait_set t (needs s d) M) 0)
      (λ z. rw z (behind (step t s room) (held_back t M) (λ cause. refl) (drop 6 cs) _ refl (λ q. k.at_step t s room h o (record {
        there = p.0;
        kind = p.1.0;
        content = p.1.1.0;
        unheld = p.1.1.1.0;
        clear = z;
        place = q.0;
      }))))
      (λ z. rw z (k.at_wait t s room h o p.1.1.1.1.0 z)))

  pub every_call : (c : Call) → P c (next c M)
  unfolding next
  every_call start = k.at_start
  every_call (load i) =
      refusing_case (load i) ((refused open_at_load, any M.header.is_open transactions) ∷ []) _ refl (λ p. load_case i p.0)
  every_call (begin t) =
      refusing_case (begin t) ((refused not_a_transaction, not (is_transaction t)) ∷ (refused already_open, M.header.is_open t) ∷ [])
      _ refl (λ p. k.at_begin t (not-false _ p.0) p.1.0)
  every_call (commit t) = one_more_case (commit t) t no_more_commits (commits_reached commit_limit M) _ refl (k.at_commit t)
  every_call (abort t) = if_open_case (abort t) t _ (k.at_abort t)
  every_call (step t s room) = if_open_case (step t s room) t _ (step_case t s room)
  every_call write = k.at_write
  every_call (count_of n) =
      refusing_case (count_of n) ((refused no_such_node, not (here n (committed_document M))) ∷ []) _ refl
      (λ p. k.at_count n (not-false _ p.0))
  every_call (open_part t) = one_more_case (open_part t) t part_not_allowed (leb part_limit (M.header.depth t)) _ refl (k.at_open_part t)
  every_call (close_part t) = one_more_case (close_part t) t part_not_allowed (eqb (M.header.depth t) 0) _ refl (k.at_close_part t)
  every_call (undo_part t) = one_more_case (undo_part t) t part_not_allowed (eqb (M.header.depth t) 0) _ refl (k.at_undo_part t)
