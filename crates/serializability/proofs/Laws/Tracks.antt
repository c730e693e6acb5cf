-- A log of operations in step with the state.
use Rattle.std.specs.Prelude.{ℕ, suc, ◌≡◌, true, cond, List, [], ◌∷◌, ◌++◌, length, eqb}
use Rattle.std.proofs.Common.{ap, ◌∙◌, eqb-true}
use Rattle.std.proofs.Math.Path.{fun_ext}
use Rattle.tree.specs.Document.{Document, legal}
use Rattle.tree.specs.Plain.{Operation, does, opens, closes, undoes}
use Rattle.protocol.specs.State.{State}
use Rattle.protocol.specs.History.{Log, with_log}
use Rattle.serializability.proofs.Laws.Tests.{by_test}
use Rattle.serializability.proofs.Laws.Parts.{Entry, Parts, end, did, undone, then, LevelledLog, with_level}
use Rattle.serializability.proofs.Laws.Runs.{Run}
use Rattle.serializability.proofs.Laws.Levels.{left_level, operate, levels_of, levels_more, whole_log}
use Rattle.serializability.proofs.Laws.PlainRun.{whole_logs}
use Rattle.serializability.proofs.Laws.Good.{whole, Good}
use Rattle.serializability.proofs.Laws.CountsKept.{counts_of, Counted}

-- of each transaction's operations: what it did at each level, and how many of its parts are open
abbrev pub by_levels : (ℕ → List (Operation Entry)) → ℕ → LevelledLog
by_levels flat u = (levels_of (flat u)).1

abbrev pub open_parts : (ℕ → List (Operation Entry)) → ℕ → ℕ
open_parts flat u = (levels_of (flat u)).0

-- all that u did, by its operations
pub whole_is : (flat : ℕ → List (Operation Entry)) (depth : ℕ → ℕ) → ((u : ℕ) → depth u ≡ open_parts flat u) → (u : ℕ)
    → whole (by_levels flat) depth u ≡ whole_log (flat u)
whole_is flat depth h u = rw (h u)

-- the log's committed transactions lead from its first document, a legal one, to c, which is the committed document; they are as many as
-- were counted, and its nodes bear the counts of the plain run
pub record Tracks (L : Log Entry) (M : State) : Type 0 where
  pub first_legal : legal L.initial ≡ true
  pub c : Document
  pub run : Run L.initial (whole_logs L.committed) c
  pub good : Good c (by_levels L.open_log) M
  pub depths : (u : ℕ) → M.header.depth u ≡ open_parts L.open_log u
  pub commits : M.header.commits ≡ length L.committed
  pub counts : Counted (counts_of L) M.tree

-- the logs of t replaced ------------------------------------------------------------------------

module _ (t : ℕ) (flat : ℕ → List (Operation Entry)) where
  -- the operations of t are l
  module _ (l : List (Operation Entry)) (u : ℕ) where
    levels_with : levels_of (with_log t l flat u) ≡ cond (eqb u t) (levels_of l) (levels_of (flat u))
    levels_with = by_test (eqb u t) (λ e. rw e) (λ e. rw e)

    pub parts_with : open_parts (with_log t l flat) u ≡ cond (eqb u t) (levels_of l).0 (open_parts flat u)
    parts_with = ap (λ (x : ℕ × LevelledLog). x.0) levels_with ∙ by_test (eqb u t) (λ e. rw e) (λ e. rw e)

    pub log_with : (n : ℕ) → by_levels (with_log t l flat) u n ≡ cond (eqb u t) ((levels_of l).1 n) (by_levels flat u n)
    log_with n = ap (λ (x : ℕ × LevelledLog). x.1 n) levels_with ∙ by_test (eqb u t) (λ e. rw e) (λ e. rw e)

  -- one operation more
  more_log : (o : Operation Entry) (u l : ℕ) → by_levels (with_log t (flat t ++ (o ∷ [])) flat) u l
      ≡ cond (eqb u t) ((operate o (open_parts flat t) (by_levels flat t)).1 l) (by_levels flat u l)
  more_log o u l = log_with (flat t ++ (o ∷ [])) u l
      ∙ ap (λ (x : ℕ × LevelledLog). cond (eqb u t) (x.1 l) (by_levels flat u l)) (levels_more (flat t) o)

  -- what was done at each level: after a step
  pub log_does : (x : Entry) → by_levels (with_log t (flat t ++ (does x ∷ [])) flat)
      ≡ with_level t (open_parts flat t) (then (by_levels flat t (open_parts flat t)) (did x end)) (by_levels flat)
  log_does x = fun_ext (λ u. fun_ext (λ l. more_log (does x) u l ∙ by_test (eqb u t) (λ e. rw (e, eqb-true u t e)) (λ e. rw e)))

  -- an opening
  pub log_opens : by_levels (with_log t (flat t ++ (opens ∷ [])) flat) ≡ by_levels flat
  log_opens = fun_ext (λ u. fun_ext (λ l. more_log opens u l ∙ by_test (eqb u t) (λ e. rw (e, eqb-true u t e)) (λ e. rw e)))

  -- a close or an undo of the last of suc d parts
  module _ (d : ℕ) (h : open_parts flat t ≡ suc d) where
    left_log : (f : Parts → Parts) (u l : ℕ)
        → cond (eqb u t) ((left_level f (open_parts flat t) (by_levels flat t)).1 l) (by_levels flat u l)
        ≡ with_level t d (then (by_levels flat t d) (f (by_levels flat t (suc d)))) (with_level t (suc d) end (by_levels flat)) u l
    left_log f u l = by_test (eqb u t) (λ e. rw (h, e, eqb-true u t e)) (λ e. rw e)

    pub log_closes : by_levels (with_log t (flat t ++ (closes ∷ [])) flat)
        ≡ with_level t d (then (by_levels flat t d) (by_levels flat t (suc d))) (with_level t (suc d) end (by_levels flat))
    log_closes = fun_ext (λ u. fun_ext (λ l. more_log closes u l ∙ left_log (λ k. k) u l))

    pub log_undoes : by_levels (with_log t (flat t ++ (undoes ∷ [])) flat)
        ≡ with_level t d (then (by_levels flat t d) (undone (by_levels flat t (suc d)) end)) (with_level t (suc d) end (by_levels flat))
    log_undoes = fun_ext (λ u. fun_ext (λ l. more_log undoes u l ∙ left_log (λ k. undone k end) u l))
