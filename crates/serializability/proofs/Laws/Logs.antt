-- A log with more in its entries than the history tells: each of the history's logs is read off it.
use Rattle.std.specs.Prelude.{ℕ, ◌≡◌, refl, Bool, true, false, cond, List, [], ◌∷◌, ◌++◌, map, eqb}
use Rattle.std.proofs.Math.Path.{fun_ext}
use Rattle.std.proofs.Common.{append-nil, eqb-true}
use Rattle.tree.specs.Plain.{Operation, does, opens, closes, undoes, told}
use Rattle.tree.specs.Laws.Lists.{map_append, map_map}
use Rattle.serializability.proofs.Laws.Tests.{by_test}
use Rattle.protocol.specs.Calls.{Call, start, load, begin, commit, abort, step, write, count_of, open_part, close_part, undo_part}
use Rattle.protocol.specs.Calls.{unreadable, stands_for}
use Rattle.protocol.specs.History.{Log, with_log, with_more, committed_then, logged}

module _ {X E : Type 0} (g : X → E) where
  abbrev each : List (Operation X) → List (Operation E)
  each l = map (told g) l

  -- each entry replaced by what g reads off it
  abbrev pub read_off : Log X → Log E
  read_off L = record {
    initial = L.initial;
    committed = map (map (told g)) L.committed;
    open_log = λ u. map (told g) (L.open_log u);
  }

  map_log : (t : ℕ) (l : List (Operation X)) (log : ℕ → List (Operation X))
      → ◌≡◌ {A = ℕ → List (Operation E)} (λ u. each (with_log t l log u)) (with_log t (each l) (λ u. each (log u)))
  map_log t l log = fun_ext (λ u. by_test (eqb u t) (λ e. rw e) (λ e. rw e))

  if_read : (b : Bool) (L K : Log X) (L' : Log E) → read_off L ≡ L' → read_off (cond b L K) ≡ cond b L' (read_off K)
  if_read true L K L' e = e
  if_read false L K L' e = refl

  -- further operations of t
  more_read : (t : ℕ) (l : List (Operation X)) (L : Log X) → read_off (with_more t l L) ≡ with_more t (each l) (read_off L)
  more_read t l L = rw (map_log t (L.open_log t ++ l) L.open_log, map_append (told g) (L.open_log t) l)

  steps_read : (l : List X) → each (map does l) ≡ map does (map g l)
  steps_read [] = refl
  steps_read (x ∷ l) = rw (steps_read l)

  pub logged_read : (c : Call) (b : Bool) (l : List X) (L : Log X) → read_off (logged c b l L) ≡ logged c b (map g l) (read_off L)
  logged_read start b l L = if_read b _ L _ refl
  logged_read (load (unreadable cause offset)) b l L = refl
  logged_read (load (stands_for d h)) b l L = if_read b _ L _ refl
  logged_read (begin t) b l L = if_read b _ L _ (rw (map_log t [] L.open_log))
  logged_read (commit t) b l L = if_read b _ L _ (rw (map_log t [] L.open_log, map_append each L.committed (L.open_log t ∷ [])))
  logged_read (abort t) b l L = if_read b _ L _ (rw (map_log t [] L.open_log))
  logged_read (step t s room) b l L = rw (more_read t (map does l) L, steps_read l)
  logged_read write b l L = refl
  logged_read (count_of n) b l L = refl
  logged_read (open_part t) b l L = if_read b _ L _ (more_read t (opens ∷ []) L)
  logged_read (close_part t) b l L = if_read b _ L _ (more_read t (closes ∷ []) L)
  logged_read (undo_part t) b l L = if_read b _ L _ (more_read t (undoes ∷ []) L)

  -- of the committed transactions and then of b
  pub committed_read : (L : Log X) (b : List ℕ) → committed_then (read_off L) b ≡ map (map (told g)) (committed_then L b)
  committed_read L b = rw (
    ← map_map each L.open_log (λ u. each (L.open_log u)) b (λ u m. refl),
    ← map_append each L.committed (map L.open_log b),
  )

-- a log with the same operations of t is the log
pub with_log_same : {E : Type 0} (t : ℕ) (l : List (Operation E)) (log : ℕ → List (Operation E)) → l ≡ log t → with_log t l log ≡ log
with_log_same t l log e = fun_ext (λ u. by_test (eqb u t) (λ i. rw (i, eqb-true u t i) e) (λ i. rw i))

-- a call that is not granted, with no step in it
pub logged_none : {E : Type 0} (c : Call) (L : Log E) → logged c false [] L ≡ L
logged_none start L = refl
logged_none (load (unreadable cause offset)) L = refl
logged_none (load (stands_for d h)) L = refl
logged_none (begin t) L = refl
logged_none (commit t) L = refl
logged_none (abort t) L = refl
logged_none (step t s room) L = rw (with_log_same t (L.open_log t ++ []) L.open_log (append-nil (L.open_log t)))
logged_none write L = refl
logged_none (count_of n) L = refl
logged_none (open_part t) L = refl
logged_none (close_part t) L = refl
logged_none (undo_part t) L = refl
