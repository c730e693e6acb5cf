-- So much of a log with another level in it.
use Rattle.std.specs.Prelude.{ℕ, zero, suc, ◌≤◌, ◌≡◌, refl, true, eqb}
use Rattle.std.proofs.Common.{◌∙◌, arith, eqb-true, eq-eqb, ne_eqb}
use Rattle.std.proofs.lemmas.Bool.{eqb-false}
use Rattle.serializability.proofs.Laws.Tests.{by_test}
use Rattle.serializability.proofs.Laws.Parts.{Entry, Parts, then, Of, LevelledLog, first_levels, Extent, below, all, log_within}
use Rattle.serializability.proofs.Laws.Parts.{Proper, with_level}
use Rattle.serializability.proofs.Laws.Runs.{touched_in, touched_then, of_then_left}
use Rattle.serializability.proofs.Laws.Levels.{first_levels_same}

-- more levels ----------------------------------------------------------------------------------

-- what holds of a log holds of more of it
first_more : (P : Parts → Type 0) (c : LevelledLog) → ((l k : Parts) → P l → P (then l k)) → (n m : ℕ) → n ≤ m → P (first_levels n c)
    → P (first_levels m c)
first_more P c h n zero e p = rw (the_same) at p
  where
    the_same : n ≡ zero
    the_same = omega arith
first_more P c h n (suc m) e p = by_test (eqb n (suc m)) (λ i. rw (eqb-true n (suc m) i) at p)
    (λ i. h (first_levels m c) (c m) (first_more P c h n m (omega (arith, eqb-false n (suc m) i)) p))

-- so much of a log is of the whole
pub within_whole : (P : Parts → Type 0) → ((l k : Parts) → P l → P (then l k)) → (x : Extent) (d : ℕ) (c : LevelledLog) → Proper d x
    → P (log_within x d c) → P (log_within all d c)
within_whole P h (below n) d c k p = let e = k n refl in first_more P c h n (suc d) (omega (arith, e)) p
within_whole P h all d c k p = p

pub of_within : (x : Extent) (d : ℕ) (c : LevelledLog) → Proper d x → {y : Entry} → Of y (log_within x d c) → Of y (log_within all d c)
of_within x d c k {y} i = within_whole (Of y) (λ l j. of_then_left l j) x d c k i

pub touched_whole : (x : Extent) (d : ℕ) (c : LevelledLog) → Proper d x → (m : ℕ) → touched_in (log_within x d c) m ≡ true
    → touched_in (log_within all d c) m ≡ true
touched_whole x d c k m e = within_whole (λ l. touched_in l m ≡ true) (λ l j i. touched_then l j m ∙ rw i) x d c k e

-- another level --------------------------------------------------------------------------------

module _ (t d : ℕ) (l : Parts) (log : ℕ → LevelledLog) where
  pub level_other : (u : ℕ) → (u ≡ t → ⊥) → (e : ℕ) → with_level t d l log u e ≡ log u e
  level_other u ne e = rw (ne_eqb u t ne)

  pub level_apart : (u e : ℕ) → (e ≡ d → ⊥) → with_level t d l log u e ≡ log u e
  level_apart u e ne = by_test (eqb u t) (λ i. rw (i, ne_eqb e d ne)) (λ i. rw i)

  pub level_own : with_level t d l log t d ≡ l
  level_own = rw (eq-eqb t t refl, eq-eqb d d refl)

-- levels that are the same
pub within_same : (x : Extent) (d : ℕ) (c c' : LevelledLog) → ((e : ℕ) → c' e ≡ c e) → log_within x d c' ≡ log_within x d c
within_same (below n) d c c' h = first_levels_same n c c' (λ e i. h e)
within_same all d c c' h = first_levels_same (suc d) c c' (λ e i. h e)

module _ (t d : ℕ) (l : Parts) (log : ℕ → LevelledLog) where
  -- the logs of others
  pub within_other : (x : Extent) (k u : ℕ) → (u ≡ t → ⊥) → log_within x k (with_level t d l log u) ≡ log_within x k (log u)
  within_other x k u ne = within_same x k (log u) (with_level t d l log u) (level_other t d l log u ne)

  -- the levels below
  pub within_lower : (n : ℕ) → n ≤ d → first_levels n (with_level t d l log t) ≡ first_levels n (log t)
  within_lower n k = first_levels_same n (log t) (with_level t d l log t) (λ e i. level_apart t d l log t e (λ z. omega (arith, z)))

  -- this level with those below
  pub within_last : first_levels (suc d) (with_level t d l log t) ≡ then (first_levels d (log t)) l
  within_last = rw (within_lower d (omega arith), level_own t d l log)
