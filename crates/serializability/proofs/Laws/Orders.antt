-- Orders of transactions: the logs of transactions whose locks do not clash may be run in any order.
use Rattle.std.specs.Prelude.{ℕ, ◌≡◌, refl, true, false, ◌||◌, List, [], ◌∷◌, ◌++◌, eqb}
use Rattle.std.proofs.Common.{sym, ap, ◌∙◌, true≢false, ⊎_elim, eqb-true, eq-eqb}
use Rattle.std.proofs.lemmas.Bool.{false≢true, eqb-false}
use Rattle.std.proofs.Math.Bool.{or-true}
use Rattle.tree.specs.Lists.{has, distinct}
use Rattle.tree.specs.Document.{Document}
use Rattle.tree.specs.Laws.Tests.{or_left, or_right, or_swap, or_cases, refuted}
use Rattle.tree.specs.Laws.Lists.{eqb_flip}
use Rattle.serializability.proofs.Laws.Lines.{Unique}
use Rattle.serializability.proofs.Laws.Parts.{Entry, Parts, end, then, Of}
use Rattle.serializability.proofs.Laws.Runs.{Run, run_split, run_append, unique_run, run_valid, then_end, then_assoc, of_then_left}
use Rattle.serializability.proofs.Laws.Runs.{of_then_right, AllClear, BringsOnce, AllAbsent, absent_run, exchange}

-- permutations -------------------------------------------------------------------------------

pub data Permutation : List ℕ → List ℕ → Type 0 where
  empty : Permutation [] []
  behind : (t : ℕ) {a b : List ℕ} → Permutation a b → Permutation (t ∷ a) (t ∷ b)
  exchanged : (t u : ℕ) {a : List ℕ} → Permutation (t ∷ u ∷ a) (u ∷ t ∷ a)
  composed : {a b c : List ℕ} → Permutation a b → Permutation b c → Permutation a c

-- no transaction is there twice
abbrev pub Distinct : List ℕ → Type 0
Distinct a = distinct a ≡ true

pub distinct_head : (t : ℕ) (a : List ℕ) → Distinct (t ∷ a) → has t a ≡ false
distinct_head t a h = refuted _ (λ e. false≢true (rw e at h))

pub distinct_tail : (t : ℕ) (a : List ℕ) → Distinct (t ∷ a) → Distinct a
distinct_tail t a h = rw (distinct_head t a h) at h

pub distinct_cons : (t : ℕ) (a : List ℕ) → has t a ≡ false → Distinct a → Distinct (t ∷ a)
distinct_cons t a h e = rw h e

pub permuted_has : {a b : List ℕ} → Permutation a b → (t : ℕ) → has t b ≡ has t a
permuted_has empty t = refl
permuted_has (behind u p) t = rw (permuted_has p t)
permuted_has (exchanged v u {a}) t = or_swap (eqb u t) (eqb v t) (has t a)
permuted_has (composed p q) t = permuted_has q t ∙ permuted_has p t

pub permuted_distinct : {a b : List ℕ} → Permutation a b → Distinct a → Distinct b
permuted_distinct empty h = h
permuted_distinct (behind t {a} {b} p) h = distinct_cons t b (permuted_has p t ∙ distinct_head t a h)
    (permuted_distinct p (distinct_tail t a h))
permuted_distinct (exchanged t u {a}) h =
    let o : (eqb u t || has t a) ≡ false = distinct_head t (u ∷ a) h in
    let i : Distinct (u ∷ a) = distinct_tail t (u ∷ a) h in
    distinct_cons u (t ∷ a) (rw (eqb_flip u t (or_left (eqb u t) (has t a) o)) (distinct_head u a i))
    (distinct_cons t a (or_right (eqb u t) (has t a) o) (distinct_tail u a i))
permuted_distinct (composed p q) h = permuted_distinct q (permuted_distinct p h)

pub permutation_self : (a : List ℕ) → Permutation a a
permutation_self [] = empty
permutation_self (t ∷ a) = behind t (permutation_self a)

pub permutation_back : {a b : List ℕ} → Permutation a b → Permutation b a
permutation_back empty = empty
permutation_back (behind t p) = behind t (permutation_back p)
permutation_back (exchanged t u) = exchanged u t
permutation_back (composed p q) = composed (permutation_back q) (permutation_back p)

-- any transaction of the list can stand first, and the first can stand last
pub to_front : (t : ℕ) (a : List ℕ) → has t a ≡ true → (b : List ℕ) × Permutation a (t ∷ b)
to_front t [] h = absurd (false≢true h)
to_front t (u ∷ a) h = ⊎_elim (λ e. (a, rw (eqb-true u t e) (permutation_self (t ∷ a))))
    (λ i. let g = to_front t a i in (u ∷ g.0, composed (behind u g.1) (exchanged u t))) (or_cases (eqb u t) (has t a) h)

pub to_back : (t : ℕ) (a : List ℕ) → Permutation (t ∷ a) (a ++ (t ∷ []))
to_back t [] = permutation_self (t ∷ [])
to_back t (u ∷ a) = composed (exchanged t u) (behind u (to_back t a))

-- logs one behind the other --------------------------------------------------------------------

module _ (log : ℕ → Parts) where
  abbrev pub logs : List ℕ → Parts
  logs [] = end
  logs (t ∷ a) = then (log t) (logs a)

  pub logs_last : (a : List ℕ) (t : ℕ) → logs (a ++ (t ∷ [])) ≡ then (logs a) (log t)
  logs_last [] t = then_end (log t)
  logs_last (u ∷ a) t = rw (logs_last a t) (sym (then_assoc (log u) (logs a) (log t)))

  in_logs : (t : ℕ) (a : List ℕ) → has t a ≡ true → {y : Entry} → Of y (log t) → Of y (logs a)
  in_logs t [] h m = absurd (false≢true h)
  in_logs t (u ∷ a) h m = ⊎_elim (λ e. of_then_left (log u) (logs a) (rw (eqb-true u t e) m))
      (λ i. of_then_right (log u) (logs a) (in_logs t a i m)) (or_cases (eqb u t) (has t a) h)

  -- the locks of different transactions do not clash, and none inserts a number twice
  pub record Apart : Type 0 where
    pub clear : (t u : ℕ) → (t ≡ u → ⊥) → AllClear (log t) (log u)
    pub once : (t : ℕ) → BringsOnce (log t)

  -- nothing that these transactions bring in is there
  abbrev pub NoneThere : List ℕ → Document → Type 0
  NoneThere a d = (t : ℕ) → has t a ≡ true → AllAbsent (log t) d

  differ : (t u : ℕ) (a : List ℕ) → has t a ≡ false → has u a ≡ true → u ≡ t → ⊥
  differ t u a p q e = true≢false (sym q ∙ ap (λ (z : ℕ). has z a) e ∙ p)

  -- nor is it after the first of them has run
  pub rest_not_there : (t : ℕ) (a : List ℕ) (d e h : Document) → Apart → has t a ≡ false → Run d (log t) e → Run e (logs a) h
      → NoneThere (t ∷ a) d → NoneThere a e
  rest_not_there t a d e h f n r s w u i y m =
      let o = run_valid e (logs a) h s y (in_logs u a i m) in
      absent_run d (log t) e y o.0 r o.1 (λ x j. f.clear u t (differ t u a n i) y x m j) (w u (rw (i, or-true (eqb t u))) y m)

  pub any_order : {a b : List ℕ} → Permutation a b → (d h : Document) → Apart → Unique d → Distinct a → NoneThere a d → Run d (logs a) h
      → Run d (logs b) h
  any_order empty d h f u n w r = r
  any_order (behind t {a} {b} p) d h f u n w r =
      let g = run_split d (log t) (logs a) h r in
      run_append d (log t) (logs b) g.0 h g.1
      (any_order p g.0 h f (unique_run d (log t) g.0 u g.1) (distinct_tail t a n)
      (rest_not_there t a d g.0 h f (distinct_head t a n) g.1 g.2 w) g.2)
  any_order (exchanged t v {a}) d h f u n w r =
      let g = run_split d (log t) (then (log v) (logs a)) h r in
      let k = run_split g.0 (log v) (logs a) h g.2 in
      let ne : v ≡ t → ⊥ = λ e. eqb-false v t (or_left (eqb v t) (has t a) (distinct_head t (v ∷ a) n)) e in
      let b = exchange d (log t) g.0 (log v) k.0 u g.1 k.1 (f.clear v t ne) (f.once v)
      (w v (rw (eq-eqb v v refl, or-true (eqb t v)))) in
      run_append d (log v) (then (log t) (logs a)) b.0 h b.1 (run_append b.0 (log t) (logs a) k.0 h b.2 k.2)
  any_order (composed {a} {b} p q) d h f u n w r = any_order q d h f u (permuted_distinct p n) (λ t i. w t (sym (permuted_has p t) ∙ i))
      (any_order p d h f u n w r)
