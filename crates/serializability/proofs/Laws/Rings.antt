-- Paths of waits: the test for a path of sixteen waits finds one of any length, among sixteen transactions.
use Rattle.std.specs.Prelude.{ℕ, zero, suc, ◌≤◌, ◌<◌, ◌≡◌, refl, Bool, true, false, not, ◌&&◌, ◌⊎◌, length, eqb}
use Rattle.std.proofs.Common.{sym, ap, ◌∙◌, inl, inr, ⊎_elim, arith, eqb-true, eq-eqb}
use Rattle.std.proofs.lemmas.Bool.{false≢true}
use Rattle.std.proofs.Math.Bool.{or-true}
use mathlib.Core.List.Memᴰ
use mathlib.Core.List.{List, [], ◌∷◌, Memᴰ}
use Rattle.tree.specs.Lists.{keep}
use Rattle.tree.specs.Laws.Tests.{and_left, and_right, or_cases}
use Rattle.tree.specs.Laws.Lists.{any_at, at_any, keep_in}
use Rattle.protocol.specs.State.{WaitSets, transactions}
use Rattle.protocol.specs.Rings.{waits_within}
use Rattle.serializability.specs.Theorem.{WaitPath, waits_for, waits_then, AmongTransactions}
use Rattle.serializability.proofs.Laws.Tests.{by_test}
use Rattle.serializability.proofs.Laws.WaitSet.{transaction_in}

-- paths ----------------------------------------------------------------------------------

module _ {r : WaitSets} where
  -- one path behind the other
  pub path_append : {t v u : ℕ} → WaitPath r t v → WaitPath r v u → WaitPath r t u
  path_append (waits_for e) q = waits_then e q
  path_append (waits_then e p) q = waits_then e (path_append p q)

  -- the last wait of a path
  pub last_wait : {t u : ℕ} → WaitPath r t u → (v : ℕ) × (r v u ≡ true)
  last_wait {t} (waits_for e) = (t, e)
  last_wait (waits_then e p) = last_wait p

  -- the first wait of a path
  pub first_wait : {t u : ℕ} → WaitPath r t u → (v : ℕ) × (r t v ≡ true)
  first_wait {t} {u} (waits_for e) = (u, e)
  first_wait (waits_then {v = v} e p) = (v, e)

-- fewer waits make no more paths
pub wider_path : {r s : WaitSets} → ((t u : ℕ) → r t u ≡ true → s t u ≡ true) → {t u : ℕ} → WaitPath r t u → WaitPath s t u
wider_path f (waits_for e) = waits_for (f _ _ e)
wider_path f (waits_then e p) = waits_then (f _ _ e) (wider_path f p)

-- a path that the test finds
pub found_path : (r : WaitSets) (n t u : ℕ) → waits_within n r t u ≡ true → WaitPath r t u
found_path r zero t u h = absurd (false≢true h)
found_path r (suc n) t u h = ⊎_elim (λ e. waits_for e) (λ e.
    let a = any_at (λ v. r v u && waits_within n r t v) transactions e in
    path_append (found_path r n t a.0 (and_right (r a.0 u) _ a.2)) (waits_for (and_left (r a.0 u) _ a.2)))
    (or_cases (r t u) _ h)

-- paths over given members -----------------------------------------------------------------

-- the list without w
abbrev without : ℕ → List ℕ → List ℕ
without w vs = keep (λ v. not (eqb v w)) vs

without_in : (w : ℕ) (vs : List ℕ) {v : ℕ} → Memᴰ v vs → eqb v w ≡ false → Memᴰ v (without w vs)
without_in w vs i e = keep_in (λ v. not (eqb v w)) vs i (rw e)

keep_length : {A : Type 0} (t : A → Bool) (l : List A) → length (keep t l) ≤ length l
unfolding keep
keep_length t [] = omega arith
keep_length t (x ∷ l) = let k = keep_length t l in by_test (t x) (λ e. rw e (omega arith)) (λ e. rw e (omega arith))

keep_fewer : {A : Type 0} (t : A → Bool) (l : List A) {a : A} → Memᴰ a l → t a ≡ false → length (keep t l) < length l
unfolding keep
keep_fewer t [] i h = absurd (Memᴰ.not-nil i)
keep_fewer t (x ∷ l) (Memᴰ.head e) h = let k = keep_length t l in rw (sym (ap t e) ∙ h) (omega arith)
keep_fewer t (x ∷ l) (Memᴰ.tail i) h =
    let k = keep_fewer t l i h in
    by_test (t x) (λ e. rw e (omega arith)) (λ e. rw e (omega arith))

without_shorter : (w : ℕ) (vs : List ℕ) → Memᴰ w vs → length (without w vs) < length vs
without_shorter w vs i = keep_fewer (λ v. not (eqb v w)) vs i (rw (eq-eqb w w refl))

-- a path from t to u over members of vs alone, its last wait first
data Over (r : WaitSets) (t : ℕ) (vs : List ℕ) : ℕ → Type 0 where
  over_none : {u : ℕ} → r t u ≡ true → Over r t vs u
  over_last : {v u : ℕ} → Over r t vs v → Memᴰ v vs → r v u ≡ true → Over r t vs u

module _ {r : WaitSets} {t : ℕ} where
  -- t itself need not be a member: what lies before its last place is left out
  over_others : {vs : List ℕ} {u : ℕ} → Over r t vs u → Over r t (without t vs) u
  over_others (over_none e) = over_none e
  over_others {vs} (over_last {v = v} p i e) = by_test (eqb v t) (λ x. over_none (rw (eqb-true v t x) at e))
      (λ x. over_last (over_others p) (without_in t vs i x) e)

  -- a path over members without w, or one to w over such
  over_cut : (w : ℕ) {vs : List ℕ} {u : ℕ} → Over r t vs u → Over r t (without w vs) u ⊎ Over r t (without w vs) w
  over_cut w (over_none e) = inl (over_none e)
  over_cut w {vs} (over_last {v = v} p i e) = ⊎_elim
      (λ q. by_test (eqb v w) (λ x. inr (rw (eqb-true v w x) at q)) (λ x. inl (over_last q (without_in w vs i x) e)))
      inr (over_cut w p)

-- the test finds every path ------------------------------------------------------------------

module _ (r : WaitSets) (h : AmongTransactions r) (t : ℕ) where
  waiter_in : {v u : ℕ} → r v u ≡ true → Memᴰ v transactions
  waiter_in {v} {u} e = transaction_in v (h v u e).0

  over_path : {v u : ℕ} → Over r t transactions v → WaitPath r v u → Over r t transactions u
  over_path p (waits_for e) = over_last p (waiter_in e) e
  over_path p (waits_then e q) = over_path (over_last p (waiter_in e) e) q

  path_over : {u : ℕ} → WaitPath r t u → Over r t transactions u
  path_over (waits_for e) = over_none e
  path_over (waits_then e p) = over_path (over_none e) p

  -- over n members n + 1 waits are enough: the path to the last of them need not go over it
  over_within : (n : ℕ) {vs : List ℕ} {u : ℕ} → length vs ≤ n → Over r t vs u → waits_within (suc n) r t u ≡ true
  over_within zero l (over_none e) = rw e
  over_within zero {vs} l (over_last {v = v} p i e) = absurd (omega (arith, without_shorter v vs i))
  over_within (suc n) l (over_none e) = rw e
  over_within (suc n) {vs} {u} l (over_last {v = v} p i e) =
      let q = ⊎_elim (λ q. q) (λ q. q) (over_cut v p) in
      let k : waits_within (suc n) r t v ≡ true = over_within n (omega (arith, without_shorter v vs i)) q in
      rw (at_any (λ x. r x u && waits_within (suc n) r t x) transactions (waiter_in e) (rw (e, k))) (or-true (r t u))

  -- a path goes over at most fifteen others
  pub path_found : {u : ℕ} → WaitPath r t u → waits_within 16 r t u ≡ true
  path_found p = over_within 15 (omega (arith, without_shorter t transactions (waiter_in (first_wait p).1))) (over_others (path_over p))
