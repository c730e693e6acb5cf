-- Lists whose elements have distinct numbers.
use Rattle.std.specs.Prelude.{◌≡◌, ℕ, ◌+◌, ◌≤◌, Bool, false, cond}
use Rattle.std.proofs.Math.Path.{refl, sym}
use Rattle.std.proofs.Common.{ap, ◌∙◌, true≢false, eqb-true, eq-eqb}
use Rattle.std.proofs.Math.Bool.{true}
use Rattle.std.proofs.lemmas.Bool.{false≢true}
use mathlib.Core.List.Memᴰ
use mathlib.Core.List.{List, [], ◌∷◌, ◌++◌, map, Memᴰ}
use Rattle.std.proofs.Math.Dec.{eqb}
use native.Mathlib.Omega.{arith}
use Rattle.tree.specs.Lists.{has, keep, distinct}
use Rattle.tree.specs.Laws.Tests.{refuted}
use Rattle.tree.specs.Laws.Lists.{in_has, any_map, any_at, map_in, in_keep, keep_none, count, count_cons, count_append, count_some}

module _ {A : Type 0} (number : A → ℕ) where
  pub head_new : (x : A) (l : List A) → distinct (map number (x ∷ l)) ≡ true
      → (has (number x) (map number l) ≡ false) × (distinct (map number l) ≡ true)
  head_new x l h = go (has (number x) (map number l)) h
    where
      go : (t : Bool) → cond t false (distinct (map number l)) ≡ true → (t ≡ false) × (distinct (map number l) ≡ true)
      go true e = absurd (false≢true e)
      go false e = (refl, e)

  new_head : (x : A) (l : List A) → has (number x) (map number l) ≡ false → distinct (map number l) ≡ true
      → distinct (map number (x ∷ l)) ≡ true
  new_head x l h e = rw h e

  not_in : (x a : A) (l : List A) → has (number x) (map number l) ≡ false → Memᴰ a l → number a ≡ number x → ⊥
  not_in x a l h m e = true≢false (sym (in_has (number x) (map number l) (rw (← e) (map_in number m))) ∙ h)

  -- the first element's number is not among the others'
  pub head_apart : (x : A) (l : List A) → distinct (map number (x ∷ l)) ≡ true → {a : A} → Memᴰ a l → number a ≡ number x → ⊥
  head_apart x l h {a} m e = not_in x a l (head_new x l h).0 m e

  -- equal numbers, one element
  pub distinct_one : (l : List A) → distinct (map number l) ≡ true → {a b : A} → Memᴰ a l → Memᴰ b l → number a ≡ number b → a ≡ b
  distinct_one [] h m n e = absurd (Memᴰ.not-nil m)
  distinct_one (x ∷ l) h (Memᴰ.head i) (Memᴰ.head j) e = i ∙ sym j
  distinct_one (x ∷ l) h {a} {b} (Memᴰ.head i) (Memᴰ.tail n) e = absurd (not_in x b l (head_new x l h).0 n (sym e ∙ ap number i))
  distinct_one (x ∷ l) h {a} {b} (Memᴰ.tail m) (Memᴰ.head j) e = absurd (not_in x a l (head_new x l h).0 m (e ∙ ap number j))
  distinct_one (x ∷ l) h (Memᴰ.tail m) (Memᴰ.tail n) e = distinct_one l (head_new x l h).1 m n e

  abbrev pub numbered : ℕ → A → Bool
  numbered n a = eqb (number a) n

  -- distinct exactly if no number counts more than once
  pub distinct_count : (l : List A) → distinct (map number l) ≡ true → (n : ℕ) → count (numbered n) l ≤ 1
  unfolding keep
  distinct_count [] h n = omega arith
  distinct_count (x ∷ l) h n = rw (count_cons (numbered n) x l) (go (eqb (number x) n) refl (distinct_count l (head_new x l h).1 n))
    where
      none : eqb (number x) n ≡ true → count (numbered n) l ≡ 0
      none e =
          rw (keep_none (numbered n) l
          (λ a m. refuted _ (λ q. not_in x a l (head_new x l h).0 m (eqb-true (number a) n q ∙ sym (eqb-true (number x) n e)))))

      go : (t : Bool) → eqb (number x) n ≡ t → count (numbered n) l ≤ 1 → cond t 1 0 + count (numbered n) l ≤ 1
      go true e i = rw (none e) (omega arith)
      go false e i = omega arith

  pub count_distinct : (l : List A) → ((n : ℕ) → count (numbered n) l ≤ 1) → distinct (map number l) ≡ true
  count_distinct [] h = refl
  count_distinct (x ∷ l) h = new_head x l (refuted _ twice) (count_distinct l (λ n. fewer n (h n)))
    where
      fewer : (n : ℕ) → count (numbered n) (x ∷ l) ≤ 1 → count (numbered n) l ≤ 1
      fewer n i = let j : cond (eqb (number x) n) 1 0 + count (numbered n) l ≤ 1 = rw (count_cons (numbered n) x l) at i in omega arith

      twice : has (number x) (map number l) ≡ true → ⊥
      twice e =
          let i : cond (eqb (number x) (number x)) 1 0 + count (numbered (number x)) l ≤ 1 =
          rw (count_cons (numbered (number x)) x l) at (h (number x)) in
          let j : 1 + count (numbered (number x)) l ≤ 1 = rw (eq-eqb (number x) (number x) refl) at i in
          let g = any_at (numbered (number x)) l (sym (any_map (λ q. eqb q (number x)) number l) ∙ e) in
          omega (arith, count_some (numbered (number x)) l g.1 g.2)

  pub distinct_keep : (t : A → Bool) (l : List A) → distinct (map number l) ≡ true → distinct (map number (keep t l)) ≡ true
  unfolding keep
  distinct_keep t [] h = refl
  distinct_keep t (x ∷ l) h = go (t x) (distinct_keep t l (head_new x l h).1)
    where
      still_new : has (number x) (map number (keep t l)) ≡ true → ⊥
      still_new e =
          let g = any_at (numbered (number x)) (keep t l) (sym (any_map (λ q. eqb q (number x)) number (keep t l)) ∙ e) in
          not_in x g.0 l (head_new x l h).0 (in_keep t l g.1).0 (eqb-true _ (number x) g.2)

      go : (b : Bool) → distinct (map number (keep t l)) ≡ true → distinct (map number (cond b (x ∷ keep t l) (keep t l))) ≡ true
      go true e = new_head x (keep t l) (refuted _ still_new) e
      go false e = e

  -- of two lists, one behind the other
  pub distinct_left : (l k : List A) → distinct (map number (l ++ k)) ≡ true → distinct (map number l) ≡ true
  distinct_left l k h =
      count_distinct l (λ n. let i : count (numbered n) l + count (numbered n) k ≤ 1 = rw (count_append (numbered n) l k) at
      (distinct_count (l ++ k) h n) in omega arith)

  pub distinct_right : (l k : List A) → distinct (map number (l ++ k)) ≡ true → distinct (map number k) ≡ true
  distinct_right l k h =
      count_distinct k (λ n. let i : count (numbered n) l + count (numbered n) k ≤ 1 = rw (count_append (numbered n) l k) at
      (distinct_count (l ++ k) h n) in omega arith)

  pub distinct_apart : (l k : List A) → distinct (map number (l ++ k)) ≡ true → {a b : A} → Memᴰ a l → Memᴰ b k
      → number a ≡ number b → ⊥
  distinct_apart l k h {a} {b} i j e =
      let c : count (numbered (number a)) l + count (numbered (number a)) k ≤ 1 =
      rw (count_append (numbered (number a)) l k) at (distinct_count (l ++ k) h (number a)) in
      omega (
        arith,
        count_some (numbered (number a)) l i (eq-eqb (number a) (number a) refl),
        count_some (numbered (number a)) k j (eq-eqb (number b) (number a) (sym e)),
      )
