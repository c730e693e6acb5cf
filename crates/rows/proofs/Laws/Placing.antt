-- The place of a new child: the pass over the kinds of the children decides as the rules do.
use Rattle.std.specs.Prelude.{◌≡◌, refl, ℕ, zero, suc, ◌+◌, ◌-◌, ◌≤◌, ◌<◌, Bool, true, false, cond, not, ◌&&◌, List, [], ◌∷◌, ◌++◌, length, take, drop, eqb, leb, ltb}
use Rattle.std.proofs.Common.{sym, ap, ◌∙◌, arith, length-append, take-append-drop, eqb-true, leb-true, le-leb, eq-eqb, ne_eqb}
use Rattle.std.proofs.Math.Bool.{and-false, and-true, and_assoc, and_comm}
use Rattle.std.proofs.lemmas.Bool.{false≢true, eqb-false, lt-leb}
use Rattle.std.proofs.Math.Dec.{leb-zero, leb-suc-suc, eqb-suc-zero}
use Rattle.tree.specs.Lists.{every, keep}
use Rattle.tree.specs.Content.{element_kind, attribute_kind, takes, attributes_first, children_rule, insert_at}
use Rattle.tree.specs.Steps.{placed}
use Rattle.rows.specs.Placing.{attributes, ordered_behind, placed_by}

abbrev no_attribute : List ℕ → Bool
no_attribute l = every (λ x. not (eqb x attribute_kind)) l

-- the pass ---------------------------------------------------------------------------------

ordered_other : (a n : ℕ) (l : List ℕ) → a < n → ordered_behind a n l ≡ no_attribute l
unfolding ordered_behind
ordered_other a n [] h = refl
ordered_other a n (x ∷ l) h = rw (ne_eqb a n (λ e. omega arith)) (go (eqb x attribute_kind) (ordered_other a (suc n) l (omega arith)))
  where
    go : (b : Bool) → ordered_behind a (suc n) l ≡ no_attribute l → cond b false (ordered_behind a (suc n) l) ≡ (not b && no_attribute l)
    go true e = refl
    go false e = e

-- so far attributes only
pub ordered_start : (n : ℕ) (l : List ℕ) → attributes_first l ≡ ordered_behind n n l
unfolding attributes_first ordered_behind
ordered_start n [] = refl
ordered_start n (x ∷ l) =
    rw (eq-eqb n n refl) (go (eqb x attribute_kind) (ordered_start (suc n) l) (ordered_other n (suc n) l (omega arith)))
  where
    go : (b : Bool) → attributes_first l ≡ ordered_behind (suc n) (suc n) l → ordered_behind n (suc n) l ≡ no_attribute l
        → cond b (attributes_first l) (no_attribute l) ≡ cond b (ordered_behind (suc n) (suc n) l) (ordered_behind n (suc n) l)
    go true e f = e
    go false e f = sym f

-- its turns
module _ (x : ℕ) (l : List ℕ) where
  pub attributes_one : x ≡ attribute_kind → attributes (x ∷ l) ≡ 1 + attributes l
  unfolding attributes keep
  attributes_one h = rw (eq-eqb x attribute_kind h) (omega arith)

  pub attributes_other : (x ≡ attribute_kind → ⊥) → attributes (x ∷ l) ≡ attributes l
  unfolding attributes keep
  attributes_other h = rw (ne_eqb x attribute_kind h)

-- the insertion --------------------------------------------------------------------------------

-- every, over the parts of a list with one more
every_append : (t : ℕ → Bool) (l k : List ℕ) → every t (l ++ k) ≡ (every t l && every t k)
every_append t [] k = refl
every_append t (x ∷ l) k = rw (every_append t l k) (sym (and_assoc (t x) (every t l) (every t k)))

every_insert : (t : ℕ → Bool) (j x : ℕ) (l : List ℕ) → every t (take j l ++ (x ∷ drop j l)) ≡ (t x && every t l)
every_insert t j x l =
    let u = every t (take j l) in
    let v = every t (drop j l) in
    every_append t (take j l) (x ∷ drop j l) ∙ sym (and_assoc u (t x) v) ∙ ap (λ b. b && v) (and_comm u (t x)) ∙ and_assoc (t x) u v
    ∙ ap (λ b. t x && b) (sym (every_append t (take j l) (drop j l)) ∙ ap (every t) (take-append-drop j l))

-- no attribute exactly if there are none
none_attribute : (l : List ℕ) → no_attribute l ≡ eqb (attributes l) 0
unfolding attributes keep
none_attribute [] = refl
none_attribute (x ∷ l) = go (eqb x attribute_kind) (none_attribute l)
  where
    go : (b : Bool) → no_attribute l ≡ eqb (attributes l) 0
        → (not b && no_attribute l) ≡ eqb (length (cond b (x ∷ keep (λ x. eqb x attribute_kind) l) (keep (λ x. eqb x attribute_kind) l))) 0
    go true e = sym (eqb-suc-zero (length (keep (λ x. eqb x attribute_kind) l)))
    go false e = e

first_none : (l : List ℕ) → no_attribute l ≡ true → attributes_first l ≡ true
unfolding attributes_first
first_none [] h = refl
first_none (x ∷ l) h = go (eqb x attribute_kind) h
  where
    go : (b : Bool) → (not b && no_attribute l) ≡ true → cond b (attributes_first l) (no_attribute l) ≡ true
    go true e = absurd (false≢true e)
    go false e = e

-- by how many attributes there are
count_none : (l : List ℕ) → no_attribute l ≡ true → attributes l ≡ 0
count_none l h = eqb-true (attributes l) 0 (sym (none_attribute l) ∙ h)

count_some : (l : List ℕ) → no_attribute l ≡ false → 0 < attributes l
count_some l h = let e = eqb-false (attributes l) 0 (sym (none_attribute l) ∙ h) in omega arith

-- the new one before all
insert_before : (x : ℕ) (l : List ℕ)
    → cond (eqb x attribute_kind) (attributes_first l) (no_attribute l)
    ≡ (attributes_first l && cond (eqb x attribute_kind) (leb 0 (attributes l)) (leb (attributes l) 0))
insert_before x l = go (eqb x attribute_kind) (no_attribute l) refl
  where
    go : (b c : Bool) → no_attribute l ≡ c
        → cond b (attributes_first l) (no_attribute l) ≡ (attributes_first l && cond b (leb 0 (attributes l)) (leb (attributes l) 0))
    go true c e = rw (leb-zero (attributes l)) (sym (and-true (attributes_first l)))
    go false true e = rw (e, first_none l e, count_none l e)
    go false false e = rw (e, lt-leb (attributes l) 0 (count_some l e)) (sym (and-false (attributes_first l)))

-- the new one behind another kind
insert_behind : (x j : ℕ) (l : List ℕ)
    → (not (eqb x attribute_kind) && no_attribute l) ≡ (no_attribute l && cond (eqb x attribute_kind) (leb (suc j) (attributes l))
    (leb (attributes l) (suc j)))
insert_behind x j l = go (eqb x attribute_kind) (no_attribute l) refl
  where
    go : (b c : Bool) → no_attribute l ≡ c → (not b && no_attribute l)
        ≡ (no_attribute l && cond b (leb (suc j) (attributes l)) (leb (attributes l) (suc j)))
    go true true e = rw (e, count_none l e) (sym (lt-leb (suc j) 0 (omega arith)))
    go true false e = rw e
    go false true e = rw (e, count_none l e) (sym (le-leb 0 (suc j) (omega arith)))
    go false false e = rw e

-- the rule for attributes, with one more at j from 0
first_insert : (x j : ℕ) (l : List ℕ) → j ≤ length l
    → attributes_first (take j l ++ (x ∷ drop j l)) ≡ (attributes_first l && cond (eqb x attribute_kind) (leb j (attributes l))
    (leb (attributes l) j))
unfolding attributes_first attributes keep
first_insert x zero l h = insert_before x l
first_insert x (suc j) [] h = absurd (omega arith)
first_insert x (suc j) (y ∷ l) h = go (eqb y attribute_kind) (first_insert x j l (omega arith))
  where
    go : (b : Bool)
        → attributes_first (take j l ++ (x ∷ drop j l))
        ≡ (attributes_first l && cond (eqb x attribute_kind) (leb j (attributes l)) (leb (attributes l) j))
        → cond b (attributes_first (take j l ++ (x ∷ drop j l))) (no_attribute (take j l ++ (x ∷ drop j l)))
        ≡ (cond b (attributes_first l) (no_attribute l)
        && cond (eqb x attribute_kind) (leb (suc j) (length (cond b (y ∷ keep (λ z. eqb z attribute_kind) l)
        (keep (λ z. eqb z attribute_kind) l))))
        (leb (length (cond b (y ∷ keep (λ z. eqb z attribute_kind) l) (keep (λ z. eqb z attribute_kind) l))) (suc j)))
    go true e = rw (leb-suc-suc j (attributes l), leb-suc-suc (attributes l) j) e
    go false e = every_insert (λ z. not (eqb z attribute_kind)) j x l ∙ insert_behind x j l

pub length_insert : {A : Type 0} (j : ℕ) (x : A) (l : List A) → length (take j l ++ (x ∷ drop j l)) ≡ suc (length l)
length_insert j x l =
    length-append (take j l) (x ∷ drop j l) ∙ let e =
    length-append (take j l) (drop j l) in let f = ap length (take-append-drop j l) in omega arith

one_only : (n : ℕ) → leb (suc n) 1 ≡ eqb n 0
one_only zero = refl
one_only (suc n) = lt-leb (suc (suc n)) 1 (omega arith) ∙ sym (eqb-suc-zero n)

-- the theorem: the rules for the place of a new child, from what the pass counts and tests
pub placed_pass : (parent kind k : ℕ) (others : List ℕ)
    → placed parent kind k others ≡ placed_by parent kind k (length others) (attributes others) (attributes_first others)
    (every (takes parent) others)
unfolding placed placed_by children_rule insert_at
placed_pass parent kind zero others = refl
placed_pass parent kind (suc j) others = go (leb (suc j) (suc (length others))) refl
  where
    rest : Bool
    rest = takes parent kind && every (takes parent) others
        && cond (eqb parent element_kind)
        (attributes_first others && cond (eqb kind attribute_kind) (leb (suc j) (suc (attributes others)))
        (ltb (attributes others) (suc j)))
        (eqb (length others) 0)

    rule : suc j ≤ suc (length others) → children_rule parent (insert_at (suc j) kind others) ≡ rest
    rule h =
        let e : suc j - 1 ≡ j = omega arith in
        rw (
          e,
          every_insert (takes parent) j kind others,
          first_insert kind j others (omega arith),
          length_insert j kind others,
          one_only (length others),
          leb-suc-suc j (attributes others),
          leb-suc-suc (attributes others) j,
        )

    go : (b : Bool) → leb (suc j) (suc (length others)) ≡ b
        → (leb 1 (suc j) && b && children_rule parent (insert_at (suc j) kind others)) ≡ (leb 1 (suc j) && b && rest)
    go true e = ap (λ z. leb 1 (suc j) && true && z) (rule (leb-true (suc j) (suc (length others)) e))
    go false e =
        ap (λ z. z && children_rule parent (insert_at (suc j) kind others)) (and-false (leb 1 (suc j)))
        ∙ sym (ap (λ z. z && rest) (and-false (leb 1 (suc j))))
