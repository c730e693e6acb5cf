-- The order is one, and the first difference decides it.
use Rattle.std.specs.Prelude.{ℕ, suc, ◌≤◌, ◌<◌, ◌≡◌, refl, Bool, true, false, cond, List, [], ◌∷◌, eqb, length, get_or, drop}
use Rattle.std.proofs.Common.{sym, ap, ◌∙◌, subst, arith, drop_of_length-le, drop-cons, eqb-true}
use Rattle.std.proofs.lemmas.Bool.{eqb-false}
use Rattle.std.specs.Ordering.{MatchOrdering, ordering_then, nat_cmp}
use Rattle.std.specs.Cmp.{ranks}
use Rattle.std.specs.Cmp.Lexicographic.{slice_cmp}
use Rattle.xml.specs.Laws.Fixed.{agree}
use Rattle.std.specs.declared.cmp.Ordering.{Ordering}
use Rattle.std.specs.declared.cmp.Ordering.TheVariants.{Less, Equal, Greater}
use Rattle.byte_strings.specs.Order.{Precedes, shorter, smaller, later, Ordered, is_before, is_same, is_behind}

pub precedes_through : {a b c : List ℕ} → Precedes a b → Precedes b c → Precedes a c
precedes_through shorter (smaller h) = shorter
precedes_through shorter (later q) = shorter
precedes_through (smaller {x = x} h) (smaller {y = z} k) = let l : x < z = omega arith in smaller l
precedes_through (smaller h) (later q) = smaller h
precedes_through (later p) (smaller k) = smaller k
precedes_through (later p) (later q) = later (precedes_through p q)

not_equal : {a b : List ℕ} → Precedes a b → a ≡ b → ⊥
not_equal shorter e = cc
not_equal (smaller {x = x} {y = y} h) e = let f : x ≡ y = cc in omega arith
not_equal (later {xs = xs} {ys = ys} p) e = let f : xs ≡ ys = cc in not_equal p f

pub precedes_none : {a : List ℕ} → Precedes a a → ⊥
precedes_none p = not_equal p refl

module _ {a b : List ℕ} where
  pub before_of : Ordered a b Less → Precedes a b
  before_of (is_before p) = p

  pub same_of : Ordered a b Equal → a ≡ b
  same_of (is_same e) = e

  pub behind_of : Ordered a b Greater → Precedes b a
  behind_of (is_behind p) = p

-- the bytes at which two strings agree -----------------------------------------------------------

ordered_cons : (x : ℕ) {a b : List ℕ} {r : Ordering} → Ordered a b r → Ordered (x ∷ a) (x ∷ b) r
ordered_cons x (is_before p) = is_before (later p)
ordered_cons x (is_same e) = is_same (ap (λ (l : List ℕ). x ∷ l) e)
ordered_cons x (is_behind p) = is_behind (later p)

-- the first bytes differ
ordered_first : {x y : ℕ} {a b : List ℕ} (o : Ordering) → MatchOrdering o (x < y) (x ≡ y) (y < x) → (x ≡ y → ⊥) → Ordered (x ∷ a) (y ∷ b) o
ordered_first Less h d = is_before (smaller h)
ordered_first Equal h d = absurd (d h)
ordered_first Greater h d = is_behind (smaller h)

-- the first bytes decide, or what is behind them
ordered_then : {x y : ℕ} {a b : List ℕ} (o : Ordering) {r : Ordering} → MatchOrdering o (x < y) (x ≡ y) (y < x) → Ordered a b r
    → Ordered (x ∷ a) (y ∷ b) (ordering_then o r)
ordered_then Less h p = is_before (smaller h)
ordered_then {x} Equal h p = rw (← h) (ordered_cons x p)
ordered_then Greater h p = is_behind (smaller h)

-- what `cmp` answers at two slices is how the one lies to the other
pub ordered_cmp : (a b : List ℕ) → Ordered a b (slice_cmp nat_cmp a b)
ordered_cmp [] [] = is_same refl
ordered_cmp [] (y ∷ b) = is_before shorter
ordered_cmp (x ∷ a) [] = is_behind shorter
ordered_cmp (x ∷ a) (y ∷ b) = ordered_then (nat_cmp x y) (ranks x y) (ordered_cmp a b)

ordered_from : (a b : List ℕ) {r : Ordering} → Ordered (drop (agree a b) b) (drop (agree a b) a) r → Ordered b a r
unfolding agree
ordered_from [] b p = p
ordered_from (x ∷ a) [] p = p
ordered_from (x ∷ a) (y ∷ b) {r} p = go (eqb y x) refl p (λ (q : Ordered (drop (agree a b) b) (drop (agree a b) a) r). ordered_from a b q)
  where
    go : (t : Bool) → eqb y x ≡ t → Ordered (drop (cond t (suc (agree a b)) 0) (y ∷ b)) (drop (cond t (suc (agree a b)) 0) (x ∷ a)) r
        → (Ordered (drop (agree a b) b) (drop (agree a b) a) r → Ordered b a r) → Ordered (y ∷ b) (x ∷ a) r
    go true e p f = rw (eqb-true y x e) (ordered_cons x (f p))
    go false e p f = p

differs : (a b : List ℕ) → agree a b < length a → agree a b < length b → get_or a (agree a b) 0 ≡ get_or b (agree a b) 0 → ⊥
unfolding agree
differs [] b h k e = omega arith
differs (x ∷ a) [] h k e = omega arith
differs (x ∷ a) (y ∷ b) h k e = go (eqb y x) refl h k e (differs a b)
  where
    go : (t : Bool) → eqb y x ≡ t → cond t (suc (agree a b)) 0 < length (x ∷ a) → cond t (suc (agree a b)) 0 < length (y ∷ b)
        → get_or (x ∷ a) (cond t (suc (agree a b)) 0) 0 ≡ get_or (y ∷ b) (cond t (suc (agree a b)) 0) 0
        → (agree a b < length a → agree a b < length b → get_or a (agree a b) 0 ≡ get_or b (agree a b) 0 → ⊥) → ⊥
    go true t h k e f = f (omega arith) (omega arith) e
    go false t h k e f = eqb-false y x t (sym e)

-- how b lies to a, where the first n bytes of a agree with it
module _ (a b : List ℕ) {n : ℕ} (e : n ≡ agree a b) where
  from_here : {r : Ordering} → Ordered (drop n b) (drop n a) r → Ordered b a r
  from_here {r} p = ordered_from a b (subst (λ (m : ℕ). Ordered (drop m b) (drop m a) r) e p)

  pub order_same : length a ≤ n → length b ≤ n → Ordered b a Equal
  order_same h k = from_here (is_same (drop_of_length-le b k ∙ sym (drop_of_length-le a h)))

  pub order_shorter : n < length a → length b ≤ n → Ordered b a Less
  order_shorter h k = from_here (is_before (rw (drop_of_length-le b k, drop-cons a n 0 h) shorter))

  pub order_longer : length a ≤ n → n < length b → Ordered b a Greater
  order_longer h k = from_here (is_behind (rw (drop_of_length-le a h, drop-cons b n 0 k) shorter))

  pub order_differ : n < length a → n < length b → Ordered b a (nat_cmp (get_or b n 0) (get_or a n 0))
  order_differ h k =
      let d : get_or b n 0 ≡ get_or a n 0 → ⊥ = λ z. differs a b (omega arith) (omega arith) (rw (← e) (sym z)) in
      let x = ordered_first (nat_cmp (get_or b n 0) (get_or a n 0)) (ranks (get_or b n 0) (get_or a n 0)) d in
      from_here (rw (drop-cons b n 0 k, drop-cons a n 0 h) x)
