-- The numbers of the places that were passed, in chained buckets.
use Rattle.std.specs.Prelude.{◌≡◌, refl, Bool, true, false, cond, ◌&&◌, ◌||◌, length, get_or}
use Rattle.std.proofs.Math.Path.{sym, fun_ext}
use Rattle.std.proofs.Common.{ap, ◌∙◌, add-one, length-set, get_or-set_same, get_or-set_other, eqb-true, eq-eqb, ne_eqb}
use Prim.Native.Nat.{ℕ, zero, suc, ◌+◌, ◌-◌, ◌≤◌, ◌<◌}
use mathlib.Core.List.{List, [], ◌∷◌}
use native.Mathlib.Omega.{arith}
use Rattle.std.proofs.Math.ListN.{set}
use Rattle.std.proofs.Math.Dec.{eqb}
use Rattle.std.proofs.lemmas.Bool.{eqb-false}
use Rattle.tree.specs.Lists.{every, distinct}
use Rattle.table.specs.Layout.{tabulate}
use Rattle.form.specs.Check.{bucket, chained, entered, Chains}
use Rattle.form.specs.Laws.Fresh.{fresh_from, fresh_begin, fresh_turn, fresh_end, zeros}

-- a chain ----------------------------------------------------------------------------------------

-- what a chain has rests only on the links of smaller places, and not on the most places if they are enough
chained_same : (f : ℕ → ℕ) (next next' : List ℕ) (w m n link : ℕ) → link ≤ m → link ≤ n → ((j : ℕ) → get_or next j 0 ≤ j)
    → ((j : ℕ) → j < link → get_or next' j 0 ≡ get_or next j 0) → chained f next' w m link ≡ chained f next w n link
unfolding chained
chained_same f next next' w zero zero link a b d e = refl
chained_same f next next' w zero (suc n) zero a b d e = refl
chained_same f next next' w zero (suc n) (suc j) a b d e = absurd (omega arith)
chained_same f next next' w (suc m) zero zero a b d e = refl
chained_same f next next' w (suc m) zero (suc j) a b d e = absurd (omega arith)
chained_same f next next' w (suc m) (suc n) zero a b d e = refl
chained_same f next next' w (suc m) (suc n) (suc j) a b d e =
    rw (e j (omega arith))
    (ap (λ (r : Bool). eqb w (f j) || r)
    (chained_same f next next' w m n (get_or next j 0) (omega (arith, d j)) (omega (arith, d j)) d (λ i h. e i (omega (arith, d j)))))

-- the walk along a chain: x is the number that was read at the place of the link
module _ (f : ℕ → ℕ) (next : List ℕ) (w first link : ℕ) (v : chained f next w 1024 first ≡ chained f next w 1024 link) where
  chain_turn : ((j : ℕ) → get_or next j 0 ≤ j) → (link ≡ 0 → ⊥) → link ≤ 1024 → (x : ℕ) → x ≡ f (link - 1)
      → chained f next w 1024 first ≡ (eqb w x || chained f next w 1024 (get_or next (link - 1) 0))
  unfolding chained
  chain_turn d z l x e = v ∙ go link z l ∙ rw e
    where
      go : (link : ℕ) → (link ≡ 0 → ⊥) → link ≤ 1024
          → chained f next w 1024 link ≡ (eqb w (f (link - 1)) || chained f next w 1024 (get_or next (link - 1) 0))
      go zero z l = absurd (z refl)
      go (suc j) z l =
          let p : suc j - 1 ≡ j = omega arith in
          rw p
          (ap (λ (r : Bool). eqb w (f j) || r)
          (chained_same f next next w 1023 1024 (get_or next j 0) (omega (arith, d j)) (omega (arith, d j)) d (λ i h. refl)))

  module _ (d : (j : ℕ) → get_or next j 0 ≤ j) (z : link ≡ 0 → ⊥) (l : link ≤ 1024) (x : ℕ) (e : x ≡ f (link - 1)) where
    pub chain_met : x ≡ w → true ≡ chained f next w 1024 first
    chain_met h = sym (chain_turn d z l x e ∙ rw (eq-eqb w x (sym h)))

    pub chain_next : (x ≡ w → ⊥) → chained f next w 1024 first ≡ chained f next w 1024 (get_or next (link - 1) 0)
    chain_next h = chain_turn d z l x e ∙ rw (ne_eqb w x (λ e. h (sym e)))

  pub chain_end : link ≡ 0 → false ≡ chained f next w 1024 first
  unfolding chained
  chain_end z = sym (v ∙ rw z)

-- a place entered ----------------------------------------------------------------------------------

set_below : (l : List ℕ) (i v : ℕ) (g : ℕ → ℕ) → ((j : ℕ) → get_or l j 0 ≤ g j) → v ≤ g i → (j : ℕ) → get_or (set l i v) j 0 ≤ g j
set_below [] i v g h k j = h j
set_below (x ∷ l) zero v g h k zero = k
set_below (x ∷ l) zero v g h k (suc j) = h (suc j)
set_below (x ∷ l) (suc i) v g h k zero = h 0
set_below (x ∷ l) (suc i) v g h k (suc j) = set_below l i v (λ j. g (suc j)) (λ j. h (suc j)) k j

pub chains_begin : (heads next : List ℕ) → length heads ≡ 2048 → length next ≡ 1024 → every (λ x. eqb x 0) heads ≡ true
    → every (λ x. eqb x 0) next ≡ true → Chains 0 heads next
chains_begin heads next a b y z = record {
  buckets = a;
  places = b;
  low = λ b. omega (arith, zeros heads y b);
  falls = λ j. omega (arith, zeros next z j);
}

module _ {i : ℕ} {heads next : List ℕ} (h : Chains i heads next) where
  pub chains_next : (b : ℕ) → Chains (i + 1) (set heads b (i + 1)) (set next i (get_or heads b 0))
  chains_next b = record {
    buckets = simp length-set h.buckets;
    places = simp length-set h.places;
    low = set_below heads b (i + 1) (λ b. i + 1) (λ b. omega (arith, h.low b)) (omega arith);
    falls = set_below next i (get_or heads b 0) (λ j. j) h.falls (h.low b);
  }

  -- the numbers that were met are one more
  entered_more : (f : ℕ → ℕ) → i < 1024 → bucket (f i) < 2048
      → entered f (set heads (bucket (f i)) (i + 1)) (set next i (get_or heads (bucket (f i)) 0))
      ≡ (λ k. eqb k (f i) || entered f heads next k)
  unfolding entered chained
  entered_more f l m = fun_ext (λ k. go k (eqb (bucket k) (bucket (f i))) refl)
    where
      next' : List ℕ
      next' = set next i (get_or heads (bucket (f i)) 0)

      kept : (k n b : ℕ) → i ≤ n → chained f next' k n (get_or heads b 0) ≡ chained f next k 1024 (get_or heads b 0)
      kept k n b a =
          chained_same f next next' k n 1024 (get_or heads b 0) (omega (arith, h.low b)) (omega (arith, h.low b)) h.falls
          (λ j x. get_or-set_other next i j (get_or heads (bucket (f i)) 0) 0 (λ e. omega (arith, h.low b)))

      go : (k : ℕ) (x : Bool) → eqb (bucket k) (bucket (f i)) ≡ x
          → chained f next' k 1024 (get_or (set heads (bucket (f i)) (i + 1)) (bucket k) 0)
          ≡ (eqb k (f i) || chained f next k 1024 (get_or heads (bucket k) 0))
      go k true p =
          rw (
            eqb-true (bucket k) (bucket (f i)) p,
            get_or-set_same heads (bucket (f i)) (i + 1) 0 (omega (arith, h.buckets)),
            add-one i,
            get_or-set_same next i (get_or heads (bucket (f i)) 0) 0 (omega (arith, h.places)),
            kept k 1023 (bucket (f i)) (omega arith),
          )
      go k false p =
          let a : bucket k ≡ bucket (f i) → ⊥ = eqb-false (bucket k) (bucket (f i)) p in
          rw (
            ne_eqb k (f i) (λ e. a (ap bucket e)),
            get_or-set_other heads (bucket (f i)) (bucket k) (i + 1) 0 a,
            kept k 1024 (bucket k) (omega arith),
          )

-- the loop, turn by turn -----------------------------------------------------------------------------

-- the numbers from place i on
unfoldable pub numbers_from : (ℕ → ℕ) → ℕ → List ℕ → List ℕ → ℕ → Bool
numbers_from f n heads next i = fresh_from f n (entered f heads next) i

pub numbers_begin : (f : ℕ → ℕ) (n : ℕ) (heads next : List ℕ) → every (λ x. eqb x 0) heads ≡ true
    → distinct (tabulate n f) ≡ numbers_from f n heads next 0
unfolding numbers_from entered chained
numbers_begin f n heads next z = fresh_begin f n (entered f heads next) (λ k. rw (zeros heads z (bucket k)))

module _ (f : ℕ → ℕ) (n : ℕ) (heads next : List ℕ) (i : ℕ) (v : distinct (tabulate n f) ≡ numbers_from f n heads next i) where
  -- w is the number that was read, b its bucket, and r says whether it was found there
  module _ (w b : ℕ) (r : Bool) (l : i < n) (e : w ≡ f i) (g : b ≡ bucket w) (q : r ≡ chained f next w 1024 (get_or heads b 0)) where
    numbers_turn : distinct (tabulate n f)
        ≡ (cond r false true && fresh_from f n (λ k. eqb k (f i) || entered f heads next k) (i + 1))
    unfolding numbers_from entered
    numbers_turn = v ∙ fresh_turn f n (entered f heads next) i l ∙ rw (← e, ← g, q)

    pub numbers_met : r ≡ true → false ≡ distinct (tabulate n f)
    numbers_met t = sym (numbers_turn ∙ rw t)

    pub numbers_next : r ≡ false → Chains i heads next → i < 1024 → b < 2048
        → distinct (tabulate n f) ≡ numbers_from f n (set heads b (i + 1)) (set next i (get_or heads b 0)) (i + 1)
    unfolding numbers_from
    numbers_next t h m o = numbers_turn ∙ rw (t, g, e, entered_more h f m (rw (← e, ← g) o))

  pub numbers_end : n ≤ i → true ≡ distinct (tabulate n f)
  unfolding numbers_from
  numbers_end h = sym (v ∙ fresh_end f n (entered f heads next) i h)
