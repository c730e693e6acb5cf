-- A name is found among sorted ones by halving, and put among them.
use Rattle.std.specs.Prelude.{ℕ, zero, suc, ◌+◌, ◌≤◌, ◌<◌, ◌≡◌, refl, Bool, true, false, ◌⊎◌, List, [], ◌∷◌, Result, Ok, Err, eqb, ltb}
use Rattle.std.specs.declared.cmp.Ordering.{Ordering}
use Rattle.std.specs.declared.cmp.Ordering.TheVariants.{Less, Equal, Greater}
use Rattle.std.proofs.Common.{sym, ◌∙◌, subst, inl, inr, arith, eqb-true, ltb-true, ltb-false}
use Rattle.std.proofs.Math.Bool.{or-true}
use Rattle.std.proofs.lemmas.Bool.{false≢true, eqb-false}
use Rattle.tree.specs.Lists.{same}
use Rattle.tree.specs.Laws.Tests.{refuted, or_cases}
use Rattle.tree.specs.Laws.Compare.{same_equal, same_self}
use Rattle.xml.specs.Bytes.{used}
use Rattle.byte_strings.specs.Order.{Precedes, Ordered}
use Rattle.byte_strings.specs.Sorted.{Increasing, Among, Lists, Between, Belongs, is_taken, is_free, Added}
use Rattle.byte_strings.specs.Laws.Order.{precedes_through, precedes_none, before_of, same_of, behind_of}

pub lists_none : (name : ℕ → List ℕ) → Lists name 0 []
unfolding used
lists_none name = record { each_seen = λ i h. absurd (omega arith); has = λ w e. absurd (false≢true e) }

pub increasing_none : (name : ℕ → List ℕ) → Increasing name 0
increasing_none name = record { increasing = λ i j h k. absurd (omega arith) }

pub between_start : (name : ℕ → List ℕ) (n : ℕ) (w : List ℕ) → Between name n 0 n w
between_start name n w = record { below = λ i h. absurd (omega arith); above = λ i h k. absurd (omega arith) }

module _ {name : ℕ → List ℕ} {n low high m : ℕ} {w : List ℕ} (s : Increasing name n) (b : Between name n low high w) (h : m < n) where
  between_before : Precedes w (name m) → Between name n low m w
  between_before p = record { below = b.below; above = λ i k l. go i k l (eqb i m) refl }
    where
      go : (i : ℕ) → m ≤ i → i < n → (t : Bool) → eqb i m ≡ t → Precedes w (name i)
      go i k l true e = rw (eqb-true i m e) p
      go i k l false e = precedes_through p (s.increasing m i (omega (arith, eqb-false i m e)) l)

  between_behind : Precedes (name m) w → Between name n (m + 1) high w
  between_behind p = record { below = λ i k. go i k (eqb i m) refl; above = b.above }
    where
      go : (i : ℕ) → i < m + 1 → (t : Bool) → eqb i m ≡ t → Precedes (name i) w
      go i k true e = rw (eqb-true i m e) p
      go i k false e = precedes_through (s.increasing i m (omega (arith, eqb-false i m e)) h) p

  module _ {r : Ordering} (o : Ordered (name m) w r) where
    pub turn_less : r ≡ Less → Between name n (m + 1) high w
    turn_less e = between_behind (before_of (subst (Ordered (name m) w) e o))

    pub turn_greater : r ≡ Greater → Between name n low m w
    turn_greater e = between_before (behind_of (subst (Ordered (name m) w) e o))

    pub turn_equal : r ≡ Equal → Belongs name n w (Ok m)
    turn_equal e = is_taken h (same_of (subst (Ordered (name m) w) e o))

module _ {name : ℕ → List ℕ} {n : ℕ} {w : List ℕ} {r : Result ℕ ℕ} (b : Belongs name n w r) where
  pub taken_of : {k : ℕ} → r ≡ Ok k → Among name n w
  taken_of {k} e = go (subst (Belongs name n w) e b)
    where
      go : Belongs name n w (Ok k) → Among name n w
      go (is_taken h z) = record { at = k; inside = h; is = z }

  pub free_of : {k : ℕ} → r ≡ Err k → (k ≤ n) × Between name n k k w
  free_of {k} e = go (subst (Belongs name n w) e b)
    where
      go : Belongs name n w (Err k) → (k ≤ n) × Between name n k k w
      go (is_free h x) = (h, x)

-- what is found is seen, what is not found is not
module _ {name : ℕ → List ℕ} {n : ℕ} {w : List ℕ} {seen : List (List ℕ)} (l : Lists name n seen) where
  pub among_seen : Among name n w → used seen w ≡ true
  among_seen a = rw (← a.is) (l.each_seen a.at a.inside)

  pub between_unseen : {k : ℕ} → Between name n k k w → used seen w ≡ false
  between_unseen {k} b = refuted (used seen w) (λ e. out (l.has w e))
    where
      out : Among name n w → ⊥
      out a = go (ltb a.at k) refl
        where
          go : (t : Bool) → ltb a.at k ≡ t → ⊥
          go true e = precedes_none (rw a.is at (b.below a.at (ltb-true a.at k e)))
          go false e = precedes_none (rw a.is at (b.above a.at (ltb-false a.at k e) a.inside))

-- a place before, at or behind place k
pub data Side (k : ℕ) : ℕ → Type 0 where
  side_before : {i : ℕ} → i < k → Side k i
  side_here : Side k k
  side_behind : {i : ℕ} → k ≤ i → Side k (suc i)

pub side : (k i : ℕ) → Side k i
side k zero = go (eqb k 0) refl
  where
    go : (t : Bool) → eqb k 0 ≡ t → Side k 0
    go true e = rw (eqb-true k 0 e) side_here
    go false e = let h : 0 < k = omega (arith, eqb-false k 0 e) in side_before h
side k (suc i) = go (ltb i k) refl
  where
    at_most : i < k → (t : Bool) → eqb k (suc i) ≡ t → Side k (suc i)
    at_most h true e = rw (eqb-true k (suc i) e) side_here
    at_most h false e = let l : suc i < k = omega (arith, eqb-false k (suc i) e) in side_before l

    go : (t : Bool) → ltb i k ≡ t → Side k (suc i)
    go true e = at_most (ltb-true i k e) (eqb k (suc i)) refl
    go false e = side_behind (ltb-false i k e)

-- w put at place k
module _ {name name' : ℕ → List ℕ} {n k : ℕ} {w : List ℕ} (s : Increasing name n) (b : Between name n k k w) (m : k ≤ n)
    (ahead : (i : ℕ) → i < k → name' i ≡ name i) (here : name' k ≡ w) (further : (i : ℕ) → k ≤ i → i < n → name' (suc i) ≡ name i) where
  added_sorted : (i j : ℕ) → i < j → j < n + 1 → Side k i → Side k j → Precedes (name' i) (name' j)
  added_sorted i j h l (side_before p) (side_before q) = rw (ahead i p, ahead j q) (s.increasing i j h (omega arith))
  added_sorted i j h l (side_before p) side_here = rw (ahead i p, here) (b.below i p)
  added_sorted i (suc j) h l (side_before p) (side_behind q) =
      rw (ahead i p, further j q (omega arith)) (s.increasing i j (omega arith) (omega arith))
  added_sorted i j h l side_here (side_before q) = absurd (omega arith)
  added_sorted i j h l side_here side_here = absurd (omega arith)
  added_sorted i (suc j) h l side_here (side_behind q) = rw (here, further j q (omega arith)) (b.above j q (omega arith))
  added_sorted (suc i) j h l (side_behind p) (side_before q) = absurd (omega arith)
  added_sorted (suc i) j h l (side_behind p) side_here = absurd (omega arith)
  added_sorted (suc i) (suc j) h l (side_behind p) (side_behind q) =
      rw (further i p (omega arith), further j q (omega arith)) (s.increasing i j (omega arith) (omega arith))

  module _ (seen : List (List ℕ)) (x : Lists name n seen) where
    added_each : (i : ℕ) → i < n + 1 → Side k i → used (w ∷ seen) (name' i) ≡ true
    unfolding used
    added_each i h (side_before p) = subst (λ (z : List ℕ). used (w ∷ seen) z ≡ true) (sym (ahead i p))
        (rw (x.each_seen i (omega arith)) (or-true (same w (name i))))
    added_each i h side_here = rw (here, same_self w)
    added_each (suc i) h (side_behind p) = subst (λ (z : List ℕ). used (w ∷ seen) z ≡ true) (sym (further i p (omega arith)))
        (rw (x.each_seen i (omega arith)) (or-true (same w (name i))))

    moved : {v : List ℕ} → Among name n v → Among name' (n + 1) v
    moved {v} a = go (ltb a.at k) refl
      where
        go : (t : Bool) → ltb a.at k ≡ t → Among name' (n + 1) v
        go true e = record { at = a.at; inside = omega (arith, a.inside); is = ahead a.at (ltb-true a.at k e) ∙ a.is }
        go false e = record {
          at = suc a.at;
          inside = omega (arith, a.inside);
          is = further a.at (ltb-false a.at k e) a.inside ∙ a.is;
        }

    added_has : (v : List ℕ) → used (w ∷ seen) v ≡ true → Among name' (n + 1) v
    unfolding used
    added_has v e = go (or_cases (same w v) (used seen v) e)
      where
        go : (same w v ≡ true) ⊎ (used seen v ≡ true) → Among name' (n + 1) v
        go (inl h) = record { at = k; inside = omega arith; is = here ∙ same_equal w v h }
        go (inr h) = moved (x.has v h)

  pub added : Added name name' n w
  added = record {
    sorted = record { increasing = λ i j h l. added_sorted i j h l (side k i) (side k j) };
    unseen = λ seen x. between_unseen x b;
    lists = λ seen x. record { each_seen = λ i h. added_each seen x i h (side k i); has = added_has seen x };
  }
