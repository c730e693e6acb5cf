-- The loop up the ancestors, which ends at one that an open transaction inserted.
use Rattle.std.specs.Prelude.{◌≡◌, ℕ, ◌-◌, ◌≤◌, ◌<◌, true, false, List}
use Rattle.std.proofs.Math.Path.{sym}
use Rattle.std.proofs.Common.{◌∙◌, arith, eq-eqb, ne_eqb}
use Rattle.protocol.specs.State.{nobody, Marked}
use Rattle.table.specs.Layout.{Entry}
use Rattle.rows.specs.Places.{depth, item, is_committed}
use Rattle.rows.proofs.Laws.Up.{all_up, all_up_fails, all_up_found, all_up_passed, all_up_start, all_at_up}
use Rattle.counts.specs.Committed.{committed_at}

-- by the inserter x that was read
inserted : (x : ℕ) (a : Marked) → x ≡ a.inserter → (x ≡ nobody → ⊥) → is_committed a ≡ false
inserted x a e f = ne_eqb a.inserter nobody (λ g. f (e ∙ g))

not_inserted : (x : ℕ) (a : Marked) → x ≡ a.inserter → x ≡ nobody → is_committed a ≡ true
not_inserted x a e f = eq-eqb a.inserter nobody (sym e ∙ f)

-- the places before k are still to be looked at, e is the depth of the last ancestor found
pub record Climbing (l : List Entry) (p e k : ℕ) : Type 0 where
  pub low : k ≤ p
  pub committed : committed_at l p ≡ all_up is_committed l e k

module _ (l : List Entry) (p x : ℕ) (y : x ≡ (item l p).inserter) where
  pub climbing_none : (x ≡ nobody → ⊥) → false ≡ committed_at l p
  unfolding committed_at
  climbing_none f = sym (all_at_up is_committed l p ∙ rw (inserted x (item l p) y f))

  pub climbing_start : (e : ℕ) → x ≡ nobody → e ≡ depth l p → Climbing l p e p
  unfolding committed_at
  climbing_start e f v = record {
    low = omega arith;
    committed = all_at_up is_committed l p ∙ rw (not_inserted x (item l p) y f, v);
  }

module _ (l : List Entry) (p e k : ℕ) (c : Climbing l p e k) where
  module _ {d : ℕ} (some : 0 < k) (v : d ≡ depth l (k - 1)) where
    pub climbing_passed : e ≤ d → Climbing l p e (k - 1)
    climbing_passed q = record {
      low = omega (arith, c.low);
      committed = c.committed ∙ all_up_passed is_committed l e k some (omega (arith, v));
    }

    module _ (q : d < e) (x : ℕ) (y : x ≡ (item l (k - 1)).inserter) where
      pub climbing_inserted : (x ≡ nobody → ⊥) → false ≡ committed_at l p
      climbing_inserted f = sym (c.committed ∙ all_up_fails is_committed l e k some (omega (arith, v)) (inserted x (item l (k - 1)) y f))

      pub climbing_found : x ≡ nobody → Climbing l p d (k - 1)
      climbing_found f = record {
        low = omega (arith, c.low);
        committed = c.committed ∙ all_up_found is_committed l e k some (omega (arith, v)) (not_inserted x (item l (k - 1)) y f) ∙ rw v;
      }

  pub climbing_done : k ≡ 0 → true ≡ committed_at l p
  climbing_done z = sym (c.committed ∙ rw z (all_up_start is_committed l e))
