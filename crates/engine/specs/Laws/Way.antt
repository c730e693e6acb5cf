-- The loop up the ancestors, which ends at one that the caller deleted.
use Rattle.std.specs.Prelude.{◌≡◌, Bool, true, false, not, eqb, set}
use Rattle.std.proofs.Math.Path.{refl, sym, ap}
use Rattle.std.proofs.Common.{◌∙◌, arith, add-one, eqb-true, eq-eqb, ne_eqb, length-take, get_or-set_same, get_or-set_other}
use Prim.Native.Nat.{ℕ, ◌+◌, ◌-◌, ◌≤◌, ◌<◌}
use mathlib.Core.List.{List, [], ◌∷◌, ◌++◌, map, append_assoc, append-nil}
use Rattle.std.proofs.lemmas.Bool.{eqb-false}
use Rattle.std.proofs.Math.ListN.{length, get_or, take, length-set}
use Rattle.std.proofs.lemmas.List.Elements.{All-from_get_or}
use Rattle.std.proofs.Math.Seq.{take-suc-set, get_or-take}
use Rattle.tree.specs.Steps.{parent}
use Rattle.locks.specs.Needs.{Need}
use Rattle.protocol.specs.State.{Marked, seen_by}
use Rattle.table.specs.Layout.{Entry}
use Rattle.rows.specs.Places.{depth, item, number_of, climb, above_places, ups, numbers_above, seen_at}
use Rattle.rows.specs.Rows.{granted_along, granted_up}
use Rattle.rows.proofs.Laws.Up.{climb_found, climb_passed, climb_start}
use Rattle.rows.proofs.Laws.Up.{all_up, all_up_fails, all_up_found, all_up_passed, all_up_start, all_at_up}
use Rattle.engine.specs.Way.{way_up, nodes_at, Climbed, Seen}
use Rattle.engine.specs.Grants.{granted_on}

-- a place stored behind the others
pub inside_set : (n count v : ℕ) (places : List ℕ) → count < length places → v < n → ((j : ℕ) → j < count → get_or places j 0 < n)
    → (j : ℕ) → j < count + 1 → get_or (set places count v) j 0 < n
inside_set n count v places m q h j g = go (eqb j count) refl
  where
    go : (b : Bool) → eqb j count ≡ b → get_or (set places count v) j 0 < n
    go true i = rw (eqb-true j count i, get_or-set_same places count v 0 m) q
    go false i = let z = eqb-false j count i in rw (get_or-set_other places count j v 0 z) (h j (omega (arith, z)))

-- by the deleter that was read
deleted_it : (t x : ℕ) (a : Marked) → x ≡ a.deleter → x ≡ t → seen_by t a ≡ false
deleted_it t x a e f = ap not (eq-eqb a.deleter t (sym e ∙ f))

left_it : (t x : ℕ) (a : Marked) → x ≡ a.deleter → (x ≡ t → ⊥) → seen_by t a ≡ true
left_it t x a e f = ap not (ne_eqb a.deleter t (λ g. f (e ∙ g)))

-- count places of the way were found, those before k are still to be looked at, e is the depth of the last one found
pub record Climbing (l : List Entry) (t p e k count : ℕ) (places : List ℕ) : Type 0 where
  pub long : length places ≡ 1024
  pub some : 1 ≤ count
  pub room : count + k ≤ p + 1
  pub low : k ≤ p
  pub inside : (j : ℕ) → j < count → get_or places j 0 < length l
  pub found : way_up l p ≡ take count places ++ climb l e k
  pub seen : seen_at t l p ≡ all_up (seen_by t) l e k

pub climbing_hidden : (l : List Entry) (t p x : ℕ) → x ≡ (item l p).deleter → x ≡ t → seen_at t l p ≡ false
climbing_hidden l t p x d f = rw (deleted_it t x (item l p) d f)

module _ {l : List Entry} {t p : ℕ} (h : p < length l) where
  module _ (x : ℕ) (d : x ≡ (item l p).deleter) where
    pub climbing_start : (e : ℕ) (places : List ℕ) → (x ≡ t → ⊥) → e ≡ depth l p → length places ≡ 1024
        → Climbing l t p e p 1 (set places 0 p)
    unfolding way_up above_places
    climbing_start e places f v n = record {
      long = length-set places 0 p ∙ n;
      some = omega arith;
      room = omega arith;
      low = omega arith;
      inside = inside_set (length l) 0 p places (omega arith) h (λ j z. absurd (omega arith));
      found = rw (v, take-suc-set places 0 p (omega arith));
      seen = all_at_up (seen_by t) l p ∙ rw (left_it t x (item l p) d f, v);
    }

  module _ {e k count d : ℕ} {places : List ℕ} (c : Climbing l t p e k count places) (some : 0 < k) (v : d ≡ depth l (k - 1)) where
    pub climbing_passed : e ≤ d → Climbing l t p e (k - 1) count places
    climbing_passed q = record {
      long = c.long;
      some = c.some;
      room = omega (arith, c.room);
      low = omega (arith, c.low);
      inside = c.inside;
      found = c.found ∙ ap (λ z. take count places ++ z) (climb_passed l e k some (omega (arith, v)));
      seen = c.seen ∙ all_up_passed (seen_by t) l e k some (omega (arith, v));
    }

    module _ (q : d < e) (x : ℕ) (y : x ≡ (item l (k - 1)).deleter) where
      pub climbing_deleted : x ≡ t → seen_at t l p ≡ false
      climbing_deleted f =
          c.seen ∙ all_up_fails (seen_by t) l e k some (omega (arith, v)) (deleted_it t x (item l (k - 1)) y f)

      pub climbing_found : length l ≤ 1024 → (x ≡ t → ⊥) → Climbing l t p d (k - 1) (count + 1) (set places count (k - 1))
      climbing_found m f =
          let n : count < length places = omega (arith, c.long, c.room) in
          let here = ap (λ (z : List ℕ). take count places ++ z) (climb_found l e k some (omega (arith, v))) in
          let joined = append_assoc (take count places) ((k - 1) ∷ []) (climb l (depth l (k - 1)) (k - 1)) in
          record {
            long = length-set places count (k - 1) ∙ c.long;
            some = omega arith;
            room = omega (arith, c.room);
            low = omega (arith, c.low);
            inside = inside_set (length l) count (k - 1) places n (omega (arith, c.low)) c.inside;
            found = c.found ∙ rw (add-one, take-suc-set places count (k - 1) n, v) (here ∙ sym joined);
            seen = c.seen ∙ all_up_found (seen_by t) l e k some (omega (arith, v)) (left_it t x (item l (k - 1)) y f) ∙ rw v;
          }

  pub climbing_done : {e k count : ℕ} {places : List ℕ} → Climbing l t p e k count places → length l ≤ 1024 → k ≡ 0
      → Seen l t p (take count places)
  climbing_done {e} {k} {count} {places} c m z =
      let n : count ≤ length places = omega (arith, c.long, c.room) in
      record {
        seen = c.seen ∙ rw z (all_up_start (seen_by t) l e);
        climbed = record {
          inside = All-from_get_or (λ i. i < length l) (take count places) 0
              (λ i k. let j : i < count = omega (arith, length-take count places, k) in rw (get_or-take count places i 0 j) (c.inside i j));
          places = sym (c.found ∙ rw (z, climb_start l e) (append-nil (take count places)));
        };
      }

-- what the way stands for
module _ {l : List Entry} {p : ℕ} {way : List ℕ} (c : Climbed l p way) where
  pub climbed_nodes : nodes_at l way ≡ item l p ∷ ups l p
  unfolding nodes_at way_up ups
  climbed_nodes = ap (map (item l)) c.places

  pub climbed_grants : (t : ℕ) (n : Need) → granted_on t n way l ≡ granted_up t n p l
  unfolding granted_on way_up
  climbed_grants t n = ap (λ is. granted_along t n.node n.parent n.above is l) c.places

  -- the parent is the second
  pub climbed_top : length way < 2 → 0 ≡ parent (numbers_above l p)
  unfolding ups way_up
  climbed_top k = go (above_places l p) (ap length c.places)
    where
      go : (is : List ℕ) → length way ≡ length (p ∷ is) → 0 ≡ parent (map number_of (map (item l) is))
      go [] e = refl
      go (i ∷ is) e = absurd (omega arith)

  pub climbed_parent : 1 < length way → number_of (item l (get_or way 1 0)) ≡ parent (numbers_above l p)
  unfolding ups way_up
  climbed_parent k = go (above_places l p) c.places
    where
      go : (is : List ℕ) → way ≡ p ∷ is → number_of (item l (get_or way 1 0)) ≡ parent (map number_of (map (item l) is))
      go [] e = absurd (omega (arith, ap length e))
      go (i ∷ is) e = rw e
