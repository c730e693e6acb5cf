-- The loop that selects the nodes of a subtree that a transaction sees.
use Rattle.std.specs.Prelude.{◌≡◌, refl, ℕ, suc, ◌+◌, ◌≤◌, ◌<◌, Bool, true, false, cond, eqb, All, get_or, take, drop, set, ltb}
use Rattle.std.proofs.Math.Path.{sym}
use Rattle.std.proofs.Common.{ap, ◌∙◌, arith, add-one, length-set, take-suc-set, eq-eqb, ne_eqb, ltb-true}
use mathlib.Core.List.{List, [], ◌∷◌, ◌++◌, map, append_assoc, append-nil}
use Rattle.std.proofs.Math.ListN.{length, length-map}
use Rattle.std.proofs.Math.Seq.{length-take-le}
use Rattle.std.proofs.lemmas.List.{get_or-take, get_or_default}
use Rattle.tree.specs.Laws.Lists.{map_append}
use Rattle.tree.specs.Laws.Tests.{and_left}
use Rattle.protocol.specs.State.{Marked, seen_by}
use Rattle.table.specs.Flat.{left_out, prune}
use Rattle.table.specs.Layout.{Entry, no_entry}
use Rattle.table.specs.Outline.{next_below}
use Rattle.rows.specs.Places.{depth, item, items, below, seen_from, subtree}
use Rattle.rows.proofs.Laws.Subtree.{below_turn, seen_left, seen_end}
use Rattle.engine.specs.Way.{Places, places_of, nodes_of}
use Rattle.engine.specs.Laws.Way.{inside_set}
use Rattle.node_reading.specs.Subtree.{Selected}

-- what was selected, as the list of its places
module _ {l : List Entry} {t p : ℕ} {w : Places} (c : Selected l t p w) where
  pub selected_inside : All (λ i. i < length l) (take w.count w.places)
  selected_inside k d h =
      let n : k < w.count = omega (arith, length-take-le w.count w.places (omega (arith, c.inside.long, c.inside.room))) in
      let z = get_or_default (take w.count w.places) k d 0 h ∙ get_or-take w.count w.places k 0 n in
      rw z (c.inside.inside k n)

  pub selected_nodes : map (item l) (take w.count w.places) ≡ subtree t l p
  unfolding nodes_of places_of
  selected_nodes = c.nodes

-- count places were selected, the rows from i on are still to be looked at, and those from depth hidden on are left out now
pub record Selecting (l : List Entry) (t p e hidden i count : ℕ) (places : List ℕ) : Type 0 where
  pub long : length places ≡ 1024
  pub behind : i ≤ length l
  pub room : count + p ≤ i
  pub inside : (j : ℕ) → j < count → get_or places j 0 < length l
  pub found : subtree t l p ≡ map (item l) (take count places) ++ seen_from t hidden e (drop i l)

pub selecting_start : {l : List Entry} {p e : ℕ} (t : ℕ) (places : List ℕ) → p < length l → e ≡ depth l p → length places ≡ 1024
    → Selecting l t p e 0 (p + 1) 1 (set places 0 p)
selecting_start {l} {p} {e} t places h v n = record {
  long = length-set places 0 p ∙ n;
  behind = omega arith;
  room = omega arith;
  inside = inside_set (length l) 0 p places (omega arith) h (λ j z. absurd (omega arith));
  found = rw (v, add-one, take-suc-set places 0 p (omega arith));
}

-- a row is found and nothing behind it is left out, or it is left out with what lies below
turn : (shown : Marked → Bool) (hidden : ℕ) (x : Entry) (xs : List Entry)
    → items (prune shown hidden (x ∷ xs))
    ≡ cond (eqb (next_below shown hidden x) 0) (x.1 ∷ items (prune shown 0 xs)) (items (prune shown (next_below shown hidden x) xs))
unfolding prune next_below
turn shown hidden x xs = go (left_out hidden x.0) refl (shown x.1)
  where
    go : (u : Bool) → left_out hidden x.0 ≡ u → (v : Bool)
        → items (cond u (prune shown hidden xs) (cond v (x ∷ prune shown 0 xs) (prune shown (suc x.0) xs)))
        ≡ cond (eqb (cond u hidden (cond v 0 (suc x.0))) 0) (x.1 ∷ items (prune shown 0 xs))
        (items (prune shown (cond u hidden (cond v 0 (suc x.0))) xs))
    go true p v = rw (ne_eqb hidden 0 (λ z. omega (arith, ltb-true 0 hidden (and_left (ltb 0 hidden) _ p))))
    go false p true = refl
    go false p false = rw (ne_eqb (suc x.0) 0 (λ z. omega arith))

module _ {l : List Entry} {t p e hidden i count : ℕ} {places : List ℕ} (c : Selecting l t p e hidden i count places) where
  selecting_on : (hidden' : ℕ) → i < length l → seen_from t hidden e (drop i l) ≡ seen_from t hidden' e (drop (i + 1) l)
      → Selecting l t p e hidden' (i + 1) count places
  selecting_on hidden' h z = record {
    long = c.long;
    behind = omega arith;
    room = omega (arith, c.room);
    inside = c.inside;
    found = c.found ∙ ap (λ k. map (item l) (take count places) ++ k) z;
  }

  selecting_over : length l ≤ 1024 → seen_from t hidden e (drop i l) ≡ [] → Selected l t p (record { places = places; count = count })
  unfolding nodes_of places_of
  selecting_over m z =
      let f : subtree t l p ≡ map (item l) (take count places) = c.found ∙ rw z (append-nil (map (item l) (take count places))) in
      let r : count ≤ 1024 = omega (arith, c.room, c.behind) in
      record {
        inside = record { long = c.long; room = r; inside = c.inside };
        nodes = sym f;
        many = sym (ap length f ∙ length-map (take count places) (item l) ∙ length-take-le count places (omega (arith, c.long)));
      }

  -- no row is left
  pub selecting_end : length l ≤ 1024 → length l ≤ i → Selected l t p (record { places = places; count = count })
  selecting_end m h = selecting_over m (seen_end l e i t hidden h)

  -- d is the depth at i
  module _ {d : ℕ} (h : i < length l) (v : d ≡ depth l i) where
    -- behind the subtree
    pub selecting_left : length l ≤ 1024 → d ≤ e → Selected l t p (record { places = places; count = count })
    selecting_left m q = selecting_over m (seen_left l e i t hidden h (omega (arith, v)))

    -- b is the least depth that is left out behind the row
    module _ {b : ℕ} (k : e < d) (n : b ≡ next_below (seen_by t) hidden (get_or l i no_entry)) where
      next_seen : seen_from t hidden e (drop i l)
          ≡ cond (eqb b 0) (item l i ∷ seen_from t 0 e (drop (i + 1) l)) (seen_from t b e (drop (i + 1) l))
      unfolding seen_from
      next_seen = rw (below_turn l e i h (omega (arith, v)), n) (turn (seen_by t) hidden (get_or l i no_entry) (below e (drop (i + 1) l)))

      -- it is below a node that t deleted, or is one
      pub selecting_passed : (b ≡ 0 → ⊥) → Selecting l t p e b (i + 1) count places
      selecting_passed z = selecting_on b h (next_seen ∙ rw (ne_eqb b 0 z))

      pub selecting_found : length l ≤ 1024 → b ≡ 0 → Selecting l t p e 0 (i + 1) (count + 1) (set places count i)
      selecting_found m z =
          let n : count < length places = omega (arith, c.long, c.room) in
          let f : seen_from t hidden e (drop i l) ≡ item l i ∷ seen_from t 0 e (drop (i + 1) l) = next_seen ∙ rw (eq-eqb b 0 z) in
          record {
            long = length-set places count i ∙ c.long;
            behind = omega arith;
            room = omega (arith, c.room);
            inside = inside_set (length l) count i places n h c.inside;
            found = c.found
                ∙ rw (f, add-one count, take-suc-set places count i n, map_append (item l) (take count places) (i ∷ []))
                (sym (append_assoc (map (item l) (take count places)) (item l i ∷ []) (seen_from t 0 e (drop (i + 1) l))));
          }
