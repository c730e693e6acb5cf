-- The pass over the children of a node.
use Rattle.std.specs.Prelude.{◌≡◌, refl, ℕ, suc, ◌+◌, ◌≤◌, ◌<◌, Bool, true, false, cond, ◌&&◌, List, [], ◌∷◌, map, length, drop, eqb}
use Rattle.std.proofs.Common.{sym, ◌∙◌, arith, add-one}
use Rattle.std.proofs.Math.Bool.{and-true, and_assoc}
use borrow.Author.Tests.{eqb-true, eqb-false, eq-eqb, ne_eqb}
use Rattle.tree.specs.Lists.{every, keep}
use Rattle.tree.specs.Content.{attribute_kind, takes, attributes_first}
use Rattle.tree.specs.Steps.{placed}
use Rattle.protocol.specs.State.{Marked}
use Rattle.table.specs.Layout.{Entry}
use Rattle.rows.specs.Places.{depth, item, children_from, children}
use Rattle.rows.specs.Placing.{attributes, ordered_behind, placed_by}
use Rattle.rows.proofs.Laws.Children.{child_found, child_deleted, child_passed, child_left, child_end}
use Rattle.rows.proofs.Laws.Placing.{ordered_start, attributes_one, attributes_other, placed_pass}
use Rattle.node_writing.specs.Writing.{counted, Counted}
use Rattle.node_writing.specs.declared.Tally.{Tally}

-- of these kinds those before the rest were counted
pub record Tallying (parent : ℕ) (kinds rest : List ℕ) (c : Tally) : Type 0 where
  pub few : c.attributes ≤ c.count
  pub count : length kinds ≡ c.count + length rest
  pub attributes : attributes kinds ≡ c.attributes + attributes rest
  pub ordered : attributes_first kinds ≡ (c.ordered && ordered_behind c.attributes c.count rest)
  pub allowed : every (takes parent) kinds ≡ (c.allowed && every (takes parent) rest)

pub tallying_start : (parent : ℕ) (kinds : List ℕ)
    → Tallying parent kinds kinds (record { count = 0; attributes = 0; ordered = true; allowed = true })
tallying_start parent kinds = record {
  few = omega arith;
  count = omega arith;
  attributes = omega arith;
  ordered = ordered_start 0 kinds;
  allowed = refl;
}

pub tallying_done : {parent : ℕ} {kinds : List ℕ} {c : Tally} → Tallying parent kinds [] c → Counted parent kinds c
unfolding attributes keep ordered_behind
tallying_done {parent} {kinds} {c} v = record {
  count = v.count ∙ omega arith;
  attributes = v.attributes ∙ omega arith;
  ordered = v.ordered ∙ and-true c.ordered;
  allowed = v.allowed ∙ and-true c.allowed;
  few = v.few;
}

pub tallying_turn : {parent : ℕ} {kinds : List ℕ} {c : Tally} (x : ℕ) (rest : List ℕ) → Tallying parent kinds (x ∷ rest) c
    → Tallying parent kinds rest (counted parent x c)
unfolding counted ordered_behind
tallying_turn {parent} {kinds} {c} x rest v = record {
  few = few (eqb x attribute_kind);
  count = v.count ∙ omega arith;
  attributes = v.attributes ∙ more (eqb x attribute_kind) refl;
  ordered = v.ordered ∙ first (eqb x attribute_kind);
  allowed = v.allowed ∙ sym (and_assoc c.allowed (takes parent x) (every (takes parent) rest));
}
  where
    few : (b : Bool) → cond b (c.attributes + 1) c.attributes ≤ c.count + 1
    few true = omega (arith, v.few)
    few false = omega (arith, v.few)

    more : (b : Bool) → eqb x attribute_kind ≡ b
        → c.attributes + attributes (x ∷ rest) ≡ cond b (c.attributes + 1) c.attributes + attributes rest
    more true e = rw (attributes_one x rest (eqb-true x attribute_kind e)) (omega arith)
    more false e = rw (attributes_other x rest (eqb-false x attribute_kind e))

    first : (b : Bool)
        → (c.ordered && cond b (eqb c.attributes c.count && ordered_behind (suc c.attributes) (suc c.count) rest)
        (ordered_behind c.attributes (suc c.count) rest))
        ≡ (cond b (c.ordered && eqb c.attributes c.count) c.ordered
        && ordered_behind (cond b (c.attributes + 1) c.attributes) (c.count + 1) rest)
    first true =
        rw (add-one c.attributes, add-one c.count)
        (sym (and_assoc c.ordered (eqb c.attributes c.count) (ordered_behind (suc c.attributes) (suc c.count) rest)))
    first false = rw (add-one c.count)

-- the loop: the rows before i were looked at ----------------------------------------------------

abbrev kinds_of : List Marked → List ℕ
kinds_of cs = map (λ c. c.now.kind) cs

-- of the children of the node at p that t sees
pub record Passing (t : ℕ) (l : List Entry) (p parent i : ℕ) (c : Tally) : Type 0 where
  pub tallying : Tallying parent (kinds_of (children t l p)) (kinds_of (children_from t (depth l p) (drop i l))) c

module _ (t : ℕ) (l : List Entry) (p parent : ℕ) where
  pub passing_start : Passing t l p parent (p + 1) (record { count = 0; attributes = 0; ordered = true; allowed = true })
  passing_start = record { tallying = rw (add-one p) (tallying_start parent (kinds_of (children t l p))) }

  module _ (i : ℕ) (c : Tally) (v : Passing t l p parent i c) where
    as_rest : (cs : List Marked) → children_from t (depth l p) (drop i l) ≡ cs → Tallying parent (kinds_of (children t l p)) (kinds_of cs) c
    as_rest cs e = rw (← e) v.tallying

    pub passing_end : length l ≤ i → Counted parent (kinds_of (children t l p)) c
    passing_end h = tallying_done (as_rest [] (child_end t l (depth l p) i h))

    module _ (h : i < length l) where
      pub passing_out : depth l i ≤ depth l p → Counted parent (kinds_of (children t l p)) c
      passing_out k = tallying_done (as_rest [] (child_left t l (depth l p) i h k))

      pub passing_deeper : depth l p + 1 < depth l i → Passing t l p parent (i + 1) c
      passing_deeper k = record { tallying = as_rest _ (child_passed t l (depth l p) i h (omega arith)) }

      module _ (k : depth l i ≡ depth l p + 1) where
        pub passing_deleted : (item l i).deleter ≡ t → Passing t l p parent (i + 1) c
        passing_deleted d = record {
          tallying = as_rest _ (child_deleted t l (depth l p) i h (omega arith)
              (rw (eq-eqb (item l i).deleter t d)));
        }

        pub passing_child : ((item l i).deleter ≡ t → ⊥) → (x : ℕ) → x ≡ (item l i).now.kind
            → Passing t l p parent (i + 1) (counted parent x c)
        passing_child d x e =
            let found = child_found t l (depth l p) i h (omega arith) (rw (ne_eqb (item l i).deleter t d)) in
            record { tallying = rw e (tallying_turn (item l i).now.kind _ (as_rest _ found)) }

-- the place, from what was counted
pub placed_counted : {parent : ℕ} {kinds : List ℕ} {c : Tally} (kind k : ℕ) → Counted parent kinds c
    → placed_by parent kind k c.count c.attributes c.ordered c.allowed ≡ placed parent kind k kinds
placed_counted {parent} {kinds} {c} kind k v = sym (placed_pass parent kind k kinds ∙ rw (v.count, v.attributes, v.ordered, v.allowed))

pub counted_count : (parent kind : ℕ) (c r : Tally) → r ≡ counted parent kind c → r.count ≡ c.count + 1
unfolding counted
counted_count parent kind c r e = rw e
