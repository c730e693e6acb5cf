-- A change of each node alone, and a change of the node with a number.
use Rattle.std.specs.Prelude.{◌≡◌, Bool, true, false, cond, length, get_or}
use Rattle.std.proofs.Math.Path.{refl, ap}
use Rattle.std.proofs.Common.{sym, ◌∙◌}
use Prim.Native.Nat.{ℕ, zero, suc, ◌<◌}
use mathlib.Core.List.{List, [], ◌∷◌, map}
use Rattle.std.proofs.Math.ListN.{get_or-map}
use Rattle.tree.specs.Forest.{Forest, nil, node, amend}
use Rattle.tree.specs.Laws.Lists.{map_append, map_same}
use Rattle.protocol.specs.State.{Marked, Tree, has_number, mark_node}
use Rattle.table.specs.Lists.{modify}
use Rattle.table.specs.Flat.{flat, second}
use Rattle.table.specs.Layout.{Entry, no_entry}
use Rattle.rows.specs.Places.{unique}
use Rattle.rows.specs.Rows.{row_number, row_numbers, number_at}
use Rattle.rows.proofs.Laws.Unique.{by_number, by_number_one}

-- a change of each node that looks at the node alone
pub flat_amend : {A K : Type 0} (key : A → K) (g : A → A) (p : List K) (d : ℕ) (f : Forest A)
    → flat d (amend key (λ r. g r.it) p f) ≡ map (second g) (flat d f)
unfolding flat amend
flat_amend key g p d nil = refl
flat_amend key g p d (node a ks fs) =
    rw (flat_amend key g (key a ∷ p) (suc d) ks, flat_amend key g p d fs, map_append (second g) (flat (suc d) ks) (flat d fs))

-- a change that keeps the numbers
module _ (g : Marked → Marked) (same : (a : Marked) → (g a).now.number ≡ a.now.number) where
  pub numbers_modify : (i : ℕ) (l : List Entry) → row_numbers (modify i (second g) l) ≡ row_numbers l
  unfolding modify
  numbers_modify i [] = refl
  numbers_modify zero (x ∷ l) = rw (same x.1)
  numbers_modify (suc i) (x ∷ l) = ap (λ k. row_number x ∷ k) (numbers_modify i l)

pub number_same : (l k : List Entry) (i : ℕ) → row_numbers l ≡ row_numbers k → number_at l i ≡ number_at k i
number_same l k i e =
    sym (get_or-map row_number l i no_entry) ∙ ap (λ (ns : List ℕ). get_or ns i (row_number no_entry)) e
    ∙ get_or-map row_number k i no_entry

-- a change of the node numbered n: U with what it writes, D with its mark
pub mark_node_rows : (n : ℕ) (g : Marked → Marked) (f : Tree) (p : ℕ) → unique (flat 0 f) ≡ true → p < length (flat 0 f)
    → number_at (flat 0 f) p ≡ n
    → flat 0 (mark_node n g f) ≡ modify p (second g) (flat 0 f)
mark_node_rows n g f p u h e =
    flat_amend (λ a. a) (λ a. cond (has_number n a) (g a) a) [] 0 f
    ∙ map_same (second (λ a. cond (has_number n a) (g a) a)) (by_number (second g) n) (flat 0 f) (λ x m. inside (has_number n x.1) x)
    ∙ by_number_one (second g) n (flat 0 f) p u h e
  where
    inside : (b : Bool) (x : Entry) → second (λ a. cond b (g a) a) x ≡ cond b (second g x) x
    inside true x = refl
    inside false x = refl
