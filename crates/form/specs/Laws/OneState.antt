-- Bytes hold one state at most.
use Rattle.std.specs.Prelude.{◌≡◌, ℕ, suc, get_or}
use Rattle.std.proofs.Math.Path.{refl, sym, ap}
use Rattle.std.proofs.Common.{ap₂, ◌∙◌, arith}
use mathlib.Core.List.{List, [], ◌∷◌, ◌++◌, append-nil}
use Rattle.std.proofs.Math.ListN.{length}
use Rattle.tree.specs.Forest.{Forest, nil, node}
use Rattle.protocol.specs.State.{Header, Tree, State}
use Rattle.table.specs.Flat.{flat}
use Rattle.rows.specs.Places.{below}
use Rattle.rows.proofs.Laws.NodeAt.{below_flat, below_none}
use Rattle.form.specs.Form.{Holds}

module _ {A : Type 0} where
  rest : List A → List A
  rest [] = []
  rest (x ∷ l) = l

  same_behind : (l a b : List A) → l ++ a ≡ l ++ b → a ≡ b
  unfolding rest
  same_behind [] a b e = e
  same_behind (x ∷ l) a b e = same_behind l a b (ap rest e)

module _ {A : Type 0} where
  -- the rows below the first are those of its children
  below_first : (d : ℕ) (ks fs : Forest A) → below d (flat (suc d) ks ++ flat d fs) ≡ flat (suc d) ks
  unfolding below
  below_first d ks fs =
      below_flat d (suc d) ks (flat d fs) (omega arith)
      ∙ ap (λ (r : List (ℕ × A)). flat (suc d) ks ++ r) (ap (below d) (sym (append-nil (flat d fs))) ∙ below_none d d fs []
      (omega arith) refl)
      ∙ append-nil (flat (suc d) ks)

  -- rows are those of one forest
  pub flat_one : (d : ℕ) (f g : Forest A) → flat d f ≡ flat d g → f ≡ g
  unfolding flat rest
  flat_one d nil nil e = refl
  flat_one d nil (node b js gs) e = absurd (omega (arith, ap length e))
  flat_one d (node a ks fs) nil e = absurd (omega (arith, ap length e))
  flat_one d (node a ks fs) (node b js gs) e =
      let first : a ≡ b = ap (λ (l : List (ℕ × A)). (get_or l 0 (d, a)).1) e in
      let others : flat (suc d) ks ++ flat d fs ≡ flat (suc d) js ++ flat d gs = ap rest e in
      let inner : flat (suc d) ks ≡ flat (suc d) js = sym (below_first d ks fs) ∙ ap (below d) others ∙ below_first d js gs in
      let later : flat d fs ≡ flat d gs =
      same_behind (flat (suc d) ks) (flat d fs) (flat d gs) (others ∙ ap (λ (l : List (ℕ × A)). l ++ flat d gs) (sym inner)) in
      rw (first, flat_one (suc d) ks js inner, flat_one d fs gs later)

pub holds_one : {s : List ℕ} (M N : State) → Holds s M → Holds s N → M ≡ N
holds_one M N h k =
    ap₂ (λ (h : Header) (f : Tree). record { header = h; tree = f }) (sym h.header ∙ k.header)
    (flat_one 0 M.tree N.tree (sym h.rows ∙ k.rows))
