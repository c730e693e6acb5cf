-- A view of a forest is one pass over its rows.
use Rattle.std.specs.Prelude.{◌≡◌, Bool, true, false, cond, ◌&&◌, leb, ltb}
use Rattle.std.proofs.Math.Path.{refl, sym}
use Rattle.std.proofs.Common.{ap, ◌∙◌, true≢false, arith, lt-ltb, le-leb, leb-true, leb-false, ltb-true}
use Prim.Native.Nat.{ℕ, zero, suc, ◌≤◌, ◌<◌}
use Rattle.std.proofs.Math.Bool.{and-false}
use mathlib.Core.List.{List, [], ◌∷◌, ◌++◌, map, append_assoc, append-nil}
use Rattle.std.proofs.lemmas.Bool.{lt-leb}
use Rattle.tree.specs.Forest.{Forest, nil, node, view}
use Rattle.tree.specs.Laws.Tests.{and_left, and_right}
use Rattle.table.specs.Flat.{flat, second, left_out, prune}

-- a limit leaves out from its own depth on, 0 nothing
pub left_out_high : (below d : ℕ) → d < below → left_out below d ≡ false
left_out_high below d h = rw (lt-leb below d h) (and-false (ltb 0 below))

pub left_out_low : (below d : ℕ) → 0 < below → below ≤ d → left_out below d ≡ true
left_out_low below d h k = rw (lt-ltb 0 below h, le-leb below d k)

pub left_out_up : (below d : ℕ) → left_out below (suc d) ≡ false → left_out below d ≡ false
left_out_up zero d h = refl
left_out_up (suc below) d h = go (leb (suc below) d) refl
  where
    go : (b : Bool) → leb (suc below) d ≡ b → (ltb 0 (suc below) && b) ≡ false
    go true e = absurd (true≢false (sym (left_out_low (suc below) (suc d) (omega arith) (omega (arith, leb-true (suc below) d e))) ∙ h))
    go false e = and-false (ltb 0 (suc below))

pub open_left_out : (below d : ℕ) → left_out below d ≡ false → 0 < below → d < below
open_left_out below d h k = go (leb below d) refl
  where
    go : (b : Bool) → leb below d ≡ b → d < below
    go true e = absurd (true≢false (sym (left_out_low below d k (leb-true below d e)) ∙ h))
    go false e = leb-false below d e

pub left_out_parts : (below d : ℕ) → left_out below d ≡ true → (0 < below) × (below ≤ d)
left_out_parts below d h = (ltb-true 0 below (and_left _ _ h), leb-true below d (and_right (ltb 0 below) _ h))

module _ {A : Type 0} (shown : A → Bool) where
  -- what is left out goes whole
  pub prune_skip : (below d : ℕ) (f : Forest A) (t : List (ℕ × A)) → 0 < below → below ≤ d
      → prune shown below (flat d f ++ t) ≡ prune shown below t
  unfolding flat prune
  prune_skip below d nil t h k = refl
  prune_skip below d (node a ks fs) t h k =
      rw (
        left_out_low below d h k,
        append_assoc (flat (suc d) ks) (flat d fs) t,
        prune_skip below (suc d) ks (flat d fs ++ t) h (omega arith),
        prune_skip below d fs t h k,
      )

  module _ {B : Type 0} (g : A → B) where
    -- a pass over the rows of a forest and those behind it
    view_then : (below d : ℕ) (f : Forest A) (t : List (ℕ × A)) → left_out below d ≡ false
        → (m : ℕ) × (left_out m d ≡ false) × (map (second g) (prune shown below (flat d f ++ t)) ≡ flat d (view shown g f) ++ map (second g)
        (prune shown m t))
    unfolding flat prune view
    view_then below d nil t h = (below, h, refl)
    view_then below d (node a ks fs) t h =
        rw (h, append_assoc (flat (suc d) ks) (flat d fs) t) (go (shown a) (view_then 0 (suc d) ks (flat d fs ++ t) refl)
        (λ m q. view_then m d fs t q))
      where
        Then : ℕ → ℕ → Forest A → List (ℕ × A) → List (ℕ × A) → Type 0
        Then below d f u t =
            (m : ℕ) × (left_out m d ≡ false) × (map (second g) (prune shown below u) ≡ flat d (view shown g f) ++ map (second g)
            (prune shown m t))

        go : (b : Bool) → Then 0 (suc d) ks (flat (suc d) ks ++ (flat d fs ++ t)) (flat d fs ++ t)
            → ((m : ℕ) → left_out m d ≡ false → Then m d fs (flat d fs ++ t) t)
            → (m : ℕ) × (left_out m d ≡ false)
            × (map (second g)
            (cond b ((d, a) ∷ prune shown 0 (flat (suc d) ks ++ (flat d fs ++ t)))
            (prune shown (suc d) (flat (suc d) ks ++ (flat d fs ++ t))))
            ≡ flat d (cond b (node (g a) (view shown g ks) (view shown g fs)) (view shown g fs)) ++ map (second g) (prune shown m t))
        go true u v =
            let w = v u.0 (left_out_up u.0 d u.1) in (
              w.0,
              w.1,
              rw (
                u.2,
                w.2,
                append_assoc (flat (suc d) (view shown g ks)) (flat d (view shown g fs)) (map (second g) (prune shown w.0 t)),
              ),
            )
        go false u v =
            let w = v (suc d) (left_out_high (suc d) d (omega arith)) in
            (w.0, w.1, rw (prune_skip (suc d) (suc d) ks (flat d fs ++ t) (omega arith) (omega arith)) w.2)

    -- THE LAW: the rows of a view
    pub flat_view : (d : ℕ) (f : Forest A) → flat d (view shown g f) ≡ map (second g) (prune shown 0 (flat d f))
    unfolding prune
    flat_view d f =
        let u = view_then 0 d f [] refl in
        sym (ap (λ l. map (second g) (prune shown 0 l)) (sym (append-nil (flat d f))) ∙ u.2 ∙ append-nil (flat d (view shown g f)))
