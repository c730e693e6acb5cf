-- The attributes of an element stand behind its start tag: the names before one of them are those of the start tag opened last.
use Rattle.std.specs.Prelude.{◌≡◌, Bool, cond, ◌&&◌, length, set, ◌⊎◌}
use Rattle.std.proofs.Math.Path.{refl, sym}
use Rattle.std.proofs.Common.{subst, ap, ◌∙◌, arith, get_or-set_same, get_or-set_other, inl, inr}
use Prim.Native.Nat.{ℕ, suc, ◌-◌, ◌≤◌, ◌<◌}
use Rattle.std.proofs.Math.Bool.{true, false, and-false}
use Rattle.std.proofs.lemmas.Bool.{false≢true}
use mathlib.Core.List.{List, [], ◌∷◌}
use Rattle.std.proofs.Math.ListN.{get_or}
use Rattle.std.proofs.Math.Dec.{eqb}
use borrow.Author.Tests.{eqb-true, eqb-false, eq-eqb, ne_eqb, lt-ltb, le-ltb}
use Rattle.tree.specs.Content.{takes, element_kind, attribute_kind, text_kind}
use Rattle.tree.specs.Laws.Tests.{and_left, and_right, or_cases}
use Rattle.xml.specs.Shape.{Label}
use Rattle.xml_text.specs.Rows.{Line, in_start_tag, may_stand, fits, names_before}
use Rattle.xml_measure.specs.Walk.{previous_kind}
use Rattle.xml_measure.specs.Names.{tag_names}
use Rattle.xml_measure.specs.Laws.Walk.{later_child}

-- what a kind takes ---------------------------------------------------------------------------------

takes_text : (q : ℕ) → takes text_kind q ≡ true → ⊥
unfolding takes
takes_text q h = false≢true h

takes_none : (p : ℕ) → takes p 0 ≡ true → ⊥
unfolding takes
takes_none p h = go (eqb p 1) (eqb p 2) (eqb p 3) h
  where
    go : (x y z : Bool) → cond x false (cond y false (z && false)) ≡ true → ⊥
    go true y z h = false≢true h
    go false true z h = false≢true h
    go false false z h = false≢true (sym (and-false z) ∙ h)

-- an attribute takes texts alone, and what is no node nothing
takes_only : (p q : ℕ) → in_start_tag p ≡ true → takes p q ≡ true → q ≡ text_kind
unfolding takes
takes_only p q h t = go (or_cases (eqb p 0) (eqb p attribute_kind) h)
  where
    go : (eqb p 0 ≡ true) ⊎ (eqb p attribute_kind ≡ true) → q ≡ text_kind
    go (inl e) = absurd (false≢true (rw (eqb-true p 0 e) at t))
    go (inr e) = eqb-true q text_kind (rw (eqb-true p attribute_kind e) at t)

-- attributes stand below an element
takes_attribute : (p : ℕ) → takes p attribute_kind ≡ true → p ≡ element_kind
unfolding takes
takes_attribute p h = go (eqb p 1) (eqb p 2) refl (eqb p 3) h
  where
    go : (x y : Bool) → eqb p 2 ≡ y → (z : Bool) → cond x false (cond y true (z && false)) ≡ true → p ≡ element_kind
    go true y e z h = absurd (false≢true h)
    go false true e z h = eqb-true p 2 e
    go false false e z h = absurd (false≢true (sym (and-false z) ∙ h))

module _ (p k q : ℕ) (f : fits p k q ≡ true) where
  fits_takes : takes p q ≡ true
  unfolding fits may_stand
  fits_takes = and_left (takes p q) _ (and_left (may_stand p k q) _ f)

  fits_first : p ≡ element_kind → q ≡ attribute_kind → in_start_tag k ≡ true
  unfolding fits may_stand
  fits_first e g = rw (e, g) at (and_right (takes p q) _ (and_left (may_stand p k q) _ f))

-- the open nodes ------------------------------------------------------------------------------------

-- each is taken by the one above it; below an element that has attributes alone, the names before a node are those of its start tag
pub record Tagged (kinds : List ℕ) (top : ℕ) (pre : List Line) : Type 0 where
  pub chain : (j : ℕ) → j < top → takes (get_or kinds j 0) (get_or kinds (suc j) 0) ≡ true
  pub names : (e : ℕ) → e ≤ top → get_or kinds e 0 ≡ element_kind → in_start_tag (previous_kind kinds top (suc e)) ≡ true
      → names_before (suc e) pre ≡ tag_names pre

pub tagged_start : (kinds : List ℕ) (a : Label) → Tagged kinds 0 ((0, a) ∷ [])
unfolding names_before tag_names
tagged_start kinds a = record {
  chain = λ j l. absurd (omega arith);
  names = λ e l k i. rw (lt-ltb 0 (suc e) (omega arith));
}

module _ {kinds : List ℕ} {top : ℕ} {pre : List Line} (t : Tagged kinds top pre) {d : ℕ} (low : 1 ≤ d) (deep : d ≤ suc top)
    (a : Label) (f : fits (get_or kinds (d - 1) 0) (previous_kind kinds top d) a.kind ≡ true) where
  taken : takes (get_or kinds (d - 1) 0) a.kind ≡ true
  taken = fits_takes (get_or kinds (d - 1) 0) (previous_kind kinds top d) a.kind f

  -- the names before an attribute
  pub tagged_names : a.kind ≡ attribute_kind → names_before d pre ≡ tag_names pre
  tagged_names e =
      let z : suc (d - 1) ≡ d = omega arith in
      let p : get_or kinds (d - 1) 0 ≡ element_kind = takes_attribute (get_or kinds (d - 1) 0) (rw e at taken) in
      rw z at (t.names (d - 1) (omega arith) p (rw z (fits_first (get_or kinds (d - 1) 0) (previous_kind kinds top d) a.kind f p e)))

  not_first : eqb d 0 ≡ false
  not_first = ne_eqb d 0 (λ r. omega arith)

  module _ (room : d < length kinds) where
    abbrev kinds' : List ℕ
    kinds' = set kinds d a.kind

    other : (j : ℕ) → (j ≡ d → ⊥) → get_or kinds' j 0 ≡ get_or kinds j 0
    other j h = get_or-set_other kinds d j a.kind 0 h

    own : get_or kinds' d 0 ≡ a.kind
    own = get_or-set_same kinds d a.kind 0 room

    chain' : (j : ℕ) → j < d → takes (get_or kinds' j 0) (get_or kinds' (suc j) 0) ≡ true
    chain' j h = go (eqb (suc j) d) refl
      where
        go : (x : Bool) → eqb (suc j) d ≡ x → takes (get_or kinds' j 0) (get_or kinds' (suc j) 0) ≡ true
        go true e =
            let z : suc j ≡ d = eqb-true (suc j) d e in
            let y : d - 1 ≡ j = omega arith in
            rw (other j (λ w. omega arith), z, own) (rw y at taken)
        go false e =
            let z : suc j ≡ d → ⊥ = eqb-false (suc j) d e in
            rw (other j (λ w. omega arith), other (suc j) z) (t.chain j (omega (arith, z)))

    -- a node that is open behind a start tag, above the new one: the new one is its text
    leaf : (j : ℕ) → j < d → in_start_tag (get_or kinds' j 0) ≡ true → a.kind ≡ text_kind
    leaf j h i = go (eqb (suc j) d) refl
      where
        text : get_or kinds' (suc j) 0 ≡ text_kind
        text = takes_only (get_or kinds' j 0) (get_or kinds' (suc j) 0) i (chain' j h)

        go : (x : Bool) → eqb (suc j) d ≡ x → a.kind ≡ text_kind
        go true e = sym own ∙ (rw (eqb-true (suc j) d e) at text)
        go false e = absurd (takes_text (get_or kinds' (suc (suc j)) 0) (rw text at (chain' (suc j) (omega (arith, eqb-false (suc j) d e)))))

    pub tagged_on : Tagged kinds' d ((d, a) ∷ pre)
    unfolding names_before tag_names
    tagged_on = record { chain = chain'; names = λ e l k i. side e l k i (eqb e d) refl (eqb (suc e) d) refl }
      where
        -- the first child of the new node, its next sibling, or the next sibling of a node above it
        side : (e : ℕ) → e ≤ d → get_or kinds' e 0 ≡ element_kind → in_start_tag (previous_kind kinds' d (suc e)) ≡ true
            → (x : Bool) → eqb e d ≡ x → (y : Bool) → eqb (suc e) d ≡ y → names_before (suc e) ((d, a) ∷ pre) ≡ tag_names ((d, a) ∷ pre)
        side e l k i true ex y ey =
            let z : e ≡ d = eqb-true e d ex in
            let q : a.kind ≡ element_kind = sym own ∙ (rw z at k) in
            rw (lt-ltb d (suc e) (omega arith), not_first, q)
        side e l k i false ex true ey =
            let z : suc e ≡ d = eqb-true (suc e) d ey in
            let v : in_start_tag a.kind ≡ true = rw (z, ← later_child kinds' d d (omega arith), own) at i in
            next e z v (or_cases (eqb a.kind 0) (eqb a.kind attribute_kind) v)
          where
            next : (e : ℕ) → suc e ≡ d → in_start_tag a.kind ≡ true → (eqb a.kind 0 ≡ true) ⊎ (eqb a.kind attribute_kind ≡ true)
                → names_before (suc e) ((d, a) ∷ pre) ≡ tag_names ((d, a) ∷ pre)
            next e z v (inl n) = absurd (takes_none (get_or kinds (d - 1) 0) (rw (eqb-true a.kind 0 n) at taken))
            next e z v (inr n) =
                rw (z, le-ltb d d (omega arith), eq-eqb d d refl, not_first, n)
                (ap (λ (ns : List (List ℕ)). a.content ∷ ns) (subst (λ (v : ℕ). names_before v pre ≡ tag_names pre) (sym z)
                (tagged_names (eqb-true a.kind attribute_kind n))))
        side e l k i false ex false ey =
            let y : e ≡ d → ⊥ = eqb-false e d ex in
            let z : suc e ≡ d → ⊥ = eqb-false (suc e) d ey in
            let h : suc e < d = omega (arith, y, z) in
            let v : in_start_tag (get_or kinds' (suc e) 0) ≡ true = rw (← later_child kinds' d (suc e) (omega arith)) at i in
            let w : in_start_tag (previous_kind kinds top (suc e)) ≡ true =
            rw (← later_child kinds top (suc e) (omega arith), ← other (suc e) z) v in
            let q : a.kind ≡ text_kind = leaf (suc e) h v in
            rw (le-ltb d (suc e) (omega arith), ne_eqb d (suc e) (λ r. omega arith), not_first, q)
            (t.names e (omega arith) (sym (other e y) ∙ k) w)
