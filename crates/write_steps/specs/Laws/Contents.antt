-- What is allowed as a content is short, and its kind small.
use Rattle.std.specs.Prelude.{◌≡◌, refl, ℕ, ◌≤◌, Bool, true, false, cond, ◌&&◌, ◌||◌, List, length, eqb, leb}
use Rattle.std.proofs.Common.{arith, leb-true, eqb-true}
use Rattle.tree.specs.Content.{document_kind, element_kind, attribute_kind, text_kind, spells_name, spells_text, is_name, is_text, allowed}
use Rattle.tree.specs.Laws.Tests.{and_left, and_right}

pub name_short : (b : List ℕ) → is_name b ≡ true → length b ≤ 32
unfolding is_name
name_short b h = leb-true (length b) 32 (and_left (leb (length b) 32) (spells_name b) h)

text_short : (b : List ℕ) → is_text b ≡ true → length b ≤ 32
unfolding is_text
text_short b h = leb-true (length b) 32 (and_left (leb (length b) 32) (spells_text b) h)

pub allowed_short : (kind : ℕ) (b : List ℕ) → allowed kind b ≡ true → length b ≤ 32
unfolding allowed
allowed_short kind b h = go (eqb kind document_kind) (eqb kind element_kind || eqb kind attribute_kind) h
  where
    go : (x y : Bool) → cond x (eqb (length b) 0) (cond y (is_name b) (eqb kind text_kind && is_text b)) ≡ true → length b ≤ 32
    go true y h = omega (arith, eqb-true (length b) 0 h)
    go false true h = name_short b h
    go false false h = text_short b (and_right (eqb kind text_kind) (is_text b) h)

pub kind_small : (kind : ℕ) (b : List ℕ) → allowed kind b ≡ true → kind ≤ 4
unfolding allowed
kind_small kind b h = go (eqb kind 1) refl (eqb kind 2) refl (eqb kind 3) refl h
  where
    go : (x : Bool) → eqb kind 1 ≡ x → (y : Bool) → eqb kind 2 ≡ y → (z : Bool) → eqb kind 3 ≡ z
        → cond x (eqb (length b) 0) (cond (y || z) (is_name b) (eqb kind 4 && is_text b)) ≡ true → kind ≤ 4
    go true e y f z g h = omega (arith, eqb-true kind 1 e)
    go false e true f z g h = omega (arith, eqb-true kind 2 f)
    go false e false f true g h = omega (arith, eqb-true kind 3 g)
    go false e false f false g h = omega (arith, eqb-true kind 4 (and_left (eqb kind 4) (is_text b) h))
