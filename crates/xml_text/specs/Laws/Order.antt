-- Trees whose children are in order, by the kinds of their nodes.
use Rattle.std.specs.Prelude.{◌≡◌, refl, ℕ, zero, suc, Bool, true, false, not, ◌&&◌, ◌||◌, List, eqb, leb}
use Rattle.std.proofs.Common.{sym, ◌∙◌, arith, leb-true, eqb-true}
use Rattle.std.proofs.Math.Bool.{and-false}
use Rattle.std.proofs.lemmas.Bool.{false≢true}
use Rattle.tree.specs.Forest.{nil, node}
use Rattle.tree.specs.Content.{document_kind, element_kind, attribute_kind, text_kind, between, takes}
use Rattle.tree.specs.Laws.Tests.{and_left, and_right}
use Rattle.xml.specs.Shape.{Label, Shape, element, attribute, text}
use Rattle.xml.specs.Writing.{begins_with_text, neighbouring_texts}
use Rattle.xml_text.specs.Rows.{in_start_tag, may_stand, in_order, fits}
use Rattle.xml_text.specs.Laws.Trees.{tree_spots, all_fit, all_fit_append}

-- neighbouring texts, the first of them perhaps the sibling before
unfoldable pub texts_behind : ℕ → Shape → Bool
texts_behind last f = (eqb last text_kind && begins_with_text f) || neighbouring_texts f

regroup : (a t o₁ n₁ o₂ m n₂ : Bool)
    → ((a && not t) && ((o₁ && not n₁) && (o₂ && not (m || n₂)))) ≡ ((a && (o₁ && o₂)) && not (t || ((m || n₁) || n₂)))
regroup false t o₁ n₁ o₂ m n₂ = refl
regroup true true o₁ n₁ o₂ m n₂ = sym (and-false (o₁ && o₂))
regroup true false false n₁ o₂ m n₂ = refl
regroup true false true true o₂ true n₂ = sym (and-false o₂)
regroup true false true true o₂ false n₂ = sym (and-false o₂)
regroup true false true false o₂ true n₂ = refl
regroup true false true false o₂ false n₂ = refl

-- THE LAW: the nodes fit where the children are in order and no texts are neighbours
pub fits_tree : (parent : Label) (last : ℕ) (f : Shape)
    → all_fit (tree_spots parent last f) ≡ (in_order parent.kind last f && not (texts_behind last f))
unfolding tree_spots all_fit in_order texts_behind neighbouring_texts fits
fits_tree parent last nil = go (eqb last text_kind)
  where
    go : (b : Bool) → true ≡ (true && not ((b && false) || false))
    go true = refl
    go false = refl
fits_tree parent last (node a ks fs) =
    rw (all_fit_append (tree_spots a 0 ks) (tree_spots parent a.kind fs), fits_tree a 0 ks, fits_tree parent a.kind fs)
    (regroup (may_stand parent.kind last a.kind) (eqb last text_kind && eqb a.kind text_kind) (in_order a.kind 0 ks)
    (neighbouring_texts ks)
    (in_order parent.kind a.kind fs) (eqb a.kind text_kind && begins_with_text fs) (neighbouring_texts fs))

-- the children of an element; true: attributes may come
pub data Children : Bool → Shape → Type 0 where
  no_children : {b : Bool} → Children b nil
  bare_attribute : (a : List ℕ) {f : Shape} → Children true f → Children true (node (attribute a) nil f)
  valued_attribute : (a c : List ℕ) {f : Shape} → Children true f → Children true (node (attribute a) (node (text c) nil nil) f)
  child_element : {b : Bool} (n : List ℕ) {g f : Shape} → Children true g → Children false f → Children b (node (element n) g f)
  child_text : {b : Bool} (c : List ℕ) {f : Shape} → Children false f → Children b (node (text c) nil f)

-- the children of an attribute, and of the document
data Value : Shape → Type 0 where
  no_value : Value nil
  text_value : (c : List ℕ) → Value (node (text c) nil nil)

pub data Root : Shape → Type 0 where
  no_root : Root nil
  root : (n : List ℕ) {g : Shape} → Children true g → Root (node (element n) g nil)

data Kinded : Label → Type 0 where
  kind_element : (n : List ℕ) → Kinded (element n)
  kind_attribute : (n : List ℕ) → Kinded (attribute n)
  kind_text : (c : List ℕ) → Kinded (text c)

kinded : (k : ℕ) (c : List ℕ) → between element_kind text_kind k ≡ true → Kinded (record { kind = k; content = c })
kinded zero c h = absurd (false≢true h)
kinded (suc zero) c h = absurd (false≢true h)
kinded (suc (suc zero)) c h = kind_element c
kinded (suc (suc (suc zero))) c h = kind_attribute c
kinded (suc (suc (suc (suc zero)))) c h = kind_text c
kinded (suc (suc (suc (suc (suc k))))) c h =
    absurd (omega (arith, leb-true (suc (suc (suc (suc (suc k))))) 4 (and_right (leb 2 (suc (suc (suc (suc (suc k)))))) _ h)))

-- the parts of an ordered tree
module _ (parent last : ℕ) (a : Label) (ks fs : Shape) (h : in_order parent last (node a ks fs) ≡ true) where
  stands : may_stand parent last a.kind ≡ true
  unfolding in_order
  stands = and_left (may_stand parent last a.kind) _ h

  taken : takes parent a.kind ≡ true
  unfolding may_stand
  taken = and_left (takes parent a.kind) _ stands

  inside : in_order a.kind 0 ks ≡ true
  unfolding in_order
  inside = and_left (in_order a.kind 0 ks) _ (and_right (may_stand parent last a.kind) _ h)

  behind : in_order parent a.kind fs ≡ true
  unfolding in_order
  behind = and_right (in_order a.kind 0 ks) _ (and_right (may_stand parent last a.kind) _ h)

-- a text has no children
text_alone : (f : Shape) → in_order text_kind 0 f ≡ true → f ≡ nil
unfolding takes
text_alone nil h = refl
text_alone (node a ks fs) h = absurd (false≢true (taken text_kind 0 a ks fs h))

-- nothing stands behind the one child of the document or of an attribute
no_second : (parent last : ℕ) (f : Shape) → eqb parent element_kind ≡ false → eqb last 0 ≡ false → in_order parent last f ≡ true → f ≡ nil
unfolding may_stand
no_second parent last nil p q h = refl
no_second parent last (node a ks fs) p q h =
    absurd (false≢true (sym (and-false (takes parent a.kind)) ∙ (rw (p, q) at (stands parent last a ks fs h))))

value_of : (f : Shape) → in_order attribute_kind 0 f ≡ true → Value f
unfolding takes
value_of nil h = no_value
value_of (node a ks fs) h =
    go a.kind (eqb-true a.kind text_kind (taken attribute_kind 0 a ks fs h)) (inside attribute_kind 0 a ks fs h)
    (behind attribute_kind 0 a ks fs h)
  where
    go : (k : ℕ) → k ≡ text_kind → in_order k 0 ks ≡ true → in_order attribute_kind k fs ≡ true
        → Value (node (record { kind = k; content = a.content }) ks fs)
    go k e i b =
        rw e (rw (text_alone ks (rw e at i), no_second attribute_kind text_kind fs refl refl (rw e at b)) (text_value a.content))

pub children_of : (last : ℕ) (f : Shape) → in_order element_kind last f ≡ true → Children (in_start_tag last) f
unfolding may_stand takes
children_of last nil h = no_children
children_of last (node a ks fs) h =
    go a (kinded a.kind a.content (taken_element a h)) (stands element_kind last a ks fs h) (inside element_kind last a ks fs h)
    (λ i. children_of 0 ks i) (behind element_kind last a ks fs h) (λ i. children_of a.kind fs i)
  where
    taken_element : (a : Label) → in_order element_kind last (node a ks fs) ≡ true → between element_kind text_kind a.kind ≡ true
    taken_element a h = taken element_kind last a ks fs h

    attribute_case : (n : List ℕ) (vs : Shape) → may_stand element_kind last attribute_kind ≡ true → Value vs → Children true fs
        → Children (in_start_tag last) (node (attribute n) vs fs)
    attribute_case n vs s no_value r = rw s (bare_attribute n r)
    attribute_case n vs s (text_value c) r = rw s (valued_attribute n c r)

    go : (a : Label) → Kinded a → may_stand element_kind last a.kind ≡ true → in_order a.kind 0 ks ≡ true
        → (in_order element_kind 0 ks ≡ true → Children true ks)
        → in_order element_kind a.kind fs ≡ true → (in_order element_kind a.kind fs ≡ true → Children (in_start_tag a.kind) fs)
        → Children (in_start_tag last) (node a ks fs)
    go a (kind_element n) s i u b v = child_element n (u i) (v b)
    go a (kind_attribute n) s i u b v = attribute_case n ks s (value_of ks i) (v b)
    go a (kind_text c) s i u b v = rw (text_alone ks i) (child_text c (v b))

pub root_of : (f : Shape) → in_order document_kind 0 f ≡ true → Root f
unfolding takes
root_of nil h = no_root
root_of (node a ks fs) h =
    go a.kind (eqb-true a.kind element_kind (taken document_kind 0 a ks fs h)) (inside document_kind 0 a ks fs h)
    (behind document_kind 0 a ks fs h)
  where
    go : (k : ℕ) → k ≡ element_kind → in_order k 0 ks ≡ true → in_order document_kind k fs ≡ true
        → Root (node (record { kind = k; content = a.content }) ks fs)
    go k e i b =
        rw e (rw (no_second document_kind element_kind fs refl refl (rw e at b)) (root a.content (children_of 0 ks (rw e at i))))
