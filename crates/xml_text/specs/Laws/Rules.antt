-- The children rule of the tree is the rule that a pass asks child by child.
use Rattle.std.specs.Prelude.{◌≡◌, refl, ℕ, suc, Bool, true, false, cond, not, ◌&&◌, ◌||◌, List, [], ◌∷◌, length, eqb, leb}
use Rattle.std.proofs.Common.{sym, ap, arith, eqb-true, ne_eqb, le-leb}
use Rattle.std.proofs.Math.Bool.{and-true}
use Rattle.std.proofs.lemmas.Bool.{false≢true, eqb-false, lt-leb}
use Rattle.tree.specs.Lists.{every}
use Rattle.tree.specs.Forest.{nil, node, view}
use Rattle.tree.specs.Content.{document_kind, element_kind, attribute_kind, takes, allowed, attributes_first, children_rule}
use Rattle.tree.specs.Document.{Document, top_kinds, ruled, ordered, rooted, legal}
use Rattle.tree.specs.Laws.Tests.{and_left, and_right}
use Rattle.xml.specs.Shape.{Shape, shape}
use Rattle.xml.specs.Writing.{below}
use Rattle.xml_text.specs.Rows.{in_start_tag, may_stand, in_order}

-- no attribute among these kinds
abbrev plain : List ℕ → Bool
plain kinds = every (λ x. not (eqb x attribute_kind)) kinds

-- the children rule for kinds behind a sibling of kind `previous`; behind none it is the children rule
unfoldable rule_behind : ℕ → ℕ → List ℕ → Bool
rule_behind parent previous kinds =
    every (takes parent) kinds
    && cond (eqb parent element_kind) (cond (in_start_tag previous) (attributes_first kinds) (plain kinds))
    (cond (eqb previous 0) (leb (length kinds) 1) (eqb (length kinds) 0))

rule_first : (kind : ℕ) (kinds : List ℕ) → rule_behind kind 0 kinds ≡ children_rule kind kinds
unfolding rule_behind children_rule
rule_first kind kinds = refl

rule_none : (parent previous : ℕ) → rule_behind parent previous [] ≡ true
unfolding rule_behind attributes_first
rule_none parent previous = go (eqb parent element_kind) (in_start_tag previous) (eqb previous 0)
  where
    go : (p g z : Bool) → cond p (cond g true true) (cond z true true) ≡ true
    go true true z = refl
    go true false z = refl
    go false g true = refl
    go false g false = refl

-- no node takes a child of kind 0
none_takes_0 : (parent : ℕ) → takes parent 0 ≡ false
unfolding takes
none_takes_0 parent = go (eqb parent document_kind) (eqb parent element_kind) (eqb parent attribute_kind)
  where
    go : (p q r : Bool) → cond p false (cond q false (r && false)) ≡ false
    go true q r = refl
    go false true r = refl
    go false false true = refl
    go false false false = refl

one_at_most : (n : ℕ) → leb (suc n) 1 ≡ eqb n 0
one_at_most n = go (eqb n 0) refl
  where
    go : (b : Bool) → eqb n 0 ≡ b → leb (suc n) 1 ≡ b
    go true e = le-leb (suc n) 1 (omega (arith, eqb-true n 0 e))
    go false e = lt-leb (suc n) 1 (omega (arith, eqb-false n 0 e))

-- the rule for one child more: t that the parent takes it, e that it takes the others, p that the parent is an element, g that its start
-- tag is open, k that the child is an attribute, z that it is the first, a, q and l the rules for the others
regroup : (t e p g k z a q l : Bool)
    → ((t && e) && cond p (cond g (cond k a q) (not k && q)) (cond z l false))
    ≡ ((t && cond p (not k || g) z) && (e && cond p (cond k a q) l))
regroup false e p g k z a q l = refl
regroup true e true true true z a q l = refl
regroup true e true true false z a q l = refl
regroup true true true false true z a q l = refl
regroup true false true false true z a q l = refl
regroup true e true false false z a q l = refl
regroup true e false g k true a q l = refl
regroup true true false g k false a q l = refl
regroup true false false g k false a q l = refl

rule_more : (parent previous kind : ℕ) (kinds : List ℕ)
    → rule_behind parent previous (kind ∷ kinds) ≡ (may_stand parent previous kind && rule_behind parent kind kinds)
unfolding rule_behind may_stand attributes_first
rule_more parent previous kind kinds = go (eqb kind 0) refl
  where
    go : (b : Bool) → eqb kind 0 ≡ b
        → ((takes parent kind && every (takes parent) kinds) && cond (eqb parent element_kind)
        (cond (in_start_tag previous) (cond (eqb kind attribute_kind) (attributes_first kinds) (plain kinds))
        (not (eqb kind attribute_kind) && plain kinds)) (cond (eqb previous 0) (leb (suc (length kinds)) 1) (eqb (suc (length kinds)) 0)))
        ≡ ((takes parent kind && cond (eqb parent element_kind) (not (eqb kind attribute_kind) || in_start_tag previous) (eqb previous 0))
        && (every (takes parent) kinds && cond (eqb parent element_kind)
        (cond (b || eqb kind attribute_kind) (attributes_first kinds) (plain kinds))
        (cond b (leb (length kinds) 1) (eqb (length kinds) 0))))
    go true e = rw (eqb-true kind 0 e, none_takes_0 parent) refl
    go false e =
        rw (one_at_most (length kinds), ne_eqb (suc (length kinds)) 0 (λ z. omega arith))
        (regroup (takes parent kind) (every (takes parent) kinds) (eqb parent element_kind) (in_start_tag previous)
        (eqb kind attribute_kind) (eqb previous 0) (attributes_first kinds) (plain kinds) (eqb (length kinds) 0))

exchange : (m r o b f : Bool) → (m && ((r && o) && (b && f))) ≡ ((m && b) && (r && o && f))
exchange false r o b f = refl
exchange true false o true f = refl
exchange true false o false f = refl
exchange true true false true f = refl
exchange true true false false f = refl
exchange true true true true f = refl
exchange true true true false f = refl

-- the children of every node by the rule, and these nodes behind a sibling
ordered_behind : (parent previous : ℕ) (f : Document)
    → in_order parent previous (shape f) ≡ (rule_behind parent previous (top_kinds f) && ordered f)
unfolding in_order shape view ordered
ordered_behind parent previous nil = rw (rule_none parent previous) refl
ordered_behind parent previous (node a ks fs) =
    rw (
      ordered_behind a.kind 0 ks,
      ordered_behind parent a.kind fs,
      rule_more parent previous a.kind (top_kinds fs),
      rule_first a.kind (top_kinds ks),
    )
    (exchange (may_stand parent previous a.kind) (children_rule a.kind (top_kinds ks)) (ordered ks)
    (rule_behind parent a.kind (top_kinds fs)) (ordered fs))

-- the kind of the topmost node, and whether another stands behind it
abbrev top_kind : Shape → ℕ
top_kind nil = 0
top_kind (node a ks fs) = a.kind

abbrev alone : Shape → Bool
alone nil = false
alone (node a ks nil) = true
alone (node a ks (node b js fs)) = false

-- of a document below its topmost node
pub ordered_document : (d : Document) {c : List ℕ} {f : Shape} → shape d ≡ node (record { kind = document_kind; content = c }) f nil
    → ordered d ≡ in_order document_kind 0 f
unfolding shape view ordered
ordered_document nil e = absurd (false≢true (ap alone e))
ordered_document (node a ks nil) {f = f} e =
    let k : a.kind ≡ document_kind = ap top_kind e in
    let g : shape ks ≡ f = ap below e in
    sym (rw (← g, ordered_behind document_kind 0 ks, rule_first document_kind (top_kinds ks), k)
    (sym (and-true (children_rule document_kind (top_kinds ks) && ordered ks))))
ordered_document (node a ks (node b js fs)) e = absurd (false≢true (ap alone e))

ruled_ordered : (f : Document) → ruled f ≡ true → ordered f ≡ true
unfolding ruled ordered
ruled_ordered nil h = refl
ruled_ordered (node a ks fs) h =
    let u = and_left (allowed a.kind a.content && children_rule a.kind (top_kinds ks) && ruled ks) _ h in
    let v = and_left (allowed a.kind a.content && children_rule a.kind (top_kinds ks)) _ u in
    rw (
      and_right (allowed a.kind a.content) _ v,
      ruled_ordered ks (and_right (allowed a.kind a.content && children_rule a.kind (top_kinds ks)) _ u),
      ruled_ordered fs (and_right (allowed a.kind a.content && children_rule a.kind (top_kinds ks) && ruled ks) _ h),
    ) refl

-- every document of the tree's rules has its children in order
pub legal_ordered : (d : Document) → legal d ≡ true → ordered d ≡ true
unfolding legal
legal_ordered d h = ruled_ordered d (and_right (rooted d) _ (and_left (rooted d && ruled d) _ h))
