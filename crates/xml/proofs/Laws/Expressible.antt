-- A legal document can be written and read back exactly if none of the four reasons of cause 14 applies.
use Rattle.std.specs.Prelude.{ℕ, suc, ◌+◌, ◌≤◌, ◌≡◌, refl, Bool, false, cond, not, ◌&&◌, ◌||◌, ◌↔◌, eqb, leb, length}
use Rattle.std.proofs.Common.{sym, ap₂, ◌∙◌, arith, length-append, eqb-true, leb-true}
use Rattle.std.proofs.Math.Bool.{true}
use Rattle.std.proofs.lemmas.Bool.{false≢true, eqb-false, not-true}
use mathlib.Core.List.{List, [], ◌∷◌}
use Rattle.tree.specs.Lists.{every}
use Rattle.tree.specs.Forest.{nil, node, rows, view}
use Rattle.tree.specs.Content.{content_limit, element_kind, attribute_kind, text_kind, is_name, is_text, spells_name}
use Rattle.tree.specs.Content.{spells_text, allowed, takes, attributes_first, children_rule}
use Rattle.tree.specs.Laws.Spelling.{no_empty}
use Rattle.tree.specs.Document.{Node, Document, lines, top_kinds, ruled, rooted, legal}
use Rattle.protocol.specs.Calls.{node_limit}
use Rattle.xml.specs.Bytes.{used}
use Rattle.xml.specs.Shape.{Shape, element, text, size, longest, numbered, shape}
use Rattle.xml.specs.Grammar.{Name, text_node, Spells}
use Rattle.xml.specs.Reading.{input_limit}
use Rattle.xml.specs.Writing.{below, write, no_root, repeats, begins_with_text, neighbouring_texts, expressible, renumbered, ReadBack}
use Rattle.xml.proofs.Laws.Structure.{Spot, attributes, children, behind_text, Formed, formed_nil, formed_attribute, formed_text}
use Rattle.xml.proofs.Laws.Structure.{formed_element, no_text, no_attribute, FormedRoot, formed_root, left_of, right_of, neither}
use Rattle.xml.proofs.Laws.Structure.{spells_value, spelled_formed}
use Rattle.xml.proofs.Laws.Loadable.{not_attribute, spelled_loadable}
use Rattle.xml.proofs.Laws.Readings.{accepted_iff}
use Rattle.xml.proofs.Laws.Written.{written_spells}

-- kinds of children --------------------------------------------------------------------

data ChildKind : ℕ → Type 0 where
  child_element : ChildKind 2
  child_attribute : ChildKind 3
  child_text : ChildKind 4

child_kind : (k : ℕ) → takes element_kind k ≡ true → ChildKind k
unfolding takes
child_kind k h = go (eqb k 2) refl (eqb k 3) refl (eqb k 4) refl
  where
    go : (x : Bool) → eqb k 2 ≡ x → (y : Bool) → eqb k 3 ≡ y → (z : Bool) → eqb k 4 ≡ z → ChildKind k
    go true a y b z c = rw (eqb-true k 2 a) child_element
    go false a true b z c = rw (eqb-true k 3 b) child_attribute
    go false a false b true c = rw (eqb-true k 4 c) child_text
    go false a false b false c =
        let p = leb-true 2 k (left_of _ _ h) in
        let q = leb-true k 4 (right_of (leb 2 k) _ h) in
        let x : k ≡ 2 → ⊥ = eqb-false k 2 a in
        let y : k ≡ 3 → ⊥ = eqb-false k 3 b in
        let z : k ≡ 4 → ⊥ = eqb-false k 4 c in
        absurd (omega arith)

-- a text has no children
childless : (f : Document) → every (takes text_kind) (top_kinds f) ≡ true → f ≡ nil
unfolding takes
childless nil h = refl
childless (node a ks fs) h = absurd (false≢true h)

-- an attribute has a text, or none
abbrev Texts : Document → Type 0
Texts f = (c : List ℕ) × (spells_value c ≡ true) × (shape f ≡ text_node c)

one_text : (c : List ℕ) → is_text c ≡ true → (spells_value c ≡ true) × (node (text c) nil nil ≡ text_node c)
unfolding is_text
one_text [] h = absurd (false≢true (sym no_empty.1 ∙ h))
one_text (b ∷ c) h = (right_of (leb (length (b ∷ c)) content_limit) _ h, refl)

texts : (f : Document) → ruled f ≡ true → children_rule attribute_kind (top_kinds f) ≡ true → Texts f
unfolding shape view ruled children_rule takes allowed
texts nil r h = ([], refl, refl)
texts (node a ks (node b js fs)) r h =
    let l = leb-true (suc (suc (length (top_kinds fs)))) 1 (right_of (every (takes attribute_kind) (top_kinds (node a ks (node b js fs)))) _
    h) in
    absurd (omega arith)
texts (node a ks nil) r h =
    let k : a.kind ≡ text_kind = eqb-true a.kind text_kind (left_of _ _ (left_of _ _ h)) in
    go a.kind k r
  where
    go : (k : ℕ) → k ≡ text_kind → (allowed k a.content && children_rule k (top_kinds ks) && ruled ks && true) ≡ true
        → (c : List ℕ) × (spells_value c ≡ true) × (node (record { kind = k; content = a.content }) (shape ks) nil ≡ text_node c)
    go k e r =
        let x = rw e at r in
        let y = left_of _ _ (left_of _ _ x) in
        let z = one_text a.content (left_of _ _ y) in
        let n = childless ks (left_of _ _ (right_of (is_text a.content) _ y)) in
        (a.content, z.0, rw (e, n) z.1)

-- the children of an element -------------------------------------------------------------

-- what they are from each spot on
pub record Children (f : Document) (seen : List Name) : Type 0 where
  pub first : attributes_first (top_kinds f) ≡ true → Formed (attributes seen) (shape f)
  pub behind : every not_attribute (top_kinds f) ≡ true → Formed children (shape f)
  pub after_text : every not_attribute (top_kinds f) ≡ true → begins_with_text (shape f) ≡ false → Formed behind_text (shape f)

abbrev Clear : List Name → Shape → Type 0
Clear seen f = (repeats seen f ≡ false) × (neighbouring_texts f ≡ false)

text_child : (c : List ℕ) {f : Shape} → is_text c ≡ true → Formed behind_text f → Formed children (node (text c) nil f)
unfolding is_text
text_child [] h r = absurd (false≢true (sym no_empty.1 ∙ h))
text_child (b ∷ c) h r = formed_text (right_of (leb (length (b ∷ c)) content_limit) _ h) r

module _ (i : ℕ) (c : List ℕ) (ks fs : Document) (seen : List Name) where
  abbrev child_of : ℕ → Document
  child_of k = node (record { number = i; kind = k; content = c }) ks fs

  child : {k : ℕ} → ChildKind k → allowed k c ≡ true → children_rule k (top_kinds ks) ≡ true → ruled ks ≡ true
      → Clear seen (shape (child_of k))
      → (every (takes element_kind) (top_kinds ks) ≡ true → Clear [] (shape ks) → Children ks [])
      → ((seen : List Name) → Clear seen (shape fs) → Children fs seen) → Children (child_of k) seen
  unfolding shape view repeats neighbouring_texts attributes_first allowed children_rule is_name
  child child_element a b r x f g =
      let rep = neither (repeats [] (shape ks)) _ x.0 in
      let nei = neither (neighbouring_texts (shape ks)) _ x.1 in
      let inner = (f (left_of _ _ b) (rep.0, nei.0)).first (right_of (every (takes element_kind) (top_kinds ks)) _ b) in
      let outer = (g seen (rep.1, nei.1)).behind in
      let this : every not_attribute (top_kinds fs) ≡ true → Formed behind_text (shape (child_of 2)) =
      λ h. formed_element (right_of (leb (length c) content_limit) _ a) inner (outer h) in
      record { first = λ h. no_attribute (no_text (this h)); behind = λ h. no_text (this h); after_text = λ h _. this h }
  child child_attribute a b r x f g =
      let rep = neither (used seen c) _ x.0 in
      let nei = neither (neighbouring_texts (shape ks)) _ x.1 in
      let t = texts ks r b in
      let outer = (g (c ∷ seen) (rep.1, nei.1)).first in
      record {
        first = λ h. rw t.2 (formed_attribute t.0 (right_of (leb (length c) content_limit) _ a) rep.0 t.1 (outer h));
        behind = λ h. absurd (false≢true h);
        after_text = λ h _. absurd (false≢true h);
      }
  child child_text a b r x f g =
      let rep = neither (repeats [] (shape ks)) _ x.0 in
      let nei = neither (begins_with_text (shape fs) || neighbouring_texts (shape ks)) _ x.1 in
      let n = childless ks (left_of _ _ b) in
      let outer = (g seen (rep.1, nei.1)).after_text in
      let this : every not_attribute (top_kinds fs) ≡ true → Formed children (shape (child_of 4)) =
      λ h. rw n (text_child c a (outer h (neither (begins_with_text (shape fs)) _ nei.0).0)) in
      record { first = λ h. no_attribute (this h); behind = this; after_text = λ h k. absurd (false≢true (sym k)) }

formed_of : (f : Document) (seen : List Name) → ruled f ≡ true → every (takes element_kind) (top_kinds f) ≡ true → Clear seen (shape f)
    → Children f seen
unfolding shape view ruled
formed_of nil seen r h clear = record { first = λ _. formed_nil; behind = λ _. formed_nil; after_text = λ _ _. formed_nil }
formed_of (node a ks fs) seen r h clear =
    let t = child_kind a.kind (left_of _ _ h) in
    let q = left_of (allowed a.kind a.content && children_rule a.kind (top_kinds ks) && ruled ks) _ r in
    let p = left_of (allowed a.kind a.content && children_rule a.kind (top_kinds ks)) _ q in
    child a.number a.content ks fs seen t (left_of _ _ p) (right_of (allowed a.kind a.content) _ p)
    (right_of (allowed a.kind a.content && children_rule a.kind (top_kinds ks)) _ q) clear
    (λ k l. formed_of ks [] (right_of (allowed a.kind a.content && children_rule a.kind (top_kinds ks)) _ q) k l)
    (λ s l. formed_of fs s (right_of (allowed a.kind a.content && children_rule a.kind (top_kinds ks) && ruled ks) _ r)
    (right_of (takes element_kind a.kind) _ h) l)

-- the document ---------------------------------------------------------------------------

-- the first three reasons
abbrev pub Writable : Document → Type 0
Writable d = (no_root (below (shape d)) ≡ false) × (repeats [] (below (shape d)) ≡ false) × (neighbouring_texts (below (shape d)) ≡ false)

element_root : (c : List ℕ) (js : Document) → (allowed 2 c && children_rule 2 (top_kinds js) && ruled js && true) ≡ true
    → repeats [] (node (element c) (shape js) nil) ≡ false → neighbouring_texts (node (element c) (shape js) nil) ≡ false
    → FormedRoot (node (element c) (shape js) nil)
unfolding repeats neighbouring_texts allowed is_name children_rule
element_root c js r p q =
    let x = left_of (allowed 2 c && children_rule 2 (top_kinds js) && ruled js) _ r in
    let y = left_of (allowed 2 c && children_rule 2 (top_kinds js)) _ x in
    let rule = right_of (allowed 2 c) (children_rule 2 (top_kinds js)) y in
    let kids = formed_of js [] (right_of (allowed 2 c && children_rule 2 (top_kinds js)) _ x) (left_of _ _ rule)
    ((neither (repeats [] (shape js)) _ p).0, (neither (neighbouring_texts (shape js)) _ q).0) in
    formed_root (right_of (leb (length c) content_limit) _ (left_of (allowed 2 c) _ y))
    (kids.first (right_of (every (takes 2) (top_kinds js)) _ rule))

root_of : (ks : Document) → ruled ks ≡ true → children_rule 1 (top_kinds ks) ≡ true → no_root (shape ks) ≡ false
    → repeats [] (shape ks) ≡ false
    → neighbouring_texts (shape ks) ≡ false → FormedRoot (shape ks)
unfolding shape view ruled children_rule takes
root_of nil r h n p q = absurd (false≢true (sym n))
root_of (node b js (node c is fs)) r h n p q =
    let l = leb-true (suc (suc (length (top_kinds fs)))) 1 (right_of (every (takes 1) (top_kinds (node b js (node c is fs)))) _ h) in
    absurd (omega arith)
root_of (node b js nil) r h n p q = go b.kind (eqb-true b.kind 2 (left_of _ _ (left_of _ _ h))) r p q
  where
    go : (k : ℕ) → k ≡ 2 → (allowed k b.content && children_rule k (top_kinds js) && ruled js && true) ≡ true
        → repeats [] (node (record { kind = k; content = b.content }) (shape js) nil) ≡ false
        → neighbouring_texts (node (record { kind = k; content = b.content }) (shape js) nil) ≡ false
        → FormedRoot (node (record { kind = k; content = b.content }) (shape js) nil)
    go k e r p q = rw e (element_root b.content js (rw e at r) (rw e at p) (rw e at q))

-- a legal document: the document node and what is below it
module _ (a : Node) (ks : Document) where
  abbrev Ruled : Type 0
  Ruled = (a.kind ≡ 1) × (a.content ≡ []) × (children_rule 1 (top_kinds ks) ≡ true) × (ruled ks ≡ true)

no_bytes : (c : List ℕ) → allowed 1 c ≡ true → c ≡ []
unfolding allowed
no_bytes [] h = refl
no_bytes (b ∷ c) h = absurd (let z = eqb-true (suc (length c)) 0 h in omega arith)

split : (a : Node) (ks : Document) → rooted (node a ks nil) ≡ true → ruled (node a ks nil) ≡ true → Ruled a ks
unfolding ruled
split a ks h r = go a.kind (eqb-true a.kind 1 (right_of (eqb a.number 0) _ h)) r
  where
    go : (k : ℕ) → k ≡ 1 → (allowed k a.content && children_rule k (top_kinds ks) && ruled ks && true) ≡ true
        → (k ≡ 1) × (a.content ≡ []) × (children_rule 1 (top_kinds ks) ≡ true) × (ruled ks ≡ true)
    go k e r =
        let x = rw e at r in
        let y = left_of (allowed 1 a.content && children_rule 1 (top_kinds ks) && ruled ks) _ x in
        let z = left_of (allowed 1 a.content && children_rule 1 (top_kinds ks)) _ y in (
          e,
          no_bytes a.content (left_of (allowed 1 a.content) _ z),
          right_of (allowed 1 a.content) _ z,
          right_of (allowed 1 a.content && children_rule 1 (top_kinds ks)) _ y,
        )

legal_ruled : (d : Document) → legal d ≡ true → (rooted d ≡ true) × (ruled d ≡ true)
unfolding legal
legal_ruled d h = let x = left_of (rooted d && ruled d) _ h in (left_of (rooted d) _ x, right_of (rooted d) _ x)

pub formed_document : (d : Document) → legal d ≡ true → Writable d → FormedRoot (below (shape d))
unfolding shape view
formed_document nil h w = absurd (false≢true (legal_ruled nil h).0)
formed_document (node a ks nil) h w =
    let l = legal_ruled (node a ks nil) h in
    let s = split a ks l.0 l.1 in
    root_of ks s.3 s.2 w.0 w.1 w.2
formed_document (node a ks (node b js fs)) h w = absurd (false≢true (legal_ruled (node a ks (node b js fs)) h).0)

-- what the grammar spells is writable
abbrev ClearAt : Spot → Shape → Type 0
ClearAt (attributes seen) f = (repeats seen f ≡ false) × (neighbouring_texts f ≡ false)
ClearAt children f = ((seen : List Name) → repeats seen f ≡ false) × (neighbouring_texts f ≡ false)
ClearAt behind_text f = ((seen : List Name) → repeats seen f ≡ false) × (neighbouring_texts f ≡ false) × (begins_with_text f ≡ false)

value_clear : (c : List ℕ) → neighbouring_texts (text_node c) ≡ false
unfolding neighbouring_texts
value_clear [] = refl
value_clear (b ∷ c) = refl

formed_clear : {p : Spot} {f : Shape} → Formed p f → ClearAt p f
unfolding repeats neighbouring_texts
formed_clear (formed_nil {p = attributes seen}) = (refl, refl)
formed_clear (formed_nil {p = children}) = (λ seen. refl, refl)
formed_clear (formed_nil {p = behind_text}) = (λ seen. refl, refl, refl)
formed_clear (formed_attribute c n h k r) = let x = formed_clear r in (rw (h, x.0), rw (value_clear c, x.1))
formed_clear (formed_text h r) = let x = formed_clear r in (x.0, rw (x.2, x.1))
formed_clear (formed_element n h r) =
    let x = formed_clear h in let y = formed_clear r in (λ seen. rw (x.0, y.0 seen), rw (x.1, y.1), refl)
formed_clear (no_text r) = let x = formed_clear r in (x.0, x.1)
formed_clear (no_attribute {seen = seen} r) = let x = formed_clear r in (x.0 seen, x.1)

root_clear : {f : Shape} → FormedRoot f → (no_root f ≡ false) × (repeats [] f ≡ false) × (neighbouring_texts f ≡ false)
unfolding repeats neighbouring_texts
root_clear (formed_root n r) = let x = formed_clear r in (refl, rw x.0, rw x.1)

-- SOME INPUT stands for a legal document, but for node numbers, exactly if it has a root, no repeated attribute and no neighbouring texts
pub spelled_iff : (d : Document) → legal d ≡ true → ((s : List ℕ) × Spells s (below (shape d))) ↔ Writable d
spelled_iff d h = (λ x. root_clear (spelled_formed x.1), λ w. (_, written_spells (formed_document d h w)))

-- limits of a legal document ---------------------------------------------------------------

allowed_short : (k : ℕ) (c : List ℕ) → allowed k c ≡ true → length c ≤ content_limit
unfolding allowed is_name is_text
allowed_short k c h = go (eqb k 1) (eqb k 2 || eqb k 3) (eqb k 4) h
  where
    go : (x y z : Bool)
        → cond x (eqb (length c) 0) (cond y (leb (length c) content_limit && spells_name c)
        (z && (leb (length c) content_limit && spells_text c))) ≡ true
        → length c ≤ content_limit
    go true y z h = omega (arith, eqb-true (length c) 0 h)
    go false true z h = leb-true (length c) content_limit (left_of _ _ h)
    go false false true h = leb-true (length c) content_limit (left_of _ _ h)
    go false false false h = absurd (false≢true h)

longest_ruled : (f : Document) → ruled f ≡ true → longest (shape f) ≤ content_limit
unfolding longest shape view ruled
longest_ruled nil h = omega arith
longest_ruled (node a ks fs) h =
    let x = left_of (allowed a.kind a.content && children_rule a.kind (top_kinds ks) && ruled ks) _ h in
    let y = left_of (allowed a.kind a.content && children_rule a.kind (top_kinds ks)) _ x in
    let p = allowed_short a.kind a.content (left_of _ _ y) in
    let q = longest_ruled ks (right_of (allowed a.kind a.content && children_rule a.kind (top_kinds ks)) _ x) in
    let r = longest_ruled fs (right_of (allowed a.kind a.content && children_rule a.kind (top_kinds ks) && ruled ks) _ h) in
    omega arith

size_rows : (p : List ℕ) (f : Document) → length (rows (λ a. a.number) p f) ≡ size (shape f)
unfolding rows size shape view
size_rows p nil = refl
size_rows p (node a ks fs) = rw (length-append, size_rows (a.number ∷ p) ks, size_rows p fs)

pub shape_numbered : (i : ℕ) (f : Shape) → shape (numbered i f) ≡ f
unfolding shape view numbered
shape_numbered i nil = refl
shape_numbered i (node a ks fs) = rw (shape_numbered (suc i) ks, shape_numbered (suc i + size ks) fs)

-- READ BACK ------------------------------------------------------------------------------

expressible_parts : (d : Document) → expressible d ≡ true → Writable d × (length (write d) ≤ input_limit)
unfolding expressible
expressible_parts d h =
    let x = left_of (not (no_root (below (shape d))) && not (repeats [] (below (shape d))) && not (neighbouring_texts (below (shape d)))) _
    h in
    let y = left_of (not (no_root (below (shape d))) && not (repeats [] (below (shape d)))) _ x in (
      (
        not-true _ (left_of _ _ y),
        not-true _ (right_of (not (no_root (below (shape d)))) _ y),
        not-true _ (right_of (not (no_root (below (shape d))) && not (repeats [] (below (shape d)))) _ x),
      ),
      leb-true (length (write d)) input_limit
          (right_of (not (no_root (below (shape d))) && not (repeats [] (below (shape d))) && not (neighbouring_texts (below (shape d)))) _
          h),
    )

pub read_back : (d : Document) → legal d ≡ true → expressible d ≡ true → length (lines d) ≤ node_limit → ReadBack d
unfolding lines shape view size longest write
read_back nil h e l = absurd (false≢true (legal_ruled nil h).0)
read_back (node a ks (node b js fs)) h e l = absurd (false≢true (legal_ruled (node a ks (node b js fs)) h).0)
read_back (node a ks nil) h e l =
    let p = expressible_parts (node a ks nil) e in
    let r = legal_ruled (node a ks nil) h in
    let q = split a ks r.0 r.1 in
    let x : Spells (write (node a ks nil)) (shape ks) = written_spells (formed_document (node a ks nil) h p.0) in
    let few : suc (size (shape ks)) ≤ node_limit = omega (arith, size_rows [] (node a ks nil)) in
    let short : longest (shape ks) ≤ content_limit = omega (arith, longest_ruled (node a ks nil) r.1) in
    let k = spelled_loadable x few short in
    record {
      same_tree =
          shape_numbered 0 (node (record { kind = 1; content = [] }) (shape ks) nil)
          ∙ ap₂ (λ (k : ℕ) (c : List ℕ). node (record { kind = k; content = c }) (shape ks) nil) (sym q.0) (sym q.1);
      is_loadable = k;
      reads = (accepted_iff node_limit (omega arith) (omega arith) (write (node a ks nil)) (renumbered (node a ks nil)) k).1
          (record { shape = shape ks; spelled = x; stands = refl; short_input = p.1; few_nodes = few; short_contents = short });
    }
