-- The children that a document of the grammar can have, and that its trees have them.
use Rattle.std.specs.Prelude.{ℕ, ◌≡◌, refl, Bool, true, false, ◌&&◌, ◌||◌, eqb, List, [], ◌∷◌}
use Rattle.std.proofs.Common.{sym}
use Rattle.std.proofs.lemmas.Bool.{false≢true}
use Rattle.tree.specs.Forest.{nil, node}
use Rattle.tree.specs.Content.{text_kind, spells_name, spells_text}
use Rattle.xml.specs.Bytes.{used}
use Rattle.xml.specs.Shape.{Shape, element, attribute, text}
use Rattle.xml.specs.Grammar.{Name, text_node, Place, unspaced, spaced, inside, opened, Derives, spacing, empty, full, more}
use Rattle.xml.specs.Grammar.{derive_attribute, derive_text, markup, derive_element, end_tag, Root, root, Parses, bare}
use Rattle.xml.specs.Grammar.{declared_short, declared_long, spelled, Spells}

-- where among the children of an element: among the attributes, those before named; behind them; behind a text
pub data Spot : Type 0 where
  attributes : (seen : List Name) → Spot
  children behind_text : Spot

-- the bytes of a value, which may have none
abbrev pub spells_value : List ℕ → Bool
spells_value [] = true
spells_value (b ∷ c) = spells_text (b ∷ c)

-- children that may stand from there on
pub data Formed : Spot → Shape → Type 0 where
  formed_nil : {p : Spot} → Formed p nil
  formed_attribute : {seen : List Name} {a : Name} (c : List ℕ) {f : Shape} → spells_name a ≡ true → used seen a ≡ false
      → spells_value c ≡ true
      → Formed (attributes (a ∷ seen)) f → Formed (attributes seen) (node (attribute a) (text_node c) f)
  formed_text : {b : ℕ} {c : List ℕ} {f : Shape} → spells_text (b ∷ c) ≡ true → Formed behind_text f
      → Formed children (node (text (b ∷ c)) nil f)
  formed_element : {m : Name} {g f : Shape} → spells_name m ≡ true → Formed (attributes []) g → Formed children f
      → Formed behind_text (node (element m) g f)
  no_text : {f : Shape} → Formed behind_text f → Formed children f
  no_attribute : {seen : List Name} {f : Shape} → Formed children f → Formed (attributes seen) f

pub data FormedRoot : Shape → Type 0 where
  formed_root : {n : Name} {f : Shape} → spells_name n ≡ true → Formed (attributes []) f → FormedRoot (node (element n) f nil)

pub both : {a b : Bool} → a ≡ true → b ≡ true → (a && b) ≡ true
both p q = rw (p, q)

pub left_of : (a b : Bool) → (a && b) ≡ true → a ≡ true
left_of true b h = refl
left_of false b h = h

pub right_of : (a b : Bool) → (a && b) ≡ true → b ≡ true
right_of true b h = h
right_of false b h = absurd (false≢true h)

pub neither : (a b : Bool) → (a || b) ≡ false → (a ≡ false) × (b ≡ false)
neither true b h = absurd (false≢true (sym h))
neither false b h = (refl, h)

-- what the spelling of a tree says of a node and those beside it
of_named : (k : ℕ) (c : List ℕ) (g f : Shape) → eqb k text_kind ≡ false → spelled (node (record { kind = k; content = c }) g f) ≡ true
    → (spells_name c ≡ true) × (spelled g ≡ true) × (spelled f ≡ true)
unfolding spelled
of_named k c g f e h =
    let y : (spells_name c && spelled g && spelled f) ≡ true = rw e at h in
    let x = left_of (spells_name c && spelled g) _ y in
    (left_of _ _ x, right_of (spells_name c) _ x, right_of (spells_name c && spelled g) _ y)

of_text : (c : List ℕ) (f : Shape) → spelled (node (text c) nil f) ≡ true → (spells_text c ≡ true) × (spelled f ≡ true)
unfolding spelled
of_text c f h = let x = left_of (spells_text c && true) _ h in (left_of _ _ x, right_of (spells_text c && true) _ h)

of_value : (c : List ℕ) → spelled (text_node c) ≡ true → spells_value c ≡ true
of_value [] h = refl
of_value (b ∷ c) h = (of_text (b ∷ c) nil h).0

abbrev spot : Place → Spot
spot (unspaced n seen) = attributes seen
spot (spaced n seen) = attributes seen
spot (inside n) = children
spot (opened n) = behind_text

parts : {p : Place} {s t : List ℕ} {f : Shape} → Derives true p s f t → spelled f ≡ true → Formed (spot p) f
parts (spacing h p) e = parts p e
parts empty e = formed_nil
parts (full p) e = no_attribute (parts p e)
parts (more p) e = parts p e
parts (derive_attribute {a = a} q {c = c} {f = f} m k x y v p) e =
    let i = of_named 3 a (text_node c) f refl e in formed_attribute c i.0 k (of_value c i.1) (parts p i.2)
parts (derive_text {c = c} {b = b} {f = f} x p) e = let i = of_text (b ∷ c) f e in formed_text i.0 (parts p i.1)
parts (markup p) e = no_text (parts p e)
parts (derive_element {m = m} {g = g} {f = f} n p i) e =
    let j = of_named 2 m g f refl e in formed_element j.0 (parts p j.1) (parts i j.2)
parts (end_tag x) e = formed_nil

root_formed : {s : List ℕ} {f : Shape} → Root true s f → spelled f ≡ true → FormedRoot f
root_formed (root {n = n} {f = f} x m p y) e = let i = of_named 2 n f nil refl e in formed_root i.0 (parts p i.1)

parsed_formed : {s : List ℕ} {f : Shape} → Parses true s f → spelled f ≡ true → FormedRoot f
parsed_formed (bare r) e = root_formed r e
parsed_formed (declared_short r) e = root_formed r e
parsed_formed (declared_long r) e = root_formed r e

pub spelled_formed : {s : List ℕ} {f : Shape} → Spells s f → FormedRoot f
spelled_formed x = parsed_formed x.0 x.1

-- and back
value_spelled : (c : List ℕ) → spells_value c ≡ true → spelled (text_node c) ≡ true
unfolding spelled
value_spelled [] h = refl
value_spelled (b ∷ c) h = both (both h refl) refl

formed_spelled : {p : Spot} {f : Shape} → Formed p f → spelled f ≡ true
unfolding spelled
formed_spelled formed_nil = refl
formed_spelled (formed_attribute c n h k r) = both (both n (value_spelled c k)) (formed_spelled r)
formed_spelled (formed_text h r) = both (both h refl) (formed_spelled r)
formed_spelled (formed_element n h r) = both (both n (formed_spelled h)) (formed_spelled r)
formed_spelled (no_text r) = formed_spelled r
formed_spelled (no_attribute r) = formed_spelled r

pub root_spelled : {f : Shape} → FormedRoot f → spelled f ≡ true
unfolding spelled
root_spelled (formed_root n r) = both (both n (formed_spelled r)) refl
