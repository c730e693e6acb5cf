-- The tree of an accepted input is by the rules, within the limit and numbered in document order.
use Rattle.std.specs.Prelude.{ℕ, zero, suc, ◌+◌, ◌≤◌, ◌≡◌, refl, Bool, true, false, cond, not, ◌&&◌, List, [], ◌∷◌, ◌++◌, map, eqb, leb, length}
use Rattle.std.proofs.Common.{sym, ap, ap₂, ◌∙◌, arith, add-one, le-leb, eq-eqb}
use Rattle.std.proofs.lemmas.Bool.{false≢true}
use Rattle.std.proofs.lemmas.List.{length-map}
use Rattle.tree.specs.Lists.{every}
use Rattle.tree.specs.Forest.{nil, node, rows}
use Rattle.tree.specs.Content.{content_limit, attribute_kind, element_kind, is_name, is_text, spells_name, spells_text, allowed, takes}
use Rattle.tree.specs.Content.{attributes_first, children_rule}
use Rattle.tree.specs.Document.{lines, numbers, top_kinds, ruled, legal}
use Rattle.protocol.specs.Calls.{node_limit, ascending_from, loadable}
use Rattle.protocol.proofs.Laws.Ascending.{ascending_distinct}
use Rattle.xml.specs.Shape.{Shape, size, longest, numbered, document}
use Rattle.xml.specs.Grammar.{Name, text_node, Spells}
use Rattle.xml.proofs.Laws.Structure.{Spot, attributes, children, behind_text, Formed, formed_nil, formed_attribute, formed_text}
use Rattle.xml.proofs.Laws.Structure.{formed_element, no_text, no_attribute, FormedRoot, formed_root, both, spells_value}
use Rattle.xml.proofs.Laws.Structure.{spelled_formed}

-- numbers --------------------------------------------------------------------------------

-- n numbers from i on
from : ℕ → ℕ → List ℕ
from i zero = []
from i (suc n) = i ∷ from (suc i) n

from_append : (i m n : ℕ) → from i (m + n) ≡ from i m ++ from (i + m) n
unfolding from
from_append i zero n = let p : 0 + n ≡ n = omega arith in let q : i + 0 ≡ i = omega arith in rw (p, q)
from_append i (suc m) n =
    let p : suc m + n ≡ suc (m + n) = omega arith in
    let q : i + suc m ≡ suc i + m = omega arith in rw (p, q) (ap (λ (l : List ℕ). i ∷ l) (from_append (suc i) m n))

map_append : {A B : Type 0} (g : A → B) (s t : List A) → map g (s ++ t) ≡ map g s ++ map g t
map_append g [] t = refl
map_append g (x ∷ s) t = ap (λ l. g x ∷ l) (map_append g s t)

numbers_from : (p : List ℕ) (i : ℕ) (f : Shape) → numbers (rows (λ a. a.number) p (numbered i f)) ≡ from i (size f)
unfolding rows numbered size from
numbers_from p i nil = refl
numbers_from p i (node a ks fs) =
    ap (λ (l : List ℕ). i ∷ l)
    (map_append (λ r. r.it.number) (rows (λ a. a.number) (i ∷ p) (numbered (suc i) ks))
    (rows (λ a. a.number) p (numbered (suc i + size ks) fs))
    ∙ ap₂ (λ (s t : List ℕ). s ++ t) (numbers_from (i ∷ p) (suc i) ks) (numbers_from p (suc i + size ks) fs)
    ∙ sym (from_append (suc i) (size ks) (size fs)))

ascending : (i n : ℕ) → ascending_from i (from i n) ≡ true
unfolding from
ascending i zero = refl
ascending i (suc n) = rw (eq-eqb i i refl, add-one i) (ascending (suc i) n)

length_from : (i n : ℕ) → length (from i n) ≡ n
unfolding from
length_from i zero = refl
length_from i (suc n) = ap suc (length_from (suc i) n)

-- rules ----------------------------------------------------------------------------------

abbrev pub not_attribute : ℕ → Bool
not_attribute k = not (eqb k attribute_kind)

-- what the kinds of the children are from a spot on
abbrev Kinds : Spot → List ℕ → Type 0
Kinds (attributes seen) ks = attributes_first ks ≡ true
Kinds children ks = every not_attribute ks ≡ true
Kinds behind_text ks = every not_attribute ks ≡ true

first_of_none : (ks : List ℕ) → every not_attribute ks ≡ true → attributes_first ks ≡ true
unfolding attributes_first
first_of_none [] h = refl
first_of_none (k ∷ ks) h = go (eqb k attribute_kind) h
  where
    go : (t : Bool) → (not t && every not_attribute ks) ≡ true → cond t (attributes_first ks) (every not_attribute ks) ≡ true
    go true h = absurd (false≢true h)
    go false h = h

kinds_of : {p : Spot} {f : Shape} (i : ℕ) → Formed p f
    → (every (takes element_kind) (top_kinds (numbered i f)) ≡ true) × Kinds p (top_kinds (numbered i f))
unfolding takes numbered attributes_first
kinds_of i (formed_nil {p = attributes seen}) = (refl, refl)
kinds_of i (formed_nil {p = children}) = (refl, refl)
kinds_of i (formed_nil {p = behind_text}) = (refl, refl)
kinds_of i (formed_attribute c n h k r) = kinds_of (suc i + size (text_node c)) r
kinds_of i (formed_text h r) = kinds_of (suc i + size nil) r
kinds_of i (formed_element {g = g} n h r) = kinds_of (suc i + size g) r
kinds_of i (no_text r) = kinds_of i r
kinds_of i (no_attribute {f = f} r) = let x = kinds_of i r in (x.0, first_of_none (top_kinds (numbered i f)) x.1)

name_fits : (n : Name) → spells_name n ≡ true → length n ≤ content_limit → is_name n ≡ true
unfolding is_name
name_fits n h l = both (le-leb _ _ l) h

text_fits : (b : ℕ) (c : List ℕ) → spells_text (b ∷ c) ≡ true → length (b ∷ c) ≤ content_limit → is_text (b ∷ c) ≡ true
unfolding is_text
text_fits b c h l = both (le-leb (length (b ∷ c)) content_limit l) h

value_ruled : (i : ℕ) (c : List ℕ) → spells_value c ≡ true → longest (text_node c) ≤ content_limit
    → (ruled (numbered i (text_node c)) ≡ true) × (children_rule attribute_kind (top_kinds (numbered i (text_node c))) ≡ true)
unfolding ruled numbered allowed children_rule takes longest
value_ruled i [] h l = (refl, refl)
value_ruled i (b ∷ c) h l = (rw (text_fits b c h (omega arith)), refl)

ruled_of : {p : Spot} {f : Shape} (i : ℕ) → Formed p f → longest f ≤ content_limit → ruled (numbered i f) ≡ true
unfolding ruled numbered allowed children_rule longest
ruled_of i formed_nil l = refl
ruled_of i (formed_attribute {a = a} c n h k r) l =
    let x = value_ruled (suc i) c k (omega arith) in
    both (both (both (name_fits a n (omega arith)) x.1) x.0) (ruled_of (suc i + size (text_node c)) r (omega arith))
ruled_of i (formed_text {b = b} {c = c} h r) l =
    both (both (both (text_fits b c h (omega arith)) refl) refl) (ruled_of (suc i + size nil) r (omega arith))
ruled_of i (formed_element {m = m} {g = g} n h r) l =
    let x = kinds_of (suc i) h in
    both (both (both (name_fits m n (omega arith)) (both x.0 x.1)) (ruled_of (suc i) h (omega arith)))
    (ruled_of (suc i + size g) r (omega arith))
ruled_of i (no_text r) l = ruled_of i r l
ruled_of i (no_attribute r) l = ruled_of i r l

document_ruled : {f : Shape} → FormedRoot f → longest f ≤ content_limit → ruled (document f) ≡ true
unfolding ruled numbered allowed children_rule takes longest size
document_ruled (formed_root {n = n} {f = f} h r) l =
    let x = kinds_of 2 r in
    both (both refl (both (both (both (name_fits n h (omega arith)) (both x.0 x.1)) (ruled_of 2 r (omega arith))) refl)) refl

pub lines_length : (f : Shape) → length (lines (document f)) ≡ suc (size f)
unfolding lines size
lines_length f =
    sym (length-map (lines (document f)) (λ r. r.it.number))
    ∙ ap length (numbers_from [] 0 (node (record { kind = 1; content = [] }) f nil))
    ∙ length_from 0 (suc (size f + 0)) ∙ omega arith

-- THE THEOREM
pub spelled_loadable : {s : List ℕ} {f : Shape} → Spells s f → suc (size f) ≤ node_limit → longest f ≤ content_limit
    → loadable node_limit (document f) ≡ true
unfolding loadable legal lines size numbered
spelled_loadable {s} {f} x few short =
    let p : numbers (lines (document f)) ≡ from 0 (suc (size f + 0)) = numbers_from [] 0 (node (record { kind = 1; content = [] }) f nil) in
    let a : ascending_from 0 (numbers (lines (document f))) ≡ true = rw p (ascending 0 (suc (size f + 0))) in
    let l : leb (length (lines (document f))) node_limit
    ≡ true = le-leb (length (lines (document f))) node_limit (omega (arith, lines_length f)) in
    both (both (both (both refl (document_ruled (spelled_formed x) short))
    (ascending_distinct 0 (numbers (lines (document f))) a)) l) a
