-- What stands for an ordered tree is what writing it gives.
use Rattle.std.specs.Prelude.{◌≡◌, refl, ℕ, Bool, true, false, cond, List, [], ◌∷◌, ◌++◌}
use Rattle.std.proofs.Common.{sym, ap, ◌∙◌, append_assoc}
use Rattle.tree.specs.Text.{bytes}
use Rattle.xml.specs.Shape.{Shape, element}
use Rattle.xml.specs.Writing.{escaped, attributes, childless, contents}
use Rattle.xml_text.specs.Rows.{in_start_tag, tag_end, begin, end}
use Rattle.xml_text.specs.Laws.Trees.{inner}
use Rattle.xml_text.specs.Laws.Order.{Children, no_children, bare_attribute, valued_attribute, child_element, child_text}

abbrev end_tag : List ℕ → List ℕ
end_tag n = bytes "</" ++ (n ++ bytes ">")

-- the rest of an element named n with these children; true: its start tag is open
abbrev pub rest : Bool → List ℕ → Shape → List ℕ
rest true n f = attributes f ++ cond (childless f) (bytes "/>") (bytes ">" ++ (contents f ++ end_tag n))
rest false n f = contents f ++ end_tag n

no_attributes : {f : Shape} → Children false f → attributes f ≡ []
unfolding attributes
no_attributes no_children = refl
no_attributes (child_element n g f) = no_attributes f
no_attributes (child_text c f) = no_attributes f

-- the same pieces, grouped as the passes and as the definitions group them
attribute_pieces : (a v r x : List ℕ)
    → ((bytes " " ++ a) ++ bytes "=\"") ++ ((v ++ bytes "\"") ++ (r ++ x))
    ≡ (bytes " " ++ (a ++ (bytes "=\"" ++ (v ++ (bytes "\"" ++ r))))) ++ x
attribute_pieces a v r x = ap (λ (l : List ℕ). 32 ∷ l) (go (61 ∷ 34 ∷ []) (34 ∷ []))
  where
    go : (p q : List ℕ) → (a ++ p) ++ ((v ++ q) ++ (r ++ x)) ≡ (a ++ (p ++ (v ++ (q ++ r)))) ++ x
    go p q = simp append_assoc

element_pieces : (m a x c t : List ℕ) → m ++ ((a ++ x) ++ (c ++ t)) ≡ (m ++ (a ++ (x ++ c))) ++ t
element_pieces m a x c t = simp append_assoc

pub inner_rest : {b : Bool} {f : Shape} (n : List ℕ) (last : ℕ) → in_start_tag last ≡ b → Children b f
    → inner (element n) last f ≡ rest b n f
unfolding inner begin end tag_end attributes contents
inner_rest {b = true} n last e no_children = rw e
inner_rest {b = false} n last e no_children = rw e
inner_rest n last e (bare_attribute a {f = f} r) =
    ap (λ (l : List ℕ). ((bytes " " ++ a) ++ bytes "=\"") ++ (bytes "\"" ++ l)) (inner_rest n 3 refl r)
    ∙ attribute_pieces a [] (attributes f) (cond (childless f) (bytes "/>") (bytes ">" ++ (contents f ++ end_tag n)))
inner_rest n last e (valued_attribute a c {f = f} r) =
    ap (λ (l : List ℕ). ((bytes " " ++ a) ++ bytes "=\"") ++ ((escaped true c ++ bytes "\"") ++ l)) (inner_rest n 3 refl r)
    ∙ attribute_pieces a (escaped true c) (attributes f) (cond (childless f) (bytes "/>") (bytes ">" ++ (contents f ++ end_tag n)))
inner_rest {b = true} n last e (child_element m {g = g} {f = f} x r) =
    rw (e, inner_rest m 0 refl x, inner_rest n 2 refl r, no_attributes r)
    (ap (λ (l : List ℕ). 62 ∷ 60 ∷ l) (element_pieces m (attributes g)
    (cond (childless g) (bytes "/>") (bytes ">" ++ (contents g ++ end_tag m))) (contents f) (end_tag n)))
inner_rest {b = false} n last e (child_element m {g = g} {f = f} x r) =
    rw (e, inner_rest m 0 refl x, inner_rest n 2 refl r)
    (ap (λ (l : List ℕ). 60 ∷ l) (element_pieces m (attributes g) (cond (childless g) (bytes "/>") (bytes ">" ++ (contents g ++ end_tag m)))
    (contents f) (end_tag n)))
inner_rest {b = true} n last e (child_text c {f = f} r) =
    rw (e, inner_rest n 4 refl r, no_attributes r)
    (ap (λ (l : List ℕ). 62 ∷ l) (sym (append_assoc (escaped false c) (contents f) (end_tag n))))
inner_rest {b = false} n last e (child_text c {f = f} r) =
    rw (e, inner_rest n 4 refl r) (sym (append_assoc (escaped false c) (contents f) (end_tag n)))
