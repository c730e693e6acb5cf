-- Repeated attributes, seen by a pass over the rows.
use Rattle.std.specs.Prelude.{◌≡◌, refl, ℕ, suc, Bool, true, false, ◌||◌, List, [], ◌∷◌, ◌++◌}
use Rattle.std.proofs.Common.{sym, ◌∙◌, append_assoc, arith, lt-ltb, le-ltb, eq-eqb, ne_eqb}
use Rattle.std.proofs.Math.Bool.{or_assoc}
use Rattle.std.proofs.lemmas.Bool.{false≢true}
use Rattle.xml.specs.Bytes.{used}
use Rattle.xml.specs.Shape.{Label, Shape, element, attribute, text}
use Rattle.xml.specs.Writing.{repeats}
use Rattle.table.specs.Flat.{flat}
use Rattle.xml_text.specs.Rows.{Line, names_before, repeated}
use Rattle.xml_text.specs.Laws.Order.{Children, no_children, bare_attribute, valued_attribute, child_element, child_text}

-- some row repeats an attribute; pre are the rows before, the nearest first
unfoldable pub repeated_in : List Line → List Line → Bool
repeated_in pre [] = false
repeated_in pre (x ∷ xs) = repeated pre x || repeated_in (x ∷ pre) xs

-- the rows l, each before the last
unfoldable pub over : List Line → List Line → List Line
over pre [] = pre
over pre (x ∷ l) = over (x ∷ pre) l

over_append : (pre l m : List Line) → over pre (l ++ m) ≡ over (over pre l) m
unfolding over
over_append pre [] m = refl
over_append pre (x ∷ l) m = over_append (x ∷ pre) l m

-- the names before, behind a row of the depth, a deeper and a higher one
before_same : (d : ℕ) (a : Label) (pre : List Line) → names_before d ((d, a) ∷ pre) ≡ a.content ∷ names_before d pre
unfolding names_before
before_same d a pre = rw (le-ltb d d (omega arith), eq-eqb d d refl)

before_deep : (d : ℕ) (a : Label) (pre : List Line) → names_before d ((suc d, a) ∷ pre) ≡ names_before d pre
unfolding names_before
before_deep d a pre = rw (le-ltb (suc d) d (omega arith), ne_eqb (suc d) d (λ e. omega arith))

before_high : (d : ℕ) (a : Label) (pre : List Line) → names_before (suc d) ((d, a) ∷ pre) ≡ []
unfolding names_before
before_high d a pre = rw (lt-ltb d (suc d) (omega arith))

pub repeated_tree : {b : Bool} {f : Shape} (d : ℕ) (pre : List Line) (seen : List (List ℕ)) (t : List Line) → Children b f
    → (b ≡ true → names_before d pre ≡ seen)
    → repeated_in pre (flat d f ++ t) ≡ (repeats seen f || repeated_in (over pre (flat d f)) t)
unfolding repeated_in repeated repeats flat over
repeated_tree d pre seen t no_children h = refl
repeated_tree d pre seen t (bare_attribute a {f = f} r) h =
    rw (h refl, repeated_tree d ((d, attribute a) ∷ pre) (a ∷ seen) t r (λ e. before_same d (attribute a) pre ∙ rw (h refl)))
    (sym (or_assoc (used seen a) (repeats (a ∷ seen) f) _))
repeated_tree d pre seen t (valued_attribute a c {f = f} r) h =
    rw (
      h refl,
      repeated_tree d ((suc d, text c) ∷ (d, attribute a) ∷ pre) (a ∷ seen) t r
          (λ e. before_deep d (text c) ((d, attribute a) ∷ pre) ∙ before_same d (attribute a) pre ∙ rw (h refl)),
    )
    (sym (or_assoc (used seen a) (repeats (a ∷ seen) f) _))
repeated_tree d pre seen t (child_element n {g = g} {f = f} x r) h =
    let pre' : List Line = (d, element n) ∷ pre in
    rw (
      append_assoc (flat (suc d) g) (flat d f) t,
      repeated_tree (suc d) pre' [] (flat d f ++ t) x (λ e. before_high d (element n) pre),
      repeated_tree d (over pre' (flat (suc d) g)) seen t r (λ e. absurd (false≢true e)),
      over_append pre' (flat (suc d) g) (flat d f),
    )
    (sym (or_assoc (repeats [] g) (repeats seen f) _))
repeated_tree d pre seen t (child_text c {f = f} r) h =
    repeated_tree d ((d, text c) ∷ pre) seen t r (λ e. absurd (false≢true e))
