-- The length of what stands for an ordered tree.
use Rattle.std.specs.Prelude.{◌≡◌, refl, ℕ, ◌+◌, Bool, true, false, List, length}
use Rattle.std.proofs.Common.{arith, length-append}
use Rattle.xml.specs.Shape.{Shape, element, attribute, text}
use Rattle.xml_text.specs.Rows.{in_start_tag, tag_end, begin, end, extra, cost}
use Rattle.xml_text.specs.Laws.Trees.{inner, tree_spots, total, total_append}
use Rattle.xml_text.specs.Laws.Order.{Children, no_children, bare_attribute, valued_attribute, child_element, child_text}

-- the end of an element
end_open : (n : List ℕ) (last : ℕ) → in_start_tag last ≡ true → length (end (element n) last) ≡ 2
unfolding end
end_open n last e = rw e

end_shut : (n : List ℕ) (last : ℕ) → in_start_tag last ≡ false → length (end (element n) last) ≡ length n + 3
unfolding end
end_shut n last e = rw e (simp length-append (omega arith))

end_quote : (a : List ℕ) (last : ℕ) → length (end (attribute a) last) ≡ 1
unfolding end
end_quote a last = refl

end_text : (c : List ℕ) (last : ℕ) → length (end (text c) last) ≡ 0
unfolding end
end_text c last = refl

pub inner_length : {b : Bool} {f : Shape} (n : List ℕ) (last : ℕ) → in_start_tag last ≡ b → Children b f
    → length (inner (element n) last f) ≡ length (end (element n) last) + total (tree_spots (element n) last f)
unfolding inner tree_spots total begin tag_end extra cost
inner_length n last e no_children = omega arith
inner_length n last e (bare_attribute a {f = f} r) =
    simp (length-append, total_append) (omega (arith, inner_length n 3 refl r, end_open n last e, end_open n 3 refl, end_quote a 0))
inner_length n last e (valued_attribute a c {f = f} r) =
    simp (length-append, total_append) (omega (
      arith,
      inner_length n 3 refl r,
      end_open n last e,
      end_open n 3 refl,
      end_quote a 4,
      end_text
          c 0,
    ))
inner_length {b = true} n last e (child_element m {g = g} {f = f} x r) =
    rw e (simp (length-append, total_append) (omega (
      arith,
      inner_length m 0 refl x,
      inner_length n 2 refl r,
      end_open n last e,
      end_shut n
          2 refl,
      end_open m 0 refl,
    )))
inner_length {b = false} n last e (child_element m {g = g} {f = f} x r) =
    rw e (simp (length-append, total_append) (omega (
      arith,
      inner_length m 0 refl x,
      inner_length n 2 refl r,
      end_shut n last e,
      end_shut n
          2 refl,
      end_open m 0 refl,
    )))
inner_length {b = true} n last e (child_text c {f = f} r) =
    rw e (simp (length-append, total_append) (omega (arith, inner_length n 4 refl r, end_text c 0, end_open n last e, end_shut n 4 refl)))
inner_length {b = false} n last e (child_text c {f = f} r) =
    rw e (simp (length-append, total_append) (omega (arith, inner_length n 4 refl r, end_text c 0, end_shut n last e, end_shut n 4 refl)))
