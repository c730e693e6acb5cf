-- Documents: what a pass over the rows writes and answers is what the definitions of writing say.
use Rattle.std.specs.Prelude.{◌≡◌, ℕ, ◌+◌, Bool, false, ◌&&◌}
use Rattle.std.proofs.Math.Path.{refl}
use Rattle.std.proofs.Common.{sym, ap, ◌∙◌, arith}
use Rattle.std.proofs.Math.Bool.{true, cond, not, or-false}
use Rattle.std.proofs.lemmas.Bool.{false≢true}
use mathlib.Core.List.{List, [], ◌∷◌, ◌++◌, append_assoc, append-nil}
use Rattle.std.proofs.Math.ListN.{length, length-append}
use Rattle.std.proofs.Math.Dec.{leb}
use Rattle.tree.specs.Text.{bytes}
use Rattle.tree.specs.Forest.{nil, node}
use Rattle.tree.specs.Content.{document_kind}
use Rattle.tree.specs.Document.{Document, ordered}
use Rattle.xml.specs.Shape.{Label, Shape, shape, element}
use Rattle.xml.specs.Reading.{input_limit}
use Rattle.xml.specs.Writing.{attributes, childless, contents, write, repeats, neighbouring_texts, expressible}
use Rattle.xml.specs.Writing as xml
use Rattle.table.specs.Flat.{flat}
use Rattle.xml_text.specs.Rows.{in_order, begin, tag_end, end, ends, emit, extra, cost, judge, prolog, body, written_rows}
use Rattle.xml_text.specs.Rows.{measured}
use Rattle.xml_text.specs.Laws.Trees.{up_none, inner, emit_tree, spots, tree_spots, spots_tree, total, total_append}
use Rattle.xml_text.specs.Laws.Rules.{ordered_document}
use Rattle.xml_text.specs.Laws.Order.{texts_behind, fits_tree, no_children, child_element, Root, no_root, root, root_of}
use Rattle.xml_text.specs.Laws.Texts.{inner_rest}
use Rattle.xml_text.specs.Laws.Lengths.{inner_length}
use Rattle.xml_text.specs.Laws.Names.{repeated_in, repeated_tree}
use Rattle.xml_text.specs.Laws.Judgement.{verdict, judge_is}

-- the document node
abbrev top : List ℕ → Label
top c = record { kind = document_kind; content = c }

text_of : (c : List ℕ) {f : Shape} → Root f → inner (top c) 0 f ≡ contents f
unfolding inner contents begin tag_end end
text_of c no_root = refl
text_of c (root n {g = g} x) =
    rw (inner_rest n 0 refl x)
    (ap (λ (l : List ℕ). 60 ∷ l) (go (attributes g) (cond (childless g) (bytes "/>")
    (bytes ">" ++ (contents g ++ (bytes "</" ++ (n ++ bytes ">")))))))
  where
    go : (a x : List ℕ) → n ++ ((a ++ x) ++ []) ≡ n ++ (a ++ (x ++ []))
    go a x = simp append_assoc

length_of : (c : List ℕ) {f : Shape} → Root f → length (inner (top c) 0 f) ≡ total (tree_spots (top c) 0 f)
unfolding inner tree_spots total begin tag_end end extra cost
length_of c no_root = refl
length_of c (root n {g = g} x) =
    simp (length-append, total_append) (omega (arith, inner_length n 0 refl x, end_is n))
  where
    end_is : (n : List ℕ) → length (end (element n) 0) ≡ 2
    end_is n = refl

-- the rows below the document
emit_root : (c : List ℕ) (f : Shape) → emit (top c ∷ []) 0 (flat 1 f ++ []) ≡ inner (top c) 0 f
unfolding emit ends
emit_root c f = emit_tree (top c) [] 0 f [] up_none ∙ append-nil (inner (top c) 0 f)

spots_root : (c : List ℕ) (f : Shape) → spots (top c ∷ []) 0 (flat 1 f ++ []) ≡ tree_spots (top c) 0 f
unfolding spots
spots_root c f = spots_tree (top c) [] 0 f [] up_none ∙ append-nil (tree_spots (top c) 0 f)

repeated_root : (c : List ℕ) {f : Shape} → Root f → repeated_in ((0, top c) ∷ []) (flat 1 f ++ []) ≡ repeats [] f
unfolding flat repeated_in repeats
repeated_root c no_root = refl
repeated_root c (root n {g = g} x) =
    repeated_tree 1 ((0, top c) ∷ []) [] [] (child_element {b = false} n x no_children) (λ e. absurd (false≢true e))
    ∙ or-false (repeats [] (node (element n) g nil))

-- the tests, in the order of the pass and in that of the definitions
regroup : (nt r l : Bool) (n : ℕ) → cond (true && not nt) (cond r 0 (cond l n 0)) 0 ≡ cond (true && (((true && not r) && not nt) && l)) n 0
regroup true true l n = refl
regroup true false l n = refl
regroup false true l n = refl
regroup false false true n = refl
regroup false false false n = refl

judged : (c : List ℕ) (f : Shape) (n : ℕ) → (in_order document_kind 0 f ≡ true → n ≡ length prolog + total (tree_spots (top c) 0 f))
    → judge (top c ∷ []) 0 ((0, top c) ∷ []) (length prolog) (flat 1 f ++ [])
    ≡ cond (in_order document_kind 0 f && (((true && not (repeats [] f)) && not (neighbouring_texts f)) && leb n input_limit)) n 0
unfolding texts_behind
judged c f n h =
    judge_is (top c ∷ []) 0 ((0, top c) ∷ []) (length prolog) (flat 1 f ++ [])
    ∙ rw (spots_root c f, fits_tree (top c) 0 f) (go (in_order document_kind 0 f) refl)
  where
    go : (b : Bool) → in_order document_kind 0 f ≡ b
        → verdict (b && not (neighbouring_texts f)) (repeated_in ((0, top c) ∷ []) (flat 1 f ++ []))
        (length prolog + total (tree_spots (top c) 0 f))
        ≡ cond (b && (((true && not (repeats [] f)) && not (neighbouring_texts f)) && leb n input_limit)) n 0
    go false e = refl
    go true e = rw (repeated_root c (root_of f e), ← h e) (regroup (neighbouring_texts f) (repeats [] f) (leb n input_limit) n)

module _ (d : Document) (c : List ℕ) (f : Shape) (e : shape d ≡ node (top c) f nil) where
  -- THE LAW of the text
  pub written_is : ordered d ≡ true → written_rows (flat 0 (shape d)) ≡ write d
  unfolding written_rows body prolog write flat
  written_is h = rw e (ap (λ (l : List ℕ). prolog ++ l) (emit_root c f ∙ text_of c (root_of f (sym (ordered_document d e) ∙ h))))

  write_length : in_order document_kind 0 f ≡ true → length (write d) ≡ length prolog + total (tree_spots (top c) 0 f)
  unfolding write prolog
  write_length h =
      rw e (ap (λ (l : List ℕ). length (prolog ++ l)) (sym (text_of c (root_of f h))) ∙ simp length-append
      (omega (arith, length_of c (root_of f h))))

  -- THE LAW of the length
  pub measured_is : measured (flat 0 (shape d)) ≡ cond (ordered d && expressible d) (length (write d)) 0
  unfolding measured expressible flat in_order
  measured_is = rw (ordered_document d e, e) (go f (length (write d)) write_length)
    where
      go : (f : Shape) (n : ℕ) → (in_order document_kind 0 f ≡ true → n ≡ length prolog + total (tree_spots (top c) 0 f))
          → measured ((0, top c) ∷ (flat 1 f ++ []))
          ≡ cond (in_order document_kind 0 f && (((not (xml.no_root f) && not (repeats [] f)) && not (neighbouring_texts f)) && leb n
          input_limit)) n 0
      go nil n h = refl
      go (node b ks fs) n h = judged c (node b ks fs) n h
