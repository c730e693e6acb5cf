-- The lines of a plain document, before and after each of the three edits.
use Rattle.std.specs.Prelude.{ℕ, ◌≡◌, refl, Bool, true, false, cond, not, eqb}
use Rattle.std.proofs.Common.{sym, ◌∙◌, true≢false, eqb-true, eq-eqb}
use Rattle.std.proofs.lemmas.Bool.{false≢true, not-true}
use mathlib.Core.List.Memᴰ
use mathlib.Core.List.{List, [], ◌∷◌, map, Memᴰ}
use Rattle.tree.specs.Lists.{keep, distinct}
use Rattle.tree.specs.Forest.{row, rows, put}
use Rattle.tree.specs.Document.{Node, Document, Line, lines, is, in_subtree, select, first_line, some?, here, at, numbers}
use Rattle.tree.specs.Steps.{with_content, rewrite, remove}
use Rattle.tree.specs.Laws.Lists.{every_not, keep_same, keep_in, in_keep}
use Rattle.tree.specs.Laws.Rows.{In, to_rows, of_rows}
use Rattle.tree.specs.Laws.Amend.{rows_amend_same}
use Rattle.tree.specs.Laws.View.{rows_rest}
use Rattle.tree.specs.Laws.Distinct.{distinct_one}
use Rattle.serializability.proofs.Laws.Tests.{cond_same}

abbrev pub number : Node → ℕ
number a = a.number

abbrev pub line_number : Line → ℕ
line_number r = r.it.number

-- r is a line of d
abbrev pub Of : Line → Document → Type 0
Of r d = In number r [] d

pub to_lines : (d : Document) {r : Line} → Of r d → Memᴰ r (lines d)
unfolding lines
to_lines d m = to_rows number m

pub of_lines : (d : Document) (r : Line) → Memᴰ r (lines d) → Of r d
unfolding lines
of_lines d r m = of_rows number r [] d m

-- lines by number -----------------------------------------------------------------------

pub at_line : (n : ℕ) (d : Document) → here n d ≡ true → Of (at n d) d × ((at n d).it.number ≡ n)
unfolding select
at_line n d h = go (keep (is n) (lines d)) refl h
  where
    go : (l : List Line) → keep (is n) (lines d) ≡ l → some? l ≡ true → Of (first_line l) d × ((first_line l).it.number ≡ n)
    go [] e f = absurd (false≢true f)
    go (r ∷ l) e f =
        let i = in_keep (is n) (lines d) {a = r} (rw e (Memᴰ.head {x = r} {xs = l} refl)) in
        (of_lines d r i.0, eqb-true r.it.number n i.1)

pub line_here : (n : ℕ) (d : Document) (r : Line) → Of r d → r.it.number ≡ n → here n d ≡ true
unfolding select
line_here n d r m e = go (keep (is n) (lines d)) (keep_in (is n) (lines d) (to_lines d m) (eq-eqb r.it.number n e))
  where
    go : (l : List Line) → Memᴰ r l → some? l ≡ true
    go [] i = absurd (Memᴰ.not-nil i)
    go (x ∷ l) i = refl

pub not_here : (n : ℕ) (d : Document) → here n d ≡ false → (r : Line) → Of r d → r.it.number ≡ n → ⊥
not_here n d h r m e = true≢false (sym (line_here n d r m e) ∙ h)

-- no two nodes have one number
abbrev pub Unique : Document → Type 0
Unique d = distinct (numbers (lines d)) ≡ true

pub one_line : (d : Document) → Unique d → (r s : Line) → Of r d → Of s d → r.it.number ≡ s.it.number → r ≡ s
one_line d u r s i j e = distinct_one line_number (lines d) u (to_lines d i) (to_lines d j) e

pub at_only : (d : Document) → Unique d → (n : ℕ) → here n d ≡ true → (r : Line) → Of r d → r.it.number ≡ n → r ≡ at n d
at_only d u n h r m e = one_line d u r (at n d) m (at_line n d h).0 (e ∙ sym (at_line n d h).1)

-- new contents -------------------------------------------------------------------------

-- the node of a line after `rewrite t b`
abbrev pub rewritten : (Line → Bool) → List ℕ → Line → Node
rewritten t b r = cond (t r) (with_content r.it b) r.it

pub rewritten_number : (t : Line → Bool) (b : List ℕ) (r : Line) → (rewritten t b r).number ≡ r.it.number
rewritten_number t b r = cond_same number (t r) (with_content r.it b) r.it refl

pub rewritten_kind : (t : Line → Bool) (b : List ℕ) (r : Line) → (rewritten t b r).kind ≡ r.it.kind
rewritten_kind t b r = cond_same (λ (a : Node). a.kind) (t r) (with_content r.it b) r.it refl

pub lines_rewrite : (t : Line → Bool) (b : List ℕ) (d : Document)
    → lines (rewrite t b d) ≡ map (λ r. row (rewritten t b r) r.above) (lines d)
unfolding lines
lines_rewrite t b d = rows_amend_same number (rewritten t b) (rewritten_number t b) [] d

-- removal --------------------------------------------------------------------------------

pub lines_remove : (n : ℕ) (d : Document) → lines (remove n d) ≡ keep (λ r. not (in_subtree n r)) (lines d)
unfolding lines
lines_remove n d =
    rows_rest number (λ a. not (eqb a.number n)) (λ q. not (eqb q n)) (λ a. refl) [] d refl
    ∙ keep_same _ _ (rows number [] d) (λ r m. every_not (λ q. eqb q n) (r.it.number ∷ r.above))

-- a line that is left was there, and not in the subtree
pub in_remove : (n : ℕ) (d : Document) {r : Line} → Of r (remove n d) → Of r d × (in_subtree n r ≡ false)
in_remove n d {r} m =
    let i = in_keep (λ (x : Line). not (in_subtree n x)) (lines d) {a = r} (rw (lines_remove n d) at (to_lines (remove n d) m)) in
    (of_lines d r i.0, not-true (in_subtree n r) i.1)

-- insertion ------------------------------------------------------------------------------

-- `node` as the k-th child of n
abbrev pub insert : Node → ℕ → ℕ → Document → Document
insert a n k d = put (λ x. eqb x.number n) (λ x. true) k a d
