-- Documents by the rows of the tree: the lines of what a view shows, and what a caller sees.
use Rattle.std.specs.Prelude.{◌≡◌, ℕ, Bool, eqb}
use Rattle.std.proofs.Math.Path.{refl, ap}
use Rattle.std.proofs.Common.{◌∙◌}
use mathlib.Core.List.{List, [], ◌∷◌, map}
use Rattle.tree.specs.Lists.{every, keep}
use Rattle.tree.specs.Forest.{Row, row, view}
use Rattle.tree.specs.Document.{Node, Line, lines, is, select}
use Rattle.tree.specs.Laws.Lists.{keep_map, keep_keep, keep_same}
use Rattle.tree.specs.Laws.View.{rows_view}
use Rattle.protocol.specs.State.{Marked, Tree, has_number, seen_by, callers_document}
use Rattle.rows.specs.Places.{number_of}
use Rattle.rows.proofs.Laws.NodeAt.{lines_of}

-- a row of the tree as a line of a document, the node as g gives it
abbrev pub as_line : (Marked → Node) → Row Marked Marked → Line
as_line g r = row (g r.it) (map number_of r.above)

-- the node and all above it are shown
abbrev pub shown_line : (Marked → Bool) → Row Marked Marked → Bool
shown_line shown r = every shown (r.it ∷ r.above)

-- a view that leaves the nodes their numbers
module _ (shown : Marked → Bool) (g : Marked → Node) (same : (a : Marked) → (g a).number ≡ number_of a) (f : Tree) where
  lines_view : lines (view shown g f) ≡ map (as_line g) (keep (shown_line shown) (lines_of [] f))
  unfolding lines
  lines_view = rows_view (λ a. a) shown shown (λ a. refl) g (λ a. a.number) number_of same [] f refl

  pub select_view : (T : Line → Bool)
      → select T (view shown g f) ≡ map (as_line g) (keep (shown_line shown) (keep (λ r. T (as_line g r)) (lines_of [] f)))
  unfolding select
  select_view T =
      ap (keep T) lines_view
      ∙ keep_map T (λ r. T (as_line g r)) (as_line g) (keep (shown_line shown) (lines_of [] f)) (λ r m. refl)
      ∙ ap (map (as_line g)) (keep_keep (λ r. T (as_line g r)) (shown_line shown) (lines_of [] f))

  pub select_number : (n : ℕ)
      → select (is n) (view shown g f) ≡ map (as_line g) (keep (shown_line shown) (keep (λ r. has_number n r.it) (lines_of [] f)))
  select_number n =
      select_view (is n)
      ∙ ap (λ (l : List (Row Marked Marked)). map (as_line g) (keep (shown_line shown) l))
      (keep_same (λ r. is n (as_line g r)) (λ r. has_number n r.it) (lines_of [] f) (λ r m. ap (λ (q : ℕ). eqb q n) (same r.it)))

-- what a caller sees -------------------------------------------------------------------------

abbrev pub plain : Row Marked Marked → Line
plain r = as_line (λ a. a.now) r

-- t deleted neither the node nor one above it
abbrev pub seen_line : ℕ → Row Marked Marked → Bool
seen_line t r = shown_line (seen_by t) r

pub select_seen : (T : Line → Bool) (t : ℕ) (f : Tree)
    → select T (callers_document t f) ≡ map plain (keep (seen_line t) (keep (λ r. T (plain r)) (lines_of [] f)))
unfolding callers_document
select_seen T t f = select_view (seen_by t) (λ a. a.now) (λ a. refl) f T

-- the nodes of those lines
pub plain_nodes : (l : List (Row Marked Marked)) → map (λ r. r.it) (map plain l) ≡ map (λ a. a.now) (map (λ r. r.it) l)
plain_nodes [] = refl
plain_nodes (r ∷ l) = rw (plain_nodes l)
