-- The rows of the committed document of the state that the bytes hold.
use Rattle.std.specs.Prelude.{◌≡◌, refl, ℕ, zero, suc, ◌≤◌, ◌<◌, Bool, true, ◌&&◌, length, get_or}
use Rattle.std.proofs.Common.{sym, ◌∙◌, arith, eq-eqb}
use Rattle.std.proofs.Math.Path.{ap, fun_ext}
use Rattle.std.proofs.Math.Bool.{and-true}
use mathlib.Core.List.{List, [], ◌∷◌, ◌++◌, append_assoc}
use Rattle.tree.specs.Forest.{nil, node, view}
use Rattle.tree.specs.Content.{document_kind, between}
use Rattle.tree.specs.Laws.View.{view_view}
use Rattle.tree.specs.Laws.Tests.{and_left, and_right}
use Rattle.protocol.specs.State.{Marked, Tree, State, nobody, shown, as_shown, nothing, document_of, committed_document}
use Rattle.table.specs.Flat.{flat}
use Rattle.table.specs.Layout.{nodes}
use Rattle.rows.specs.Places.{depth, is_committed}
use Rattle.protocol.proofs.Laws.Shown.{shown_committed}
use Rattle.rows.proofs.Laws.Ends.{flat_view}
use Rattle.form.specs.Form.{Holds}
use Rattle.form.specs.Laws.Valid.{Root, root_of}
use Rattle.form.specs.Laws.Rows.{between_of, between_low, between_high}
use Rattle.xml.specs.Shape.{Label, Shape, shape, unnumbered}
use Rattle.xml_text.specs.Rows.{Line}
use Rattle.xml_measure.specs.declared.committed.Rows.{Rows}
use Rattle.xml_measure.specs.Lines.{committed_label, committed_lines, line_at, lines, Selected, Listed}
use Rattle.xml_measure.specs.Laws.Lines.{length_lines, line_of}

none_shown : (λ (a : Marked). shown nothing a && true) ≡ is_committed
none_shown = fun_ext (λ a. and-true (shown nothing a) ∙ shown_committed a)

shape_of : (f : Tree) → shape (document_of nothing f) ≡ view is_committed committed_label f
unfolding shape document_of committed_label
shape_of f =
    view_view (shown nothing) (as_shown nothing) (λ a. true) unnumbered f
    ∙ ap (λ (t : Marked → Bool). view t (λ a. unnumbered (as_shown nothing a)) f) none_shown

shape_root : (f : Tree) (r : Root f)
    → shape (document_of nothing f)
    ≡ node (record { kind = document_kind; content = (committed_label r.it).content }) (view is_committed committed_label r.below) nil
unfolding view committed_label
shape_root f r =
    shape_of f ∙ ap (view is_committed committed_label) r.whole
    ∙ rw (eq-eqb r.it.inserter nobody r.document.inserter)
    (ap (λ (a : Label). node a (view is_committed committed_label r.below) nil) (top r.it r.document.kind))
  where
    top : (a : Marked) → a.now.kind ≡ document_kind
        → committed_label a ≡ record { kind = document_kind; content = (committed_label a).content }
    top a e = ap (λ (k : ℕ). record { kind = k; content = (committed_label a).content }) e

-- depths of the rows of a tree -------------------------------------------------------------------

-- of the rows behind one of depth `before`: each at least at depth 1 and at most one deeper than the row before it
unfoldable legal : ℕ → List Line → Bool
legal before [] = true
legal before (x ∷ xs) = between 1 (suc before) x.0 && legal x.0 xs

legal_flat : (before d : ℕ) (f : Shape) (t : List Line) → 1 ≤ d → d ≤ suc before → ((n : ℕ) → d ≤ suc n → legal n t ≡ true)
    → legal before (flat d f ++ t) ≡ true
unfolding legal flat
legal_flat before d nil t a b k = k before b
legal_flat before d (node x ks fs) t a b k =
    rw (between_of 1 (suc before) d a b, append_assoc (flat (suc d) ks) (flat d fs) t)
    (legal_flat d (suc d) ks (flat d fs ++ t) (omega arith) (omega arith) (λ n m. legal_flat n d fs t a (omega arith) k))

legal_at : (x : Line) (xs : List Line) → legal x.0 xs ≡ true → (i : ℕ) (z : Line) → suc i < length (x ∷ xs)
    → (1 ≤ (get_or (x ∷ xs) (suc i) z).0) × ((get_or (x ∷ xs) (suc i) z).0 ≤ suc (get_or (x ∷ xs) i z).0)
unfolding legal
legal_at x [] e i z h = absurd (omega arith)
legal_at x (y ∷ ys) e zero z h =
    let b : between 1 (suc x.0) y.0 ≡ true = and_left (between 1 (suc x.0) y.0) _ e in
    (between_low 1 (suc x.0) y.0 b, between_high 1 (suc x.0) y.0 b)
legal_at x (y ∷ ys) e (suc i) z h = legal_at y ys (and_right (between 1 (suc x.0) y.0) _ e) i z (omega arith)

module _ {s : List ℕ} {M : State} (h : Holds s M) where
  -- THE LAW: the rows selected are those of the committed document
  pub committed_rows : committed_lines (nodes s) ≡ flat 0 (shape (committed_document M))
  unfolding committed_lines
  committed_rows = rw h.rows (sym (ap (flat 0) (shape_of M.tree) ∙ flat_view is_committed committed_label 0 M.tree))

  pub root : Root M.tree
  root = root_of M.tree h.valid

  unfoldable pub root_content : List ℕ
  root_content = (committed_label root.it).content

  unfoldable pub root_below : Shape
  root_below = view is_committed committed_label root.below

  pub rooted_shape : shape (committed_document M) ≡ node (record { kind = document_kind; content = root_content }) root_below nil
  unfolding root_content root_below
  rooted_shape = shape_root M.tree root

  module _ {w : Rows} (c : Selected (nodes s) w) where
    abbrev rows : List Line
    rows = (0, record { kind = document_kind; content = root_content }) ∷ (flat 1 root_below ++ [])

    lines_are : lines (nodes s) w.places w.count ≡ rows
    unfolding flat
    lines_are = c.lines ∙ committed_rows ∙ ap (flat 0) rooted_shape

    enough : w.count ≤ length w.places
    enough = omega (arith, c.inside.long, c.inside.room)

    many : length rows ≡ w.count
    many = sym (ap length lines_are) ∙ length_lines (nodes s) w.places w.count enough

    at : (i : ℕ) → i < w.count → (get_or rows i (line_at (nodes s) 0)).0 ≡ depth (nodes s) (get_or w.places i 0)
    at i k =
        ap (λ (l : List Line). (get_or l i (line_at (nodes s) 0)).0) (sym lines_are)
        ∙ ap (λ (x : Line). x.0) (line_of (nodes s) w.places w.count enough i k)

    step : (i : ℕ) → suc i < w.count
        → (1 ≤ (get_or rows (suc i) (line_at (nodes s) 0)).0)
        × ((get_or rows (suc i) (line_at (nodes s) 0)).0 ≤ suc (get_or rows i (line_at (nodes s) 0)).0)
    unfolding legal
    step i k =
        legal_at (0, record { kind = document_kind; content = root_content }) (flat 1 root_below ++ [])
        (legal_flat 0 1 root_below [] (omega arith) (omega arith) (λ n m. refl)) i (line_at (nodes s) 0) (omega (arith, many))

    -- what a pass over the rows leans on
    pub listed : Listed (nodes s) w.places w.count
    listed = record {
      long = c.inside.long;
      room = c.inside.room;
      some = omega (arith, many);
      inside = c.inside.inside;
      first = sym (at 0 (omega (arith, many)));
      below = λ i k. rw (at (suc i) k) at (step i k).0;
      steps = λ i k. rw (at (suc i) k, at i (omega arith)) at (step i k).1;
    }

    pub lines_of : lines (nodes s) w.places w.count ≡ flat 0 (shape (committed_document M))
    lines_of = c.lines ∙ committed_rows
