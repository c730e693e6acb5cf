-- The documents of a state that is in step with its logs: marks are those of open transactions, and the held document is what they show.
use Rattle.std.specs.Prelude.{ℕ, ◌≡◌, Bool, true, eqb}
use Rattle.std.proofs.Math.Path.{refl, ap}
use Rattle.std.proofs.Common.{sym, ◌∙◌, ⊎_elim, eq-eqb}
use Rattle.std.proofs.Math.Bool.{not}
use mathlib.Core.List.{List, [], ◌∷◌, Memᴰ}
use Rattle.std.proofs.lemmas.Bool.{eqb-false}
use Rattle.tree.specs.Lists.{every}
use Rattle.tree.specs.Forest.{row}
use Rattle.tree.specs.Document.{Document, Line, here, at}
use Rattle.tree.specs.Steps.{D, U, UU, with_content}
use Rattle.tree.specs.Laws.View.{in_view, view_in, view_agree}
use Rattle.locks.specs.Modes.{LW, LU, LUU}
use Rattle.locks.specs.Needs.{Lock}
use Rattle.locks.proofs.Laws.Compatible.{Locked, node_locked}
use Rattle.serializability.proofs.Laws.Tests.{by_test}
use Rattle.serializability.proofs.Laws.Lines.{Of, at_line, line_here}
use Rattle.serializability.proofs.Laws.Parts.{LevelledLog}
use Rattle.protocol.specs.State.{nobody, State, Tree, Update, unwritten, wrote, writer_of, Levels, all_of, deleted_in, done_by, shown}
use Rattle.protocol.specs.State.{content_shown, as_shown, document_of, held_document}
use Rattle.serializability.proofs.Laws.Shown.{Place, Inside, path, numbers_of}
use Rattle.serializability.proofs.Laws.Numbers.{number_of, Distinct, one_place}
use Rattle.serializability.proofs.Laws.Marks.{marked_by, inserter_marks, Renames}
use Rattle.serializability.proofs.Laws.OpenLevels.{FallingUpdate, content_same, content_all}
use Rattle.serializability.proofs.Laws.Good.{whole, holds, Good}
use Rattle.serializability.proofs.Laws.GoodLaws.{lock_entry, log_open}

-- lines and places --------------------------------------------------------------------------

-- the set shows the node and all above it
abbrev pub visible : Levels → Place → Bool
visible S r = every (shown S) (path r)

abbrev pub line_in : Levels → Place → Line
line_in S r = row (as_shown S r.it) (numbers_of r.above)

pub place_of : (S : Levels) (f : Tree) {l : Line} → Of l (document_of S f)
    → (r : Place) × Inside r f × (visible S r ≡ true) × (l ≡ line_in S r)
unfolding document_of
place_of S f i = in_view (λ a. a) (shown S) (shown S) (λ a. refl) (as_shown S) (λ a. a.number) (λ a. a.now.number) (λ a. refl)
    [] f refl i

pub line_of_place : (S : Levels) (f : Tree) {r : Place} → Inside r f → visible S r ≡ true → Of (line_in S r) (document_of S f)
unfolding document_of
line_of_place S f i e = view_in (λ a. a) (shown S) (shown S) (λ a. refl) (as_shown S) (λ a. a.number) (λ a. a.now.number) (λ a. refl)
    [] f refl i e

-- a number that is there has a visible place
pub here_place : (S : Levels) (f : Tree) (n : ℕ) → here n (document_of S f) ≡ true
    → (r : Place) × Inside r f × (visible S r ≡ true) × (number_of r ≡ n) × (at n (document_of S f) ≡ line_in S r)
here_place S f n h =
    let a = at_line n (document_of S f) h in
    let v = place_of S f a.0 in
    (v.0, v.1, v.2, sym (ap (λ (x : Line). x.it.number) v.3) ∙ a.1, v.3)

pub place_here : (S : Levels) (f : Tree) {r : Place} → Inside r f → visible S r ≡ true → here (number_of r) (document_of S f) ≡ true
place_here S f {r} i e = line_here (number_of r) (document_of S f) (line_in S r) (line_of_place S f i e) refl

-- the place of a number that is there
pub here_visible : (S : Levels) (f : Tree) → Distinct f → {r : Place} → Inside r f → here (number_of r) (document_of S f) ≡ true
    → (visible S r ≡ true) × (at (number_of r) (document_of S f) ≡ line_in S r)
here_visible S f d {r} i h =
    let v = here_place S f (number_of r) h in
    let e : v.0 ≡ r = one_place f d v.1 i v.3 in
    (ap (visible S) (sym e) ∙ v.2, v.4 ∙ ap (line_in S) e)

-- the content that two sets of transactions show, both with or both without the writer
pub content_agree : (depth : ℕ → ℕ) (x : Update) → FallingUpdate depth x → (P P' : ℕ → Bool)
    → ((writer_of x ≡ nobody → ⊥) → P (writer_of x) ≡ P' (writer_of x)) → (b : List ℕ)
    → content_shown (all_of P) b x ≡ content_shown (all_of P') b x
content_agree depth unwritten w P P' h b = refl
content_agree depth (wrote u l saved deeper) w P P' h b = content_same (λ l. P u) (λ l. P' u) (λ l. h w.0) b deeper l saved

-- marks are of open transactions -------------------------------------------------------------

module _ (c : Document) (log : ℕ → LevelledLog) (M : State) (g : Good c log M) where
  abbrev held : ℕ → List Lock
  held u = holds log M.header.depth u

  -- who holds a lock is open
  holder_open : (u : ℕ) (l : Lock) → Memᴰ l (held u) → M.header.is_open u ≡ true
  holder_open u l i = log_open g u (lock_entry (whole log M.header.depth u) l i).1

  -- who inserted or deleted a node holds LW on it
  pub marker_LW : (r : Place) → Inside r M.tree → (u : ℕ) → (u ≡ nobody → ⊥) → marked_by u r.it ≡ true
      → Locked (number_of r) LW (holds log M.header.depth u)
  marker_LW r i u nu h =
      g.covered.guarded r i u nu h (number_of r, LW) (node_locked (D (number_of r)) (numbers_of r.above) LW (Memᴰ.head refl))

  pub marker_open : (r : Place) → Inside r M.tree → (u : ℕ) → (u ≡ nobody → ⊥) → marked_by u r.it ≡ true → M.header.is_open u ≡ true
  marker_open r i u nu h = holder_open u (number_of r, LW) (marker_LW r i u nu h)

  renamer_open : (u : ℕ) (p : List ℕ) → Renames held u p → M.header.is_open u ≡ true
  renamer_open u [] w = absurd w
  renamer_open u (q ∷ p) w =
      ⊎_elim (λ x. holder_open u (q, LUU) (x (q, LUU) (node_locked (UU q [] []) p LUU (Memᴰ.head refl)))) (renamer_open u p) w

  pub writer_open : (r : Place) → Inside r M.tree → (u : ℕ) → (u ≡ nobody → ⊥) → eqb (writer_of r.it.update) u ≡ true
      → M.header.is_open u ≡ true
  writer_open r i u nu h = ⊎_elim (λ e. marker_open r i u nu (rw e)) (⊎_elim
      (λ w. holder_open u (number_of r, LU) (w (number_of r, LU) (node_locked (U (number_of r) []) (numbers_of r.above) LU
      (Memᴰ.head refl))))
      (renamer_open u (numbers_of (path r)))) (g.covered.authored r i u nu h)

  abbrev all_open : Levels
  all_open = all_of M.header.is_open

  pub inserter_done : (r : Place) → Inside r M.tree
      → done_by (all_of M.header.is_open) r.it.inserter r.it.insertion_level ≡ true
  inserter_done r i = let u = r.it.inserter in
      by_test (eqb u nobody) (λ e. rw e) (λ e. rw e (marker_open r i u (eqb-false u nobody e) (inserter_marks r.it)))

  -- the content now is what they show
  content_open : (r : Place) → Inside r M.tree → content_shown all_open r.it.now.content r.it.update ≡ r.it.now.content
  content_open r i = go r.it.update (g.levels r i).writes (writer_open r i)
    where
      go : (x : Update) → FallingUpdate M.header.depth x
          → ((u : ℕ) → (u ≡ nobody → ⊥) → eqb (writer_of x) u ≡ true → M.header.is_open u ≡ true)
          → content_shown all_open r.it.now.content x ≡ r.it.now.content
      go unwritten w h = refl
      go (wrote u l saved deeper) w h =
          content_all (λ l. M.header.is_open u) (λ l. h u w.0 (eq-eqb u u refl)) r.it.now.content deeper l saved

  -- the held document is what the open transactions show
  pub held_shown : held_document M ≡ document_of (all_of M.header.is_open) M.tree
  unfolding held_document document_of
  held_shown =
      view_agree (λ a. a) (shown all_open) (shown all_open) (λ a. refl)
      (λ a. not (deleted_in all_open a)) (as_shown all_open) (λ a. a.now) [] M.tree refl
      (λ r i e. rw (inserter_done r i)) (λ r i e. ap (with_content r.it.now) (sym (content_open r i)))
