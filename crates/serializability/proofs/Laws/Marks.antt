-- The marks of a tree against the locks: where a step's locks are compatible with those of the others, only its own transaction left marks.
use Rattle.std.specs.Prelude.{ℕ, ◌≡◌, Bool, true, false, ◌&&◌, ◌||◌, ◌⊎◌, eqb}
use Rattle.std.proofs.Math.Path.{refl, sym}
use Rattle.std.proofs.Common.{ap, ◌∙◌, true≢false, inl, inr, ⊎_elim, eqb-true, eq-eqb, ne_eqb}
use Rattle.std.proofs.lemmas.Bool.{false≢true, eqb-false, not-true}
use Rattle.std.proofs.Math.Bool.{or-true}
use mathlib.Core.List.{List, [], ◌∷◌, Memᴰ}
use Rattle.std.proofs.Math.Logic.{⊎_map}
use Rattle.tree.specs.Lists.{every, has, leads}
use Rattle.tree.specs.Forest.{row}
use Rattle.tree.specs.Document.{Line, here, at}
use Rattle.tree.specs.Steps.{Step, U, D, UU, target}
use Rattle.tree.specs.Laws.Tests.{and_left, and_right, or_left, or_right, or_cases}
use Rattle.tree.specs.Laws.Rows.{Each, each_above}
use Rattle.tree.specs.Laws.View.{in_view}
use Rattle.locks.specs.Modes.{LU, LUU}
use Rattle.locks.specs.Needs.{Lock, need, locks, needs}
use Rattle.locks.proofs.Laws.Compatible.{Compatible, compatible_symmetric, node_locked, clashing, excludes, off_node, off_parent, off_path}
use Rattle.locks.proofs.Laws.Excludes.{LW_excludes}
use Rattle.serializability.proofs.Laws.Tests.{by_test, affirmed}
use Rattle.serializability.proofs.Laws.Lines.{at_line}
use Rattle.protocol.specs.State.{nobody, Marked, Tree, seen_by, callers_document, writer_of}
use Rattle.serializability.proofs.Laws.Shown.{Place, Inside, path, numbers_of, local}
use Rattle.serializability.proofs.Laws.Numbers.{number_of, Distinct, one_place}

-- every lock of the one list is in the other
abbrev pub Within : List Lock → List Lock → Type 0
Within l k = (x : Lock) → Memᴰ x l → Memᴰ x k

-- nobody but t inserted or deleted it
abbrev pub own : ℕ → Marked → Bool
own t a = local t a.inserter && local t a.deleter

-- u inserted or deleted it
abbrev pub marked_by : ℕ → Marked → Bool
marked_by u a = eqb a.inserter u || eqb a.deleter u

pub inserter_marks : (a : Marked) → marked_by a.inserter a ≡ true
inserter_marks a = rw (eq-eqb a.inserter a.inserter refl)

pub deleter_marks : (a : Marked) → marked_by a.deleter a ≡ true
deleter_marks a = rw (eq-eqb a.deleter a.deleter refl) (or-true (eqb a.inserter a.deleter))

-- the locks that each transaction holds
module _ (holds : ℕ → List Lock) where
  -- who inserted or deleted the node holds the locks of its deletion
  abbrev pub Guarded : Marked → List Marked → Type 0
  Guarded a p = (u : ℕ) → (u ≡ nobody → ⊥) → marked_by u a ≡ true → Within (locks (D a.now.number) (numbers_of p)) (holds u)

  -- u holds the locks of UU on the first of these nodes, or on one above it
  abbrev pub Renames : ℕ → List ℕ → Type 0
  Renames u [] = ⊥
  Renames u (q ∷ p) = Within (locks (UU q [] []) p) (holds u) ⊎ Renames u p

  -- u may write the node n: it inserted it, or holds the locks of its update, or those of UU on it or above
  abbrev pub Author : ℕ → Bool → ℕ → List ℕ → Type 0
  Author u inserted n q = (inserted ≡ true) ⊎ (Within (locks (U n []) q) (holds u) ⊎ Renames u (n ∷ q))

  abbrev pub Authored : Marked → List Marked → Type 0
  Authored a p = (u : ℕ) → (u ≡ nobody → ⊥) → eqb (writer_of a.update) u ≡ true → Author u (eqb a.inserter u) a.now.number
      (numbers_of p)

  pub record Covered (f : Tree) : Type 0 where
    pub distinct : Distinct f
    pub guarded : (r : Place) → Inside r f → Guarded r.it r.above
    pub authored : (r : Place) → Inside r f → Authored r.it r.above

-- with more locks
module _ (holds holds' : ℕ → List Lock) (u : ℕ) (more : Within (holds u) (holds' u)) where
  renames_more : (p : List ℕ) → Renames holds u p → Renames holds' u p
  renames_more [] w = w
  renames_more (q ∷ p) w = ⊎_map (λ x l i. more l (x l i)) (renames_more p) w

  pub author_more : (b b' : Bool) → (b ≡ true → b' ≡ true) → (n : ℕ) (q : List ℕ) → Author holds u b n q → Author holds' u b' n q
  author_more b b' k n q w = ⊎_map k (⊎_map (λ x l i. more l (x l i)) (renames_more (n ∷ q))) w

-- somebody else's mark
foreign : (t : ℕ) (a : Marked) → own t a ≡ false → (u : ℕ) × (u ≡ nobody → ⊥) × (u ≡ t → ⊥) × (marked_by u a ≡ true)
foreign t a h = by_test (local t a.inserter)
    (λ p. let w = away a.deleter (rw p at h) in (a.deleter, w.0, w.1, deleter_marks a))
    (λ p. let w = away a.inserter p in (a.inserter, w.0, w.1, inserter_marks a))
  where
    away : (u : ℕ) → local t u ≡ false → (u ≡ nobody → ⊥) × (u ≡ t → ⊥)
    away u i = (eqb-false u nobody (or_left _ _ i), eqb-false u t (or_right (eqb u nobody) _ i))

-- a step of t on a node of its document, compatible with what the others hold
module _ (holds : ℕ → List Lock) (f : Tree) (cov : Covered holds f) (t : ℕ) (s : Step) (hs : here (target s) (callers_document t f) ≡ true)
    (compat : (u : ℕ) → (u ≡ t → ⊥) → Compatible (needs s (callers_document t f)) (holds u)) where
  abbrev n₀ : ℕ
  n₀ = target s

  abbrev P : List ℕ
  P = (at (target s) (callers_document t f)).above

  -- the place of the node
  pub target_place : (r : Place) × Inside r f × (number_of r ≡ n₀) × (numbers_of r.above ≡ P) × (every (seen_by t) (path r) ≡ true)
  unfolding callers_document
  target_place =
      let a = at_line n₀ (callers_document t f) hs in
      let v = in_view (λ x. x) (seen_by t) (seen_by t) (λ x. refl) (λ x. x.now) (λ x. x.number) (λ x. x.now.number) (λ x. refl)
      [] f refl a.0 in
      (v.0, v.1, sym (ap (λ (x : Line). x.it.number) v.3) ∙ a.1, sym (ap (λ (x : Line). x.above) v.3), v.2)

  pub above_is : (r : Place) → Inside r f → number_of r ≡ n₀ → numbers_of r.above ≡ P
  above_is r i e =
      let v = target_place in
      ap (λ (x : Place). numbers_of x.above) (one_place f cov.distinct i v.1 (e ∙ sym v.2)) ∙ v.3

  -- what is known of each node of a path: it is guarded, and its place is one of the tree
  abbrev Known : Marked → List Marked → Type 0
  Known a p = Guarded holds a p × Inside (row a p) f

  known : (r : Place) → Inside r f → Each (λ a. a) Known (path r)
  known r i = each_above (λ a. a) Known tt (λ x j. (cov.guarded x j, j)) i

  -- another transaction holds the locks of a step z: how the node and z stand to each other
  module _ (u : ℕ) (ne : u ≡ t → ⊥) (z : Step) (q : List ℕ) (w : Within (locks z q) (holds u)) where
    apart : Compatible (locks s P) (locks z q)
    apart x a b i j = compat u ne x a b i (w (x, b) j)

    off_below : excludes (need s).node (need z) ≡ true → has n₀ (target z ∷ q) ≡ false
    off_below c = off_path n₀ (need s).node (locks s P) (node_locked s P) z q apart c

    off_above : excludes (need z).node (need s) ≡ true → has (target z) (n₀ ∷ P) ≡ false
    off_above c = off_path (target z) (need z).node (locks z q) (node_locked z q) s P (compatible_symmetric _ _ apart) c

  -- on the node and above it only t left marks
  own_here : (a : Marked) (p : List Marked) → Guarded holds a p → has a.now.number (n₀ ∷ P) ≡ true → own t a ≡ true
  own_here a p g h = affirmed _ (λ e.
      let w = foreign t a e in
      true≢false (sym h ∙ off_above w.0 w.2 (D a.now.number) (numbers_of p) (g w.0 w.1 w.3) (LW_excludes s)))

  own_all : (l : List Marked) → Each (λ a. a) Known l → ((q : ℕ) → has q (numbers_of l) ≡ true → has q (n₀ ∷ P) ≡ true)
      → every (own t) l ≡ true
  own_all [] g h = refl
  own_all (a ∷ p) g h = rw (
    own_here a p g.0.0 (h a.now.number (rw (eq-eqb a.now.number a.now.number refl))),
    own_all p g.1 (λ q i. h q (rw (i, or-true (eqb a.now.number q)))),
  )

  pub own_node : (r : Place) → Inside r f → number_of r ≡ n₀ → every (own t) (path r) ≡ true
  own_node r i e = own_all (path r) (known r i) (λ q h. rw (e, above_is r i e) at h)

  -- t sees it, so nobody deleted it
  pub undeleted : (r : Place) → Inside r f → number_of r ≡ n₀ → r.it.deleter ≡ nobody
  undeleted r i e =
      let v = target_place in
      let same : r ≡ v.0 = one_place f cov.distinct i v.1 (e ∙ sym v.2) in
      let see : seen_by t r.it ≡ true = ap (λ (x : Place). seen_by t x.it) same ∙ and_left _ _ v.4 in
      let mine : local t r.it.deleter ≡ true = and_right (local t r.it.inserter) _ (and_left _ _ (own_node r i e)) in
      ⊎_elim (eqb-true _ nobody) (λ x. absurd (true≢false (sym x ∙ not-true _ see))) (or_cases (eqb r.it.deleter nobody) _ mine)

  -- where the node is locked so that it takes no insertion or deletion of a child
  pub own_child : clashing (need s).node (need (D 0)).parent ≡ true → (r : Place) → Inside r f → leads n₀ (numbers_of r.above) ≡ true
      → every (own t) (path r) ≡ true
  own_child c r i h = go r.above h (known r i)
    where
      go : (o : List Marked) → leads n₀ (numbers_of o) ≡ true → Each (λ a. a) Known (r.it ∷ o) → every (own t) (r.it ∷ o) ≡ true
      go [] l g = absurd (false≢true l)
      go (a ∷ p) l g =
          let mine : own t r.it ≡ true = affirmed _ (λ q.
          let w = foreign t r.it q in
          true≢false (sym l ∙ off_parent n₀ (need s).node (locks s P) (node_locked s P) (D (number_of r)) (numbers_of (a ∷ p))
          (apart w.0 w.2 (D (number_of r)) (numbers_of (a ∷ p)) (g.0.0 w.0 w.1 w.3)) c)) in
          rw (mine, own_node (row a p) g.1.0.1 (eqb-true a.now.number n₀ l))

  -- where it is locked so that nothing below it is inserted or deleted
  module _ (c : excludes (need s).node (need (D 0)) ≡ true) where
    own_below : (l : List Marked) → Each (λ a. a) Known l → has n₀ (numbers_of l) ≡ true → every (own t) l ≡ true
    own_below [] g h = refl
    own_below (a ∷ p) g h =
        let mine : own t a ≡ true = affirmed _ (λ q.
        let w = foreign t a q in
        true≢false (sym h ∙ off_below w.0 w.2 (D a.now.number) (numbers_of p) (g.0.0 w.0 w.1 w.3) c)) in
        ⊎_elim (λ e. own_node (row a p) g.0.1 (eqb-true a.now.number n₀ e)) (λ i. rw (mine, own_below p g.1 i))
        (or_cases (eqb a.now.number n₀) (has n₀ (numbers_of p)) h)

    pub own_subtree : (r : Place) → Inside r f → has n₀ (numbers_of (path r)) ≡ true → every (own t) (path r) ≡ true
    own_subtree r i h = own_below (path r) (known r i) h

  -- contents -----------------------------------------------------------------------------

  -- where nobody else can have written, t wrote, or nobody
  writer_local : (r : Place) → Inside r f → own t r.it ≡ true → ((u : ℕ) → (u ≡ t → ⊥) → Renames holds u (numbers_of (path r)) → ⊥)
      → ((u : ℕ) → (u ≡ t → ⊥) → Within (locks (U (number_of r) []) (numbers_of r.above)) (holds u) → ⊥)
      → local t (writer_of r.it.update) ≡ true
  writer_local r i o x y = affirmed _ (λ e.
      let p = eqb-false u nobody (or_left _ _ e) in
      case p (eqb-false u t (or_right (eqb u nobody) _ e)) (cov.authored r i u p (eq-eqb u u refl)))
    where
      u : ℕ
      u = writer_of r.it.update

      case : (u ≡ nobody → ⊥) → (u ≡ t → ⊥) → Author holds u (eqb r.it.inserter u) (number_of r) (numbers_of r.above) → ⊥
      case a b (inl e) =
          let z : local t r.it.inserter ≡ false = rw (eqb-true r.it.inserter u e, ne_eqb u nobody a, ne_eqb u t b) in
          true≢false (sym (and_left _ _ o) ∙ z)
      case a b (inr (inl e)) = y u b e
      case a b (inr (inr e)) = x u b e

  module _ (c : excludes (LUU ∷ []) (need s) ≡ true) where
    -- nobody else holds the locks of UU on the node or above
    renames_above : (u : ℕ) → (u ≡ t → ⊥) → (l : List ℕ) → Renames holds u l → ((q : ℕ) → has q l ≡ true → has q (n₀ ∷ P) ≡ true) → ⊥
    renames_above u ne [] w h = w
    renames_above u ne (q ∷ l) (inl w) h = true≢false (sym (h q (rw (eq-eqb q q refl))) ∙ off_above u ne (UU q [] []) l w c)
    renames_above u ne (q ∷ l) (inr w) h = renames_above u ne l w (λ x i. h x (rw (i, or-true (eqb q x))))

    pub writer_node : clashing (need s).node (LU ∷ []) ≡ true → (r : Place) → Inside r f → number_of r ≡ n₀
        → local t (writer_of r.it.update) ≡ true
    writer_node k r i e = writer_local r i (and_left _ _ (own_node r i e))
        (λ u ne w. renames_above u ne (numbers_of (path r)) w (λ q h. rw (e, above_is r i e) at h))
        (λ u ne w. true≢false (sym (eq-eqb (number_of r) n₀ e) ∙ off_node n₀ (need s).node (locks s P) (node_locked s P)
        (U (number_of r) []) (numbers_of r.above) (apart u ne (U (number_of r) []) (numbers_of r.above) w) k))

    module _ (cd : excludes (need s).node (need (D 0)) ≡ true) (cu : excludes (need s).node (need (U 0 [])) ≡ true)
        (cuu : excludes (need s).node (need (UU 0 [] [])) ≡ true) where
      renames_below : (u : ℕ) → (u ≡ t → ⊥) → (l : List Marked) → Renames holds u (numbers_of l) → Each (λ a. a) Known l
          → has n₀ (numbers_of l) ≡ true → ⊥
      renames_below u ne [] w g h = w
      renames_below u ne (a ∷ p) (inl w) g h = true≢false (sym h ∙ off_below u ne (UU a.now.number [] []) (numbers_of p) w cuu)
      renames_below u ne (a ∷ p) (inr w) g h = ⊎_elim
          (λ e. renames_above u ne (numbers_of p) w (λ q j. rw (← above_is (row a p) g.0.1 (eqb-true a.now.number n₀ e), j)
          (or-true (eqb n₀ q))))
          (λ i. renames_below u ne p w g.1 i) (or_cases (eqb a.now.number n₀) (has n₀ (numbers_of p)) h)

      pub writer_subtree : (r : Place) → Inside r f → has n₀ (numbers_of (path r)) ≡ true → local t (writer_of r.it.update) ≡ true
      writer_subtree r i h = writer_local r i (and_left _ _ (own_subtree cd r i h))
          (λ u ne w. renames_below u ne (path r) w (known r i) h)
          (λ u ne w. true≢false (sym h ∙ off_below u ne (U (number_of r) []) (numbers_of r.above) w cu))
