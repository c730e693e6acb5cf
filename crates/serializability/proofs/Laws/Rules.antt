-- The rules of contents and children, before and after each of the three edits.
use Prim.Native.Nat.{ℕ, zero, suc, ◌-◌, ◌≤◌}
use Rattle.std.specs.Prelude.{◌≡◌, Bool, false, not, ◌&&◌, length, eqb}
use Rattle.std.proofs.Math.Path.{refl, ap}
use Rattle.std.proofs.Common.{sym, ◌∙◌, ⊎_elim, eqb-true, eq-eqb, leb-true, le-leb}
use Rattle.std.proofs.Math.Bool.{true}
use mathlib.Core.List.{List, [], ◌∷◌, ◌++◌, append-nil, Memᴰ}
use native.Mathlib.Omega.{arith}
use Rattle.std.proofs.Math.ListN.{take, drop}
use Rattle.std.proofs.lemmas.Bool.{not-true}
use Rattle.tree.specs.Lists.{every, leads, keep, distinct}
use Rattle.tree.specs.Forest.{nil, node, row, rows, amend, view, place, put}
use Rattle.tree.specs.Content.{element_kind, attribute_kind, allowed, takes, attributes_first, children_rule, insert_at}
use Rattle.tree.specs.Document.{Node, Document, Line, child, numbers, kinds, top_kinds, ruled}
use Rattle.tree.specs.Laws.Tests.{and_left, and_right, refuted}
use Rattle.tree.specs.Laws.Lists.{keep_append, keep_none}
use Rattle.tree.specs.Laws.Rows.{In, self, inner, later, parent_row, to_rows, of_rows}
use Rattle.tree.specs.Laws.Distinct.{head_new, head_apart, distinct_left, distinct_right, distinct_apart}
use Rattle.serializability.proofs.Laws.Tests.{by_test}
use Rattle.serializability.proofs.Laws.Lines.{number, line_number, rewritten, rewritten_kind}

-- the parts of the rules ---------------------------------------------------------------------

abbrev RuledNode : Node → Document → Type 0
RuledNode a ks = (allowed a.kind a.content ≡ true) × (children_rule a.kind (top_kinds ks) ≡ true)

ruled_parts : (a : Node) (ks fs : Document) → ruled (node a ks fs) ≡ true → RuledNode a ks × (ruled ks ≡ true) × (ruled fs ≡ true)
unfolding ruled
ruled_parts a ks fs h =
    let h₁ = and_left _ _ h in
    let h₂ = and_left _ _ h₁ in (
      (and_left _ _ h₂, and_right (allowed a.kind a.content) _ h₂),
      and_right (allowed a.kind a.content && children_rule a.kind (top_kinds ks)) _ h₁,
      and_right (allowed a.kind a.content && children_rule a.kind (top_kinds ks) && ruled ks) _ h,
    )

ruled_whole : (a : Node) (ks fs : Document) → RuledNode a ks → ruled ks ≡ true → ruled fs ≡ true → ruled (node a ks fs) ≡ true
unfolding ruled
ruled_whole a ks fs h i j = rw (h.0, h.1, i, j)

-- new contents ---------------------------------------------------------------------------------

module _ (t : Line → Bool) (b : List ℕ) where
  kinds_amend : (p : List ℕ) (f : Document) → top_kinds (amend number (rewritten t b) p f) ≡ top_kinds f
  unfolding amend
  kinds_amend p nil = refl
  kinds_amend p (node a ks fs) = rw (rewritten_kind t b (row a p), kinds_amend p fs)

  pub ruled_amend : (p : List ℕ) (f : Document) → ruled f ≡ true
      → ((r : Line) → In number r p f → t r ≡ true → allowed r.it.kind b ≡ true) → ruled (amend number (rewritten t b) p f) ≡ true
  unfolding amend
  ruled_amend p nil h g = h
  ruled_amend p (node a ks fs) h g =
      let q = ruled_parts a ks fs h in
      ruled_whole (rewritten t b (row a p)) (amend number (rewritten t b) (a.number ∷ p) ks) (amend number (rewritten t b) p fs) (
        by_test (t (row a p)) (λ e. rw e (g (row a p) (self refl) e)) (λ e. rw e q.0.0),
        rw (rewritten_kind t b (row a p), kinds_amend (a.number ∷ p) ks) q.0.1,
      )
      (ruled_amend (a.number ∷ p) ks q.1 (λ r m. g r (inner m))) (ruled_amend p fs q.2 (λ r m. g r (later m)))

-- removal ----------------------------------------------------------------------------------------

-- some of a list, in its order
data Sublist : List ℕ → List ℕ → Type 0 where
  none : Sublist [] []
  kept : (x : ℕ) {l k : List ℕ} → Sublist l k → Sublist (x ∷ l) (x ∷ k)
  dropped : (x : ℕ) {l k : List ℕ} → Sublist l k → Sublist l (x ∷ k)

sublist_every : (t : ℕ → Bool) {l k : List ℕ} → Sublist l k → every t k ≡ true → every t l ≡ true
sublist_every t none h = h
sublist_every t (kept x s) h = rw (and_left (t x) _ h) (sublist_every t s (and_right (t x) _ h))
sublist_every t (dropped x s) h = sublist_every t s (and_right (t x) _ h)

sublist_length : {l k : List ℕ} → Sublist l k → length l ≤ length k
sublist_length none = omega arith
sublist_length (kept x s) = let i = sublist_length s in omega arith
sublist_length (dropped x s) = let i = sublist_length s in omega arith

no_attributes : (l : List ℕ) → every (λ x. not (eqb x attribute_kind)) l ≡ true → attributes_first l ≡ true
unfolding attributes_first
no_attributes [] h = refl
no_attributes (x ∷ l) h = rw (not-true (eqb x attribute_kind) (and_left _ _ h)) (and_right (not (eqb x attribute_kind)) _ h)

sublist_attributes : {l k : List ℕ} → Sublist l k → attributes_first k ≡ true → attributes_first l ≡ true
unfolding attributes_first
sublist_attributes none h = h
sublist_attributes (kept x s) h = by_test (eqb x attribute_kind) (λ e. rw e (sublist_attributes s (rw e at h)))
    (λ e. rw e (sublist_every (λ y. not (eqb y attribute_kind)) s (rw e at h)))
sublist_attributes (dropped x {k = k} s) h = by_test (eqb x attribute_kind) (λ e. sublist_attributes s (rw e at h))
    (λ e. sublist_attributes s (no_attributes k (rw e at h)))

sublist_rule : (kind : ℕ) {l k : List ℕ} → Sublist l k → children_rule kind k ≡ true → children_rule kind l ≡ true
unfolding children_rule
sublist_rule kind {l} {k} s h =
    let r = and_right (every (takes kind) k) _ h in
    rw (sublist_every (takes kind) s (and_left _ _ h)) (by_test (eqb kind element_kind) (λ e. rw e (sublist_attributes s (rw e at r)))
    (λ e. rw e (le-leb (length l) 1 (omega (arith, sublist_length s, leb-true (length k) 1 (rw e at r))))))

module _ (shown : Node → Bool) where
  kinds_view : (f : Document) → Sublist (top_kinds (view shown (λ a. a) f)) (top_kinds f)
  unfolding view
  kinds_view nil = none
  kinds_view (node a ks fs) = by_test (shown a) (λ e. rw e (kept a.kind (kinds_view fs))) (λ e. rw e (dropped a.kind (kinds_view fs)))

  pub ruled_view : (f : Document) → ruled f ≡ true → ruled (view shown (λ a. a) f) ≡ true
  unfolding view
  ruled_view nil h = h
  ruled_view (node a ks fs) h =
      let q = ruled_parts a ks fs h in
      by_test (shown a)
      (λ e. rw e (ruled_whole a (view shown (λ x. x) ks) (view shown (λ x. x) fs)
      (q.0.0, sublist_rule a.kind (kinds_view ks) q.0.1)
      (ruled_view ks q.1) (ruled_view fs q.2))) (λ e. rw e (ruled_view fs q.2))

-- insertion ------------------------------------------------------------------------------------

-- the node a with the children ks is in the forest
pub data HasNode (a : Node) (ks : Document) : Document → Type 0 where
  at_top : {fs : Document} → HasNode a ks (node a ks fs)
  below : {b : Node} {js fs : Document} → HasNode a ks js → HasNode a ks (node b js fs)
  beside : {b : Node} {js fs : Document} → HasNode a ks fs → HasNode a ks (node b js fs)

pub node_line : {a : Node} {ks : Document} (p : List ℕ) {f : Document} → HasNode a ks f → (q : List ℕ) × In number (row a q) p f
node_line p at_top = (p, self refl)
node_line p (below {b = b} m) = let i = node_line (b.number ∷ p) m in (i.0, inner i.1)
node_line p (beside m) = let i = node_line p m in (i.0, later i.1)

module _ (parent : Node → Bool) (k : ℕ) (new : Node) where
  kinds_place : (k : ℕ) (f : Document)
      → top_kinds (place (λ a. true) (suc k) new f) ≡ take k (top_kinds f) ++ (new.kind ∷ drop k (top_kinds f))
  unfolding place
  kinds_place zero f = refl
  kinds_place (suc k) nil = refl
  kinds_place (suc k) (node a ks fs) = rw (kinds_place k fs)

  kinds_inserted : (k : ℕ) (f : Document) → top_kinds (place (λ a. true) k new f) ≡ insert_at k new.kind (top_kinds f)
  unfolding insert_at place
  kinds_inserted zero f = refl
  kinds_inserted (suc k) f = kinds_place k f ∙ ap (λ (i : ℕ). take i (top_kinds f) ++ (new.kind ∷ drop i (top_kinds f))) minus
    where
      minus : k ≡ suc k - 1
      minus = omega arith

  kinds_put : (f : Document) → top_kinds (put parent (λ a. true) k new f) ≡ top_kinds f
  unfolding put
  kinds_put nil = refl
  kinds_put (node a ks fs) = rw (kinds_put fs)

  ruled_place : (k : ℕ) (f : Document) → ruled f ≡ true → ruled (node new nil nil) ≡ true → ruled (place (λ a. true) k new f) ≡ true
  unfolding place
  ruled_place zero f h n = ruled_whole new nil f (ruled_parts new nil nil n).0 (ruled_parts new nil nil n).1 h
  ruled_place (suc zero) f h n = ruled_whole new nil f (ruled_parts new nil nil n).0 (ruled_parts new nil nil n).1 h
  ruled_place (suc (suc k)) nil h n = n
  ruled_place (suc (suc k)) (node a ks fs) h n =
      let q = ruled_parts a ks fs h in
      ruled_whole a ks (place (λ x. true) (suc k) new fs) q.0 q.1 (ruled_place (suc k) fs q.2 n)

  -- if the new node is by the rules, and each parent's children are with it among them
  pub ruled_put : (f : Document) → ruled f ≡ true → ruled (node new nil nil) ≡ true
      → ((a : Node) (ks : Document) → HasNode a ks f → parent a ≡ true
      → children_rule a.kind (insert_at k new.kind (top_kinds ks)) ≡ true) → ruled (put parent (λ a. true) k new f) ≡ true
  unfolding put
  ruled_put nil h n g = h
  ruled_put (node a ks fs) h n g =
      let q = ruled_parts a ks fs h in
      let ks' = put parent (λ x. true) k new ks in
      let u : ruled ks' ≡ true = ruled_put ks q.1 n (λ b js m. g b js (below m)) in
      let v = ruled_put fs q.2 n (λ b js m. g b js (beside m)) in
      by_test (parent a)
      (λ e. rw e (ruled_whole a (place (λ x. true) k new ks') _ (q.0.0, rw (kinds_inserted k ks', kinds_put ks) (g a ks at_top e))
      (ruled_place k ks' u n) v))
      (λ e. rw e (ruled_whole a ks' _ (q.0.0, rw (kinds_put ks) q.0.1) u v))

-- the children of a node -----------------------------------------------------------------------

module _ (n : ℕ) where
  -- without n in the forest or right above it no line is a child of n
  no_children : (p : List ℕ) (f : Document) → leads n p ≡ false → ((r : Line) → In number r p f → r.it.number ≡ n → ⊥)
      → keep (child n) (rows number p f) ≡ []
  no_children p f h g = keep_none (child n) (rows number p f) (λ r m. ⊎_elim (λ e. rw e h)
      (λ s. rw s.2 (refuted (eqb s.0.it.number n) (λ e. g s.0 s.1 (eqb-true _ n e))))
      (parent_row number (of_rows number r p f m)))

  -- right below n, and without n in the forest, the topmost nodes are its children
  top_children : (p : List ℕ) (f : Document) → leads n p ≡ true → ((r : Line) → In number r p f → r.it.number ≡ n → ⊥)
      → kinds (keep (child n) (rows number p f)) ≡ top_kinds f
  unfolding rows keep
  top_children p nil h g = refl
  top_children p (node a ks fs) h g = rw (
    h,
    keep_append (child n) (rows number (a.number ∷ p) ks) (rows number p fs),
    no_children (a.number ∷ p) ks (refuted (eqb a.number n) (λ e. g (row a p) (self refl) (eqb-true _ n e))) (λ r m. g r (inner m)),
    top_children p fs h (λ r m. g r (later m)),
  )

  keep_children : (b : Node) (js fs : Document) (p : List ℕ) → leads n p ≡ false
      → keep (child n) (rows number p (node b js fs)) ≡ keep (child n) (rows number (b.number ∷ p) js) ++ keep (child n) (rows number p fs)
  unfolding rows keep
  keep_children b js fs p h = rw h (keep_append (child n) (rows number (b.number ∷ p) js) (rows number p fs))

  -- where numbers are distinct: n on top is not below or beside, n below is not beside
  module _ (b : Node) (js fs : Document) (p : List ℕ) (u : distinct (numbers (rows number p (node b js fs))) ≡ true) where
    abbrev upper : List Line
    upper = row b p ∷ rows number (b.number ∷ p) js

    upper_distinct : distinct (numbers upper) ≡ true
    unfolding rows
    upper_distinct = distinct_left line_number upper (rows number p fs) u

    beside_distinct : distinct (numbers (rows number p fs)) ≡ true
    unfolding rows
    beside_distinct = distinct_right line_number upper (rows number p fs) u

    not_below : (r : Line) → In number r (b.number ∷ p) js → r.it.number ≡ b.number → ⊥
    not_below r m e = head_apart line_number (row b p) (rows number (b.number ∷ p) js) upper_distinct (to_rows number m) e

    not_beside : (r s : Line) → Memᴰ r upper → In number s p fs → r.it.number ≡ s.it.number → ⊥
    unfolding rows
    not_beside r s i j e = distinct_apart line_number upper (rows number p fs) u i (to_rows number j) e

  -- the lines of n's children are the topmost nodes below it
  pub children_kinds : {a : Node} {ks : Document} (p : List ℕ) {f : Document} → HasNode a ks f → a.number ≡ n → leads n p ≡ false
      → distinct (numbers (rows number p f)) ≡ true → kinds (keep (child n) (rows number p f)) ≡ top_kinds ks
  children_kinds {a} {ks} p (at_top {fs = fs}) e h u =
      rw (
        keep_children a ks fs p h,
        no_children p fs h (λ r m i. not_beside a ks fs p u (row a p) r (Memᴰ.head refl) m (e ∙ sym i)),
        append-nil (keep (child n) (rows number (a.number ∷ p) ks)),
      )
      (top_children (a.number ∷ p) ks (eq-eqb a.number n e) (λ r m i. not_below a ks fs p u r m (i ∙ sym e)))
  children_kinds {a} {ks} p (below {b = b} {js = js} {fs = fs} m) e h u =
      let i = node_line (b.number ∷ p) m in
      rw (
        keep_children b js fs p h,
        no_children p fs h (λ r o q. not_beside b js fs p u (row a i.0) r (Memᴰ.tail (to_rows number i.1)) o (e ∙ sym q)),
        append-nil (keep (child n) (rows number (b.number ∷ p) js)),
      )
      (children_kinds (b.number ∷ p) m e (refuted (eqb b.number n)
      (λ q. not_below b js fs p u (row a i.0) i.1 (e ∙ sym (eqb-true _ n q))))
      (head_new line_number (row b p) (rows number (b.number ∷ p) js) (upper_distinct b js fs p u)).1)
  children_kinds {a} {ks} p (beside {b = b} {js = js} {fs = fs} m) e h u =
      let i = node_line p m in
      rw (
        keep_children b js fs p h,
        no_children (b.number ∷ p) js (refuted (eqb b.number n) (λ q. not_beside b js fs p u (row b p) (row a i.0)
            (Memᴰ.head refl) i.1
            (eqb-true _ n q ∙ sym e)))
            (λ r o q. not_beside b js fs p u r (row a i.0) (Memᴰ.tail (to_rows number o)) i.1 (q ∙ sym e)),
      )
      (children_kinds p m e h (beside_distinct b js fs p u))
