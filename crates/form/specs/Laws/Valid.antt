-- What the form asks of a tree is kept by every change that a call makes.
use Rattle.std.specs.Prelude.{◌≡◌, refl, ℕ, zero, suc, ◌≤◌, Bool, true, false, cond, ◌&&◌, List, [], ◌∷◌, eqb, leb}
use Rattle.std.proofs.Common.{◌∙◌, arith, le-leb, leb-true, eqb-true, eq-eqb}
use Rattle.tree.specs.Forest.{nil, node, Row, row, amend, view, place, put}
use Rattle.tree.specs.Content.{document_kind, element_kind, text_kind, between}
use Rattle.tree.specs.Document.{Node}
use Rattle.tree.specs.Laws.Tests.{and_left, and_right}
use Rattle.locks.specs.Needs.{Lock}
use Rattle.protocol.specs.State.{nobody, Marked, Tree, written_by, deleted_by, inserted_by, granted_to, writer_of, Update, update_without}
use Rattle.protocol.specs.State.{unwritten, wrote, saving, without, lasting, undone, mark}
use Rattle.form.specs.Form.{in_range, valid, valid_document, valid_tree}
use Rattle.form.specs.Laws.Rows.{and_of, between_of, between_low, between_high, all_valid, tree_valid, valid_root}

-- nodes ------------------------------------------------------------------------------------

-- kind, writer, inserter and deleter in range
abbrev pub InRange : ℕ → ℕ → ℕ → Marked → Type 0
InRange low high most a =
    (low ≤ a.now.kind) × (a.now.kind ≤ high) × (writer_of a.update ≤ 16) × (a.inserter ≤ most) × (a.deleter ≤ most)

in_range_is : (low high most : ℕ) (a : Marked) → in_range low high most a ≡ true → InRange low high most a
unfolding in_range
in_range_is low high most a h =
    let k : between low high a.now.kind ≡ true = and_left (between low high a.now.kind) _ h in
    let m : (leb (writer_of a.update) 16 && (leb a.inserter most && leb a.deleter most)) ≡ true =
    and_right (between low high a.now.kind) _ h in
    let n : (leb a.inserter most && leb a.deleter most) ≡ true = and_right (leb (writer_of a.update) 16) _ m in (
      between_low low high a.now.kind k,
      between_high low high a.now.kind k,
      leb-true (writer_of a.update) 16 (and_left (leb (writer_of a.update) 16) _ m),
      leb-true a.inserter most (and_left (leb a.inserter most) _ n),
      leb-true a.deleter most (and_right (leb a.inserter most) _ n),
    )

is_in_range : (low high most : ℕ) (a : Marked) → InRange low high most a → in_range low high most a ≡ true
unfolding in_range
is_in_range low high most a h =
    and_of (between_of low high a.now.kind h.0 h.1)
    (and_of (le-leb (writer_of a.update) 16 h.2) (and_of (le-leb a.inserter most h.3) (le-leb a.deleter most h.4)))

-- what the form asks of a node below the document
abbrev pub Valid : Marked → Type 0
Valid a = InRange element_kind text_kind 16 a

-- and of the document
pub record FineDocument (a : Marked) : Type 0 where
  pub kind : a.now.kind ≡ document_kind
  pub number : a.now.number ≡ 0
  pub writer : writer_of a.update ≤ 16
  pub inserter : a.inserter ≡ nobody
  pub deleter : a.deleter ≡ nobody

fine : {a : Marked} → InRange document_kind document_kind nobody a → a.now.number ≡ 0 → FineDocument a
fine h n = record {
  kind = omega (arith, h.0, h.1);
  number = n;
  writer = h.2;
  inserter = omega (arith, h.3);
  deleter = omega (arith, h.4);
}

fine_range : {a : Marked} → FineDocument a → InRange document_kind document_kind nobody a
fine_range d = (omega (arith, d.kind), omega (arith, d.kind), d.writer, omega (arith, d.inserter), omega (arith, d.deleter))

-- changes of a node --------------------------------------------------------------------------

-- a change that keeps what the form asks of a node, be it the document or not
pub record Keeps (g : Marked → Marked) : Type 0 where
  pub range : (low high most : ℕ) (a : Marked) → InRange low high most a → InRange low high most (g a)
  pub number : (a : Marked) → (g a).now.number ≡ a.now.number

module _ {g : Marked → Marked} (k : Keeps g) where
  pub keeps_node : (a : Marked) → Valid a → Valid (g a)
  keeps_node a h = k.range element_kind text_kind 16 a h

  pub keeps_document : (a : Marked) → FineDocument a → FineDocument (g a)
  keeps_document a d = fine (k.range document_kind document_kind nobody a (fine_range d)) (k.number a ∙ d.number)

without_small : (t u most : ℕ) → u ≤ most → without t u ≤ most
without_small t u most h = go (eqb u t)
  where
    go : (b : Bool) → cond b nobody u ≤ most
    go true = omega arith
    go false = h

update_small : (t : ℕ) (u : Update) → writer_of u ≤ 16 → writer_of (update_without t u) ≤ 16
update_small t u h = go (eqb (writer_of u) t)
  where
    go : (b : Bool) → writer_of (cond b unwritten u) ≤ 16
    go true = omega arith
    go false = h

saving_small : (t level : ℕ) (b : List ℕ) (u : Update) → t ≤ 16 → writer_of (saving t level b u) ≤ 16
saving_small t level b unwritten l = l
saving_small t level b (wrote u i saved deeper) l = l

pub keeps_written : (t level : ℕ) (b : List ℕ) → t ≤ 16 → Keeps (written_by t level b)
keeps_written t level b l = record {
  range = λ low high most a h. (h.0, h.1, saving_small t level a.now.content a.update l, h.3, h.4);
  number = λ a. refl;
}

pub keeps_granted : (t : ℕ) (ls : List Lock) → Keeps (granted_to t ls)
keeps_granted t ls = record { range = λ low high most a h. h; number = λ a. refl }

pub keeps_lasting : (k t : ℕ) → Keeps (lasting k t)
keeps_lasting k t = record {
  range = λ low high most a h. (h.0, h.1, update_small t a.update h.2, without_small t a.inserter most h.3, h.4);
  number = λ a. refl;
}

pub keeps_undone : (t : ℕ) → Keeps (undone t)
keeps_undone t = record {
  range = λ low high most a h. (h.0, h.1, update_small t a.update h.2, h.3, without_small t a.deleter most h.4);
  number = λ a. refl;
}

pub valid_deleted : (t level : ℕ) → t ≤ 16 → (a : Marked) → Valid a → Valid (deleted_by t level a)
valid_deleted t level l a h = (h.0, h.1, h.2, h.3, l)

pub valid_inserted : (t level : ℕ) (a : Node) → t ≤ 16 → element_kind ≤ a.kind → a.kind ≤ text_kind → Valid (inserted_by t level a)
valid_inserted t level a l low high = (low, high, omega arith, l, omega arith)

-- changes of a tree ----------------------------------------------------------------------------

all_parts : (a : Marked) (ks fs : Tree) → all_valid (node a ks fs) ≡ true → Valid a × (all_valid ks ≡ true) × (all_valid fs ≡ true)
unfolding all_valid valid
all_parts a ks fs h =
    let p : (valid a && all_valid ks) ≡ true = and_left (valid a && all_valid ks) _ h in
    (in_range_is element_kind text_kind 16 a (and_left (valid a) _ p), and_right (valid a) _ p, and_right (valid a && all_valid ks) _ h)

parts_all : (a : Marked) (ks fs : Tree) → Valid a → all_valid ks ≡ true → all_valid fs ≡ true → all_valid (node a ks fs) ≡ true
unfolding all_valid valid
parts_all a ks fs h k l = and_of (and_of (is_in_range element_kind text_kind 16 a h) k) l

-- a valid tree is a document node with valid nodes below it
pub record Root (f : Tree) : Type 0 where
  pub it : Marked
  pub below : Tree
  pub whole : f ≡ node it below nil
  pub document : FineDocument it
  pub valid : all_valid below ≡ true

pub root_of : (f : Tree) → valid_tree f ≡ true → Root f
unfolding valid_document
root_of f h =
    let r = valid_root f h in
    let a = r.0 in
    let d = in_range_is document_kind document_kind nobody a (and_left (in_range document_kind document_kind nobody a) _ r.3) in
    record {
      it = a;
      below = r.1;
      whole = r.2;
      document = fine d (eqb-true a.now.number 0 (and_right (in_range document_kind document_kind nobody a) _ r.3));
      valid = r.4;
    }

pub tree_of_root : (a : Marked) (ks : Tree) → FineDocument a → all_valid ks ≡ true → valid_tree (node a ks nil) ≡ true
unfolding valid_document
tree_of_root a ks d k =
    tree_valid a ks (and_of (is_in_range document_kind document_kind nobody a (fine_range d)) (eq-eqb a.now.number 0 d.number)) k

-- nodes anew in the same places
all_amend : (g : Row Marked Marked → Marked) → ((r : Row Marked Marked) → Valid r.it → Valid (g r)) → (up : List Marked) (f : Tree)
    → all_valid f ≡ true → all_valid (amend (λ a. a) g up f) ≡ true
unfolding amend
all_amend g k up nil h = h
all_amend g k up (node a ks fs) h =
    let p = all_parts a ks fs h in
    parts_all (g (row a up)) (amend (λ a. a) g (a ∷ up) ks) (amend (λ a. a) g up fs) (k (row a up) p.0)
    (all_amend g k (a ∷ up) ks p.1)
    (all_amend g k up fs p.2)

pub valid_mark : (g : Row Marked Marked → Marked) → ((r : Row Marked Marked) → Valid r.it → Valid (g r))
    → ((a : Marked) → FineDocument a → FineDocument (g (row a [])))
    → (f : Tree) → valid_tree f ≡ true → valid_tree (mark g f) ≡ true
unfolding amend
valid_mark g k d f h =
    let r = root_of f h in
    rw r.whole (tree_of_root (g (row r.it [])) (amend (λ a. a) g (r.it ∷ []) r.below) (d r.it r.document)
    (all_amend g k (r.it ∷ []) r.below r.valid))

-- the nodes that are shown
all_view : (shown : Marked → Bool) (g : Marked → Marked) → ((a : Marked) → Valid a → Valid (g a)) → (f : Tree) → all_valid f ≡ true
    → all_valid (view shown g f) ≡ true
unfolding view
all_view shown g k nil h = h
all_view shown g k (node a ks fs) h =
    let p = all_parts a ks fs h in
    go (shown a) (k a p.0) (all_view shown g k ks p.1) (all_view shown g k fs p.2)
  where
    go : (b : Bool) → Valid (g a) → all_valid (view shown g ks) ≡ true → all_valid (view shown g fs) ≡ true
        → all_valid (cond b (node (g a) (view shown g ks) (view shown g fs)) (view shown g fs)) ≡ true
    go true u v w = parts_all (g a) (view shown g ks) (view shown g fs) u v w
    go false u v w = w

pub valid_view : (shown : Marked → Bool) (g : Marked → Marked) → Keeps g → ((a : Marked) → FineDocument a → shown a ≡ true) → (f : Tree)
    → valid_tree f ≡ true → valid_tree (view shown g f) ≡ true
unfolding view
valid_view shown g k s f h =
    let r = root_of f h in
    rw (r.whole, s r.it r.document)
    (tree_of_root (g r.it) (view shown g r.below) (keeps_document k r.it r.document)
    (all_view shown g (keeps_node k) r.below r.valid))

-- a new node
all_place : (counts : Marked → Bool) (k : ℕ) (new : Marked) (f : Tree) → Valid new → all_valid f ≡ true
    → all_valid (place counts k new f) ≡ true
unfolding place all_valid
all_place counts zero new f n h = parts_all new nil f n refl h
all_place counts (suc zero) new f n h = parts_all new nil f n refl h
all_place counts (suc (suc k)) new nil n h = parts_all new nil nil n refl refl
all_place counts (suc (suc k)) new (node a ks fs) n h =
    let p = all_parts a ks fs h in
    parts_all a ks (cond (counts a) (place counts (suc k) new fs) (place counts (suc (suc k)) new fs)) p.0 p.1
    (go (counts a) (all_place counts (suc k) new fs n p.2) (all_place counts (suc (suc k)) new fs n p.2))
  where
    go : (b : Bool) → all_valid (place counts (suc k) new fs) ≡ true → all_valid (place counts (suc (suc k)) new fs) ≡ true
        → all_valid (cond b (place counts (suc k) new fs) (place counts (suc (suc k)) new fs)) ≡ true
    go true u v = u
    go false u v = v

module _ (parent counts : Marked → Bool) (k : ℕ) (new : Marked) (n : Valid new) where
  all_children : (b : Bool) (ks : Tree) → all_valid ks ≡ true → all_valid (cond b (place counts k new ks) ks) ≡ true
  all_children true ks h = all_place counts k new ks n h
  all_children false ks h = h

  all_put : (f : Tree) → all_valid f ≡ true → all_valid (put parent counts k new f) ≡ true
  unfolding put
  all_put nil h = h
  all_put (node a ks fs) h =
      let p = all_parts a ks fs h in
      parts_all a (cond (parent a) (place counts k new (put parent counts k new ks)) (put parent counts k new ks))
      (put parent counts k new fs) p.0
      (all_children (parent a) (put parent counts k new ks) (all_put ks p.1)) (all_put fs p.2)

  pub valid_put : (f : Tree) → valid_tree f ≡ true → valid_tree (put parent counts k new f) ≡ true
  unfolding put
  valid_put f h =
      let r = root_of f h in
      let ks : Tree = put parent counts k new r.below in
      rw r.whole (tree_of_root r.it (cond (parent r.it) (place counts k new ks) ks) r.document
      (all_children (parent r.it) ks (all_put r.below r.valid)))
