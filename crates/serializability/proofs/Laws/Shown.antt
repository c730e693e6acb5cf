-- What a set of transactions shows of the tree after a step, a grant of locks, a commit, an abort and a load.
use Rattle.std.specs.Prelude.{ℕ, ◌≡◌, Bool, ◌&&◌, ◌||◌, leb}
use Rattle.std.proofs.Math.Path.{refl, sym, ap}
use Rattle.std.proofs.Common.{◌∙◌, arith, eqb-true, eq-eqb, ne_eqb, le-leb}
use Rattle.std.proofs.Math.Bool.{true, false, cond, not, or-true, and-true, and-false}
use mathlib.Core.List.{List, [], ◌∷◌, map}
use Rattle.std.proofs.Math.Dec.{eqb}
use Rattle.tree.specs.Lists.{any, every, has}
use Rattle.tree.specs.Forest.{nil, node, Row, row, amend, view, put}
use Rattle.tree.specs.Document.{Node, Document, is, in_subtree}
use Rattle.tree.specs.Steps.{with_content, is_named, named, rewrite, remove}
use Rattle.tree.specs.Laws.Tests.{and_left}
use Rattle.tree.specs.Laws.Lists.{any_map}
use Rattle.tree.specs.Laws.Rows.{In, self, inner, later}
use Rattle.tree.specs.Laws.View.{view_view, view_agree, view_amend}
use Rattle.tree.specs.Laws.PutOrder.{view_put, view_put_hidden}
use Rattle.locks.specs.Needs.{Lock}
use Rattle.serializability.proofs.Laws.Tests.{by_test, cond_same}
use Rattle.protocol.specs.State.{nobody, Marked, Tree, has_number, seen_by, Levels, done_by, shown, content_shown, as_shown, document_of}
use Rattle.protocol.specs.State.{Update, unwritten, wrote, writer_of, saved_of, saved_since, saving, written_by, deleted_by, inserted_by}
use Rattle.protocol.specs.State.{granted_to, update_without, without, lasting, undone, mark, mark_node, renamed, grant, commit_tree}
use Rattle.protocol.specs.State.{abort_tree, tree_of}
use Rattle.serializability.proofs.Laws.OpenLevels.{Falling, content_same, content_all, content_none, content_below}

-- a node held, with the nodes above it
abbrev pub Place : Type 0
Place = Row Marked Marked

-- the place is one of the tree
abbrev pub Inside : Place → Tree → Type 0
Inside r f = In (λ a. a) r [] f

-- the node and those above it
abbrev pub path : Place → List Marked
path r = r.it ∷ r.above

abbrev pub numbers_of : List Marked → List ℕ
numbers_of p = map (λ a. a.now.number) p

-- nobody wrote, or t did, at levels that fall
abbrev pub OwnUpdate : ℕ → Update → Type 0
OwnUpdate t unwritten = Unit {0}
OwnUpdate t (wrote u l saved deeper) = (u ≡ t) × (n : ℕ) × Falling n deeper l

-- u is nobody or t
abbrev pub local : ℕ → ℕ → Bool
local t u = eqb u nobody || eqb u t

-- views of marked trees ------------------------------------------------------------------

-- tests and nodes that agree everywhere
view_same : {B : Type 0} (s s' : Marked → Bool) (g g' : Marked → B) (f : Tree) → ((a : Marked) → s' a ≡ s a)
    → ((a : Marked) → s a ≡ true → g' a ≡ g a) → view s' g' f ≡ view s g f
view_same s s' g g' f h k = view_agree (λ a. a) s s (λ a. refl) s' g g' [] f refl (λ r i e. h r.it)
    (λ r i e. k r.it (and_left (s r.it) (every s r.above) e))

-- a view of a tree with other marks is another view of the tree
pub view_mark : {B : Type 0} (s s' : Marked → Bool) (g g' : Marked → B) (c : Place → Marked) (p : List Marked) (f : Tree)
    → ((r : Place) → In (λ a. a) r p f → s' (c r) ≡ s r.it) → ((r : Place) → In (λ a. a) r p f → s r.it ≡ true → g' (c r) ≡ g r.it)
    → view s' g' (amend (λ a. a) c p f) ≡ view s g f
unfolding view amend
view_mark s s' g g' c p nil h k = refl
view_mark s s' g g' c p (node a ks fs) h k =
    let u = view_mark s s' g g' c (a ∷ p) ks (λ r i. h r (inner i)) (λ r i. k r (inner i)) in
    let v = view_mark s s' g g' c p fs (λ r i. h r (later i)) (λ r i. k r (later i)) in
    rw (h (row a p) (self refl)) (by_test (s a) (λ e. rw (e, k (row a p) (self refl) e, u, v)) (λ e. rw (e, v)))

-- tests of who did what ------------------------------------------------------------------

done_own : (t l : ℕ) (S : Levels) → S t l ≡ true → done_by S t l ≡ true
done_own t l S h = rw h (or-true (eqb t 0))

done_other : (t l : ℕ) (S : Levels) → (t ≡ nobody → ⊥) → S t l ≡ false → done_by S t l ≡ false
done_other t l S nz h = rw (h, ne_eqb t 0 nz)

-- locks are not shown
pub grant_shown : (S : Levels) (t : ℕ) (ls : List Lock) (f : Tree) → document_of S (grant t ls f) ≡ document_of S f
unfolding document_of grant
grant_shown S t ls f = view_mark (shown S) (shown S) (as_shown S) (as_shown S) (λ r. granted_to t ls r.it) [] f (λ r i. refl)
    (λ r i e. refl)

-- t does something at level d
module _ (t d : ℕ) (nz : t ≡ nobody → ⊥) (S : Levels) where
  -- with t: what the plain step does ------------------------------------------------------

  module _ (st : (l : ℕ) → S t l ≡ true) where
    -- what t wrote is shown
    saved_own : (b c : List ℕ) (u : Update) → content_shown S b (saving t d c u) ≡ b
    saved_own b c unwritten = content_all (S t) st b [] d c
    saved_own b c (wrote u l saved deeper) = content_all (S t) st b (cond (saved_since d l deeper) deeper ((d, c) ∷ deeper)) l saved

    -- t wrote b where a test says so, which is a test of what the set shows
    write_shown : (test : Place → Bool) (test' : Row Node ℕ → Bool) (b : List ℕ) (f : Tree)
        → ((r : Place) → Inside r f → every (shown S) (path r) ≡ true → test r ≡ test' (row (as_shown S r.it) (numbers_of r.above)))
        → document_of S (mark (λ r. cond (test r) (written_by t d b r.it) r.it) f) ≡ rewrite test' b (document_of S f)
    unfolding document_of
    write_shown test test' b f h = view_amend (λ a. a) (shown S) (shown S) (λ a. refl) (shown S) (as_shown S) (as_shown S) _
        (λ a. a.number) _ numbers_of
        (λ a q e. refl) [] f refl (λ r i e. cond_same (shown S) (test r) (written_by t d b r.it) r.it refl)
        (λ r i e. rw (h r i e) (words r.it (test' (row (as_shown S r.it) (numbers_of r.above)))))
      where
        words : (a : Marked) (x : Bool) → as_shown S (cond x (written_by t d b a) a) ≡ cond x (with_content (as_shown S a) b) (as_shown S a)
        words a true = ap (with_content a.now) (saved_own b a.now.content a.update)
        words a false = refl

    pub U_shown : (n : ℕ) (b : List ℕ) (f : Tree) → document_of S (mark_node n (written_by t d b) f) ≡ rewrite (is n) b (document_of S f)
    U_shown n b f = write_shown (λ r. has_number n r.it) (is n) b f (λ r i e. refl)

    pub D_shown : (n : ℕ) (f : Tree) → document_of S (mark_node n (deleted_by t d) f) ≡ remove n (document_of S f)
    unfolding document_of
    D_shown n f = view_mark (λ a. shown S a && not (eqb a.now.number n)) (shown S) (as_shown S) (as_shown S) _ [] f
        (λ r i. sight r.it (has_number n r.it)) (λ r i e. cond_same (as_shown S) (has_number n r.it) (deleted_by t d r.it)
        r.it refl)
        ∙ sym (view_view (shown S) (as_shown S) (λ a. not (eqb a.number n)) (λ a. a) f)
      where
        sight : (a : Marked) (x : Bool) → shown S (cond x (deleted_by t d a) a) ≡ (shown S a && not x)
        sight a true = rw (ne_eqb t 0 nz, st d, and-false (shown S a)) (and-false (done_by S a.inserter a.insertion_level))
        sight a false = sym (and-true (shown S a))

    -- among the parent's children t sees those that are shown
    pub I_shown : (n k : ℕ) (new : Node) (f : Tree)
        → ((r : Place) (a : Marked) (p : List Marked) → Inside r f → r.above ≡ a ∷ p → a.now.number ≡ n
        → shown S r.it ≡ seen_by t r.it)
        → document_of S (put (has_number n) (seen_by t) k (inserted_by t d new) f) ≡ put (λ a. eqb a.number n) (λ a. true) k new
        (document_of S f)
    unfolding document_of
    I_shown n k new f h = view_put (has_number n) (seen_by t) k (inserted_by t d new) (shown S) (as_shown S) (λ a. a)
        (λ a. eqb a.number n)
        (λ a. true)
        (rw (done_own t d S (st d))) (λ a e. refl) [] f (λ s r i e j o. sym (h r s.it s.above j o (eqb-true s.it.now.number n e))
        ∙ sym (and-true (shown S r.it)))

    -- in the subtree of n t sees what is shown, with the contents as they are now
    pub UU_shown : (n : ℕ) (a b : List ℕ) (f : Tree) → ((r : Place) → Inside r f → has n (numbers_of (path r)) ≡ true
        → (every (shown S) (path r) ≡ every (seen_by t) (path r)) × (as_shown S r.it ≡ r.it.now))
        → document_of S (mark (λ r. cond (renamed t n a r) (written_by t d b r.it) r.it) f)
        ≡ rewrite (λ r. in_subtree n r && named a r) b (document_of S f)
    UU_shown n a b f h = write_shown (renamed t n a) (λ r. in_subtree n r && named a r) b f
        (λ r i v. ap (λ x. every (seen_by t) (path r) && x && is_named a r.it.now) (numbers (path r)) ∙ test r i v
        (has n (numbers_of (path r))) refl)
      where
        numbers : (p : List Marked) → any (has_number n) p ≡ has n (numbers_of p)
        numbers p = sym (any_map (λ q. eqb q n) (λ x. x.now.number) p)

        -- t sees there what is shown, so its test is the plain one
        test : (r : Place) → Inside r f → every (shown S) (path r) ≡ true → (y : Bool) → has n (numbers_of (path r)) ≡ y
            → (every (seen_by t) (path r) && y && is_named a r.it.now) ≡ (y && is_named a (as_shown S r.it))
        test r i v true e = let q = h r i e in rw (sym q.0 ∙ v) (ap (is_named a) (sym q.1))
        test r i v false e = rw (and-false (every (seen_by t) (path r)))

  -- without what t does at level d and deeper: nothing --------------------------------------

  module _ (st : (l : ℕ) → leb d l ≡ true → S t l ≡ false) where
    hidden : S t d ≡ false
    hidden = st d (le-leb d d (omega arith))

    -- t wrote over what was committed, or over its own
    saved_hidden : (b c : List ℕ) (u : Update) → OwnUpdate t u → content_shown S b (saving t d c u) ≡ content_shown S c u
    saved_hidden b c unwritten h = rw hidden
    saved_hidden b c (wrote u l saved deeper) h = rw h.0 (content_below (S t) d st h.1 c b deeper l saved h.2)

    -- t wrote where a test says so
    pub write_hidden : (test : Place → Bool) (b : List ℕ) (f : Tree)
        → ((r : Place) → Inside r f → test r ≡ true → OwnUpdate t r.it.update)
        → document_of S (mark (λ r. cond (test r) (written_by t d b r.it) r.it) f) ≡ document_of S f
    unfolding document_of
    write_hidden test b f h = view_mark (shown S) (shown S) (as_shown S) (as_shown S) _ [] f
        (λ r i. cond_same (shown S) (test r) (written_by t d b r.it) r.it refl)
        (λ r i e. by_test (test r)
        (λ x. rw x (ap (with_content r.it.now) (saved_hidden b r.it.now.content r.it.update (h r i x)))) (λ x. rw x))

    -- t deleted what nobody had deleted
    pub D_hidden : (n : ℕ) (f : Tree) → ((r : Place) → Inside r f → r.it.now.number ≡ n → r.it.deleter ≡ nobody)
        → document_of S (mark_node n (deleted_by t d) f) ≡ document_of S f
    unfolding document_of
    D_hidden n f h = view_mark (shown S) (shown S) (as_shown S) (as_shown S) _ [] f
        (λ r i. by_test (has_number n r.it) (λ e. rw e (was_shown r.it (h r i (eqb-true _ n e)))) (λ e. rw e))
        (λ r i e. cond_same (as_shown S) (has_number n r.it) (deleted_by t d r.it) r.it refl)
      where
        was_shown : (a : Marked) → a.deleter ≡ nobody → shown S (deleted_by t d a) ≡ shown S a
        was_shown a e = rw (hidden, and-false (not (eqb t 0)), e)

    pub I_hidden : (n k : ℕ) (new : Node) (f : Tree)
        → document_of S (put (has_number n) (seen_by t) k (inserted_by t d new) f) ≡ document_of S f
    unfolding document_of
    I_hidden n k new f = view_put_hidden (has_number n) (seen_by t) k (inserted_by t d new) (shown S) (as_shown S) f
        (rw (done_other t d S nz hidden))

-- the ends of a transaction ----------------------------------------------------------------

abbrev pub plus : ℕ → Levels → Levels
plus t S u l = eqb u t || S u l

abbrev pub minus : ℕ → Levels → Levels
minus t S u l = not (eqb u t) && S u l

-- the writer without t
pub writer_without : (t : ℕ) (u : Update) → writer_of (update_without t u) ≡ without t (writer_of u)
writer_without t u = by_test (eqb (writer_of u) t) (λ e. rw e) (λ e. rw e)

module _ (t : ℕ) (nz : t ≡ nobody → ⊥) (S : Levels) where
  lasting_done : (u l : ℕ) → done_by S (without t u) l ≡ done_by (plus t S) u l
  lasting_done u l = by_test (eqb u t) (λ e. rw e (sym (or-true (eqb u 0)))) (λ e. rw e)

  -- after a commit a set shows what it showed with t
  pub commit_shown : (k : ℕ) (f : Tree) → document_of S (commit_tree k t f) ≡ document_of (plus t S) f
  unfolding document_of commit_tree
  commit_shown k f = view_view (seen_by t) (lasting k t) (shown S) (as_shown S) f ∙ view_same (shown (plus t S)) _
      (as_shown (plus t S)) _ f sight (λ a e. ap (with_content a.now) (words a.now.content a.update))
    where
      words : (b : List ℕ) (u : Update) → content_shown S b (update_without t u) ≡ content_shown (plus t S) b u
      words b unwritten = by_test (eqb nobody t) (λ e. rw e) (λ e. rw e)
      words b (wrote u l saved deeper) = by_test (eqb u t)
          (λ e. rw e (sym (content_all (plus t S u) (λ m. rw e) b deeper l saved)))
          (λ e. rw e (content_same (S u) (plus t S u) (λ m. rw e) b deeper l saved))

      sight : (a : Marked) → (seen_by t a && shown S (lasting k t a)) ≡ shown (plus t S) a
      sight a = rw (lasting_done a.inserter a.insertion_level) (by_test (eqb a.deleter t)
          (λ e. rw (e, eqb-true a.deleter t e, ne_eqb t 0 nz)
          (sym (and-false (done_by (plus t S) a.inserter a.insertion_level)))) (λ e. rw e))

  -- after an abort a set shows what it showed without t
  pub abort_shown : (f : Tree) → document_of S (abort_tree t f) ≡ document_of (minus t S) f
  unfolding document_of abort_tree
  abort_shown f = view_view (λ a. not (eqb a.inserter t)) (undone t) (shown S) (as_shown S) f ∙ view_same (shown (minus t S)) _
      (as_shown (minus t S)) _ f sight (λ a e. ap (with_content a.now) (words a.now.content a.update))
    where
      words : (b : List ℕ) (u : Update)
          → content_shown S (cond (eqb (writer_of u) t) (saved_of u) b) (update_without t u) ≡ content_shown (minus t S) b u
      words b unwritten = rw (ne_eqb nobody t (λ e. nz (sym e)))
      words b (wrote u l saved deeper) = by_test (eqb u t)
          (λ e. rw e (sym (content_none (minus t S u) (λ m. rw e) b deeper l saved)))
          (λ e. rw e (content_same (S u) (minus t S u) (λ m. rw e) b deeper l saved))

      sight : (a : Marked) → (not (eqb a.inserter t) && shown S (undone t a)) ≡ shown (minus t S) a
      sight a = by_test (eqb a.inserter t) (λ e. rw (eqb-true a.inserter t e, ne_eqb t 0 nz, eq-eqb t t refl))
          (λ e. rw e (by_test (eqb a.deleter t) (λ y. rw (y, and-false (not (eqb a.deleter 0)))) (λ y. rw y)))

-- a document without marks is shown to all
pub load_shown : (S : Levels) (d : Document) → document_of S (tree_of d) ≡ d
unfolding document_of tree_of view
load_shown S nil = refl
load_shown S (node a ks fs) = rw (load_shown S ks, load_shown S fs)
