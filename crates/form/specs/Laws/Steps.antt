-- What the form asks of a tree is kept by every step and every end, holds of what is loaded, and gives the state that changed bytes hold.
use Rattle.std.specs.Prelude.{◌≡◌, refl, ℕ, zero, suc, ◌≤◌, ◌<◌, Bool, true, false, cond, not, ◌&&◌, List, [], ◌∷◌, ◌++◌, length, eqb}
use Rattle.std.proofs.Common.{sym, ap, ◌∙◌, arith, eqb-true, ne_eqb}
use Rattle.std.proofs.lemmas.Bool.{false≢true, not-false, eqb-false}
use Rattle.tree.specs.Lists.{every}
use Rattle.tree.specs.Forest.{nil, node, Row, row, view}
use Rattle.tree.specs.Content.{document_kind, element_kind, attribute_kind, text_kind, between, allowed, takes, children_rule}
use Rattle.tree.specs.Document.{Node, Document, node_0_alone, top_kinds, ruled, rooted, legal}
use Rattle.tree.specs.Steps.{Step, T, C, R, U, D, I, TT, RR, UU, target, wrong_kind_on}
use Rattle.tree.specs.Laws.Tests.{and_left, and_right}
use Rattle.locks.specs.Needs.{Lock}
use Rattle.protocol.specs.State.{nobody, Marked, Tree, State, has_number, seen_by, written_by, deleted_by, unmarked, inserted_by}
use Rattle.protocol.specs.State.{granted_to, lasting, undone, mark, renamed, act, grant, commit_tree, abort_tree, tree_of, start_state}
use Rattle.protocol.specs.Rings.{AmongOpen}
use Rattle.table.specs.Flat.{flat}
use Rattle.table.specs.Layout.{Entry, Left}
use Rattle.rows.specs.Places.{item, number_of, unique}
use Rattle.rows.proofs.Laws.Find.{unique_head, lacks_at}
use Rattle.form.specs.Form.{in_range, valid, valid_document, valid_below, valid_rows, valid_tree, Holds}
use Rattle.form.specs.Laws.Rows.{and_of, between_low, between_high, all_valid}
use Rattle.form.specs.Laws.Valid.{Valid, FineDocument, keeps_node, keeps_document, keeps_written, keeps_granted, keeps_lasting}
use Rattle.form.specs.Laws.Valid.{keeps_undone, valid_deleted, valid_inserted, root_of, tree_of_root, valid_mark, valid_view}
use Rattle.form.specs.Laws.Valid.{valid_put}

-- bytes that hold a state again ------------------------------------------------------------------

-- after any change
pub holds_left : {s s' : List ℕ} (M : State) → Left s s' M.header (flat 0 M.tree) → unique (flat 0 M.tree) ≡ true
    → valid_tree M.tree ≡ true → AmongOpen M.header → Holds s' M
holds_left M l u f a = record { layout = l.layout; header = l.header; rows = l.nodes; unique = rw l.nodes u; valid = f; sets = a }

-- in terms of the tree
pub holds_unique : {s : List ℕ} {M : State} → Holds s M → unique (flat 0 M.tree) ≡ true
holds_unique h = ap unique (sym h.rows) ∙ h.unique

-- steps --------------------------------------------------------------------------------------------

pub valid_grant : (t : ℕ) (ls : List Lock) (f : Tree) → valid_tree f ≡ true → valid_tree (grant t ls f) ≡ true
unfolding grant
valid_grant t ls f h =
    valid_mark (λ r. granted_to t ls r.it) (λ r k. keeps_node (keeps_granted t ls) r.it k) (keeps_document (keeps_granted t ls)) f h

-- a change of the nodes that pass
valid_some : (test : Row Marked Marked → Bool) (g : Marked → Marked) → ((a : Marked) → Valid a → Valid (g a))
    → ((a : Marked) → FineDocument a → test (row a []) ≡ true → FineDocument (g a))
    → (f : Tree) → valid_tree f ≡ true → valid_tree (mark (λ r. cond (test r) (g r.it) r.it) f) ≡ true
valid_some test g k d f h =
    valid_mark (λ r. cond (test r) (g r.it) r.it) (λ r m. inner (test r) r.it m) (λ a m. top (test (row a [])) a m (d a m)) f h
  where
    inner : (b : Bool) (a : Marked) → Valid a → Valid (cond b (g a) a)
    inner true a m = k a m
    inner false a m = m

    top : (b : Bool) (a : Marked) → FineDocument a → (b ≡ true → FineDocument (g a)) → FineDocument (cond b (g a) a)
    top true a m e = e refl
    top false a m e = m

-- the node that a step is on is the document exactly if it is numbered 0
first_at : (p : ℕ) (a : Marked) (l : List Entry) → FineDocument a → unique ((0, a) ∷ l) ≡ true → p < suc (length l)
    → number_of (item ((0, a) ∷ l) p) ≡ 0
    → (item ((0, a) ∷ l) p).now.kind ≡ document_kind
first_at zero a l d u k e = d.kind
first_at (suc p) a l d u k e = absurd (lacks_at (number_of a) l p (unique_head (0, a) l u).0 (omega arith) (e ∙ sym d.number))

pub is_root : (f : Tree) (p : ℕ) → valid_tree f ≡ true → unique (flat 0 f) ≡ true → p < length (flat 0 f)
    → number_of (item (flat 0 f) p) ≡ 0
    → (item (flat 0 f) p).now.kind ≡ document_kind
unfolding flat
is_root f p h u l e =
    let r = root_of f h in
    let w : flat 0 f ≡ (0, r.it) ∷ (flat 1 r.below ++ []) = ap (flat 0) r.whole in
    rw w (first_at p r.it (flat 1 r.below ++ []) r.document (ap unique (sym w) ∙ u) (rw w at l)
    (ap (λ (z : List Entry). number_of (item z p)) (sym w) ∙ e))

takes_low : (parent kind : ℕ) → takes parent kind ≡ true → between element_kind text_kind kind ≡ true
unfolding takes
takes_low parent kind h = go (eqb parent document_kind) (eqb parent element_kind) (eqb parent attribute_kind) h
  where
    go : (a b c : Bool) → cond a (eqb kind element_kind) (cond b (between element_kind text_kind kind) (c && eqb kind text_kind)) ≡ true
        → between element_kind text_kind kind ≡ true
    go true b c h = rw (eqb-true kind element_kind h)
    go false true c h = h
    go false false c h = rw (eqb-true kind text_kind (and_right c _ h))

-- t is a transaction, and the step finds its node at p, where cause 8 does not apply
pub valid_act : (t level : ℕ) (s : Step) (f : Tree) (p : ℕ) → t ≤ 16 → valid_tree f ≡ true → unique (flat 0 f) ≡ true
    → p < length (flat 0 f) → number_of (item (flat 0 f) p) ≡ target s
    → wrong_kind_on s (item (flat 0 f) p).now.kind ≡ false → valid_tree (act t level s f) ≡ true
valid_act t level (T n) f p l h u k e m = h
valid_act t level (C n i) f p l h u k e m = h
valid_act t level (R n) f p l h u k e m = h
valid_act t level (U n b) f p l h u k e m =
    valid_some (λ r. has_number n r.it) (written_by t level b) (keeps_node (keeps_written t level b l))
    (λ a d v. keeps_document (keeps_written t level b l) a d) f h
valid_act t level (D n) f p l h u k e m = valid_some (λ r. has_number n r.it) (deleted_by t level) (valid_deleted t level l)
    (λ a d v. absurd (eqb-false _ document_kind m (is_root f p h u k (e ∙ sym (eqb-true a.now.number n v) ∙ d.number)))) f h
valid_act t level (I x kind b n i) f p l h u k e m =
    let q : between element_kind text_kind kind ≡ true = takes_low (item (flat 0 f) p).now.kind kind (not-false _ m) in
    let a : Node = record { number = x; kind = kind; content = b } in
    valid_put (has_number n) (seen_by t) i (inserted_by t level a)
    (valid_inserted t level a l (between_low element_kind text_kind kind q) (between_high element_kind text_kind kind q)) f h
valid_act t level (TT n) f p l h u k e m = h
valid_act t level (RR n) f p l h u k e m = h
valid_act t level (UU n a b) f p l h u k e m =
    valid_some (renamed t n a) (written_by t level b) (keeps_node (keeps_written t level b l))
    (λ a d v. keeps_document (keeps_written t level b l) a d) f h

-- ends ------------------------------------------------------------------------------------------------

pub valid_commit : (k t : ℕ) (f : Tree) → 1 ≤ t → valid_tree f ≡ true → valid_tree (commit_tree k t f) ≡ true
unfolding commit_tree
valid_commit k t f l h =
    valid_view (seen_by t) (lasting k t) (keeps_lasting k t) (λ a d. rw (d.deleter, ne_eqb nobody t (λ e. omega arith))) f h

pub valid_abort : (t : ℕ) (f : Tree) → 1 ≤ t → valid_tree f ≡ true → valid_tree (abort_tree t f) ≡ true
unfolding abort_tree
valid_abort t f l h = valid_view (λ a. not (eqb a.inserter t)) (undone t) (keeps_undone t)
    (λ a d. rw (d.inserter, ne_eqb nobody t (λ e. omega arith))) f h

-- what is loaded ----------------------------------------------------------------------------------------

valid_unmarked : (a : Node) → between element_kind text_kind a.kind ≡ true → valid (unmarked a) ≡ true
unfolding valid in_range
valid_unmarked a h = rw h

children_taken : (kind : ℕ) (kinds : List ℕ) → children_rule kind kinds ≡ true → every (takes kind) kinds ≡ true
unfolding children_rule
children_taken kind kinds h = and_left (every (takes kind) kinds) _ h

-- of siblings that their parent's kind takes
all_loaded : (kind : ℕ) (f : Document) → every (takes kind) (top_kinds f) ≡ true → ruled f ≡ true
    → all_valid (view (λ a. true) unmarked f) ≡ true
unfolding view all_valid ruled
all_loaded kind nil k h = refl
all_loaded kind (node a ks fs) k h =
    let rule : Bool = allowed a.kind a.content && children_rule a.kind (top_kinds ks) in
    let p : (rule && ruled ks) ≡ true = and_left (rule && ruled ks) (ruled fs) h in
    let q = and_left rule (ruled ks) p in
    let taken = children_taken a.kind (top_kinds ks) (and_right (allowed a.kind a.content) _ q) in
    and_of
    (and_of
    (valid_unmarked a (takes_low kind a.kind (and_left (takes kind a.kind) _ k)))
    (all_loaded a.kind ks taken (and_right rule _ p)))
    (all_loaded kind fs (and_right (takes kind a.kind) _ k) (and_right (rule && ruled ks) _ h))

loaded_root : (a : Node) (ks : Document) → rooted (node a ks nil) ≡ true → ruled (node a ks nil) ≡ true
    → valid_tree (tree_of (node a ks nil)) ≡ true
unfolding tree_of view ruled
loaded_root a ks r h =
    let p : (allowed a.kind a.content && children_rule a.kind (top_kinds ks) && ruled ks) ≡ true =
    and_left (allowed a.kind a.content && children_rule a.kind (top_kinds ks) && ruled ks) (ruled nil) h in
    let q = and_left (allowed a.kind a.content && children_rule a.kind (top_kinds ks)) (ruled ks) p in
    tree_of_root (unmarked a) (view (λ a. true) unmarked ks)
    (record {
      kind = eqb-true a.kind document_kind (and_right (eqb a.number 0) _ r);
      number = eqb-true a.number 0 (and_left (eqb a.number 0) _ r);
      writer = omega arith;
      inserter = refl;
      deleter = refl;
    })
    (all_loaded a.kind ks (children_taken a.kind (top_kinds ks) (and_right (allowed a.kind a.content) _ q))
    (and_right (allowed a.kind a.content && children_rule a.kind (top_kinds ks)) _ p))

pub valid_load : (d : Document) → legal d ≡ true → valid_tree (tree_of d) ≡ true
unfolding legal
valid_load d h =
    let r : (rooted d && ruled d) ≡ true = and_left (rooted d && ruled d) _ h in
    go d (and_left (rooted d) _ r) (and_right (rooted d) _ r)
  where
    go : (d : Document) → rooted d ≡ true → ruled d ≡ true → valid_tree (tree_of d) ≡ true
    go nil r h = absurd (false≢true r)
    go (node a ks nil) r h = loaded_root a ks r h
    go (node a ks (node b js fs)) r h = absurd (false≢true r)

pub valid_start : valid_tree start_state.tree ≡ true
unfolding tree_of node_0_alone view flat valid_tree valid_rows valid_below valid_document in_range
valid_start = refl
