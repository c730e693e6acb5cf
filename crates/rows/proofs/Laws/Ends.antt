-- A view of a tree is one pass over its rows: commit, abort and the tree of a document are such passes.
use Rattle.std.specs.Prelude.{◌≡◌, refl, ℕ, suc, Bool, true, false, cond, List, [], ◌∷◌, map}
use Rattle.std.proofs.Common.{ap, ◌∙◌}
use Rattle.tree.specs.Forest.{Forest, view}
use Rattle.table.specs.Flat.{flat, second, prune}
use Rattle.protocol.specs.State.{Tree, seen_by, lasting, undone, unmarked, commit_tree, abort_tree, tree_of}
use Rattle.tree.specs.Document.{Document}
use Rattle.rows.proofs.Laws.Passes as passes
use Rattle.rows.specs.Rows.{left_out, not_inserted_by}

-- the rows of a view
pub flat_view : {A : Type 0} (shown : A → Bool) {B : Type 0} (g : A → B) (d : ℕ) (f : Forest A)
    → flat d (view shown g f) ≡ map (second g) (prune shown 0 (flat d f))
flat_view shown g d f = passes.flat_view shown g d f

-- the ends of a transaction, and what a document is loaded as

pub commit_rows : (k t : ℕ) (f : Tree) → flat 0 (commit_tree k t f) ≡ map (second (lasting k t)) (prune (seen_by t) 0 (flat 0 f))
unfolding commit_tree
commit_rows k t f = flat_view (seen_by t) (lasting k t) 0 f

pub abort_rows : (t : ℕ) (f : Tree) → flat 0 (abort_tree t f) ≡ map (second (undone t)) (prune (not_inserted_by t) 0 (flat 0 f))
unfolding abort_tree
abort_rows t f = flat_view (not_inserted_by t) (undone t) 0 f

prune_all : {A : Type 0} (l : List (ℕ × A)) → prune (λ a. true) 0 l ≡ l
unfolding prune
prune_all [] = refl
prune_all (x ∷ l) = ap (λ k. x ∷ k) (prune_all l)

pub load_rows : (d : Document) → flat 0 (tree_of d) ≡ map (second unmarked) (flat 0 d)
unfolding tree_of
load_rows d = flat_view (λ a. true) unmarked 0 d ∙ ap (map (second unmarked)) (prune_all (flat 0 d))

-- a change of all rows before the pass -------------------------------------------------------------

pub prune_map : {A : Type 0} (shown : A → Bool) (h : A → A) → ((a : A) → shown (h a) ≡ shown a) → (below : ℕ) (l : List (ℕ × A))
    → prune shown below (map (second h) l) ≡ map (second h) (prune shown below l)
unfolding prune
prune_map {A} shown h same below [] = refl
prune_map {A} shown h same below (x ∷ l) =
    rw (same x.1) (go (left_out below x.0) (shown x.1) (prune shown below l) (prune shown 0 l) (prune shown (suc x.0) l)
    (prune_map shown h same below l) (prune_map shown h same 0 l) (prune_map shown h same (suc x.0) l))
  where
    go : (b c : Bool) (u v w : List (ℕ × A)) {u' v' w' : List (ℕ × A)} → u' ≡ map (second h) u → v' ≡ map (second h) v
        → w' ≡ map (second h) w
        → cond b u' (cond c (second h x ∷ v') w') ≡ map (second h) (cond b u (cond c (x ∷ v) w))
    go true c u v w p q r = p
    go false true u v w p q r = rw q
    go false false u v w p q r = r
