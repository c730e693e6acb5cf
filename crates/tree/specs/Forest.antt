-- One type for every tree, its nodes in document order, and the edits of it.
use Rattle.std.specs.Prelude.{ℕ, zero, suc, Bool, cond, List, [], ◌∷◌, ◌++◌}

-- a node with what is below it, and the siblings that follow it with what is below them
pub data Forest (A : Type 0) : Type 0 where
  nil : Forest A
  node : (a : A) (children following : Forest A) → Forest A

-- a node with its proper ancestors, each by its key, the parent first ("above")
pub record Row (A K : Type 0) : Type 0 where
  pub it : A
  pub above : List K

abbrev pub row : {A K : Type 0} → A → List K → Row A K
row a p = record { it = a; above = p }

module _ {A : Type 0} where
  -- all nodes in document order, each with its proper ancestors' keys; p are those above the whole
  unfoldable pub rows : {K : Type 0} → (A → K) → List K → Forest A → List (Row A K)
  rows key p nil = []
  rows key p (node a ks fs) = row a p ∷ (rows key (key a ∷ p) ks ++ rows key p fs)

  -- other nodes in the same places, each computed from the row that was there
  unfoldable pub amend : {K : Type 0} → (A → K) → (Row A K → A) → List K → Forest A → Forest A
  amend key g p nil = nil
  amend key g p (node a ks fs) = node (g (row a p)) (amend key g (key a ∷ p) ks) (amend key g p fs)

  -- the nodes that are shown, each as g gives it; what is below one that is not shown is not shown
  unfoldable pub view : {B : Type 0} → (A → Bool) → (A → B) → Forest A → Forest B
  view shown g nil = nil
  view shown g (node a ks fs) = cond (shown a) (node (g a) (view shown g ks) (view shown g fs)) (view shown g fs)

  -- a new node among siblings: the k-th, k from 1, of those that pass (0 is read as 1, and past the end is the end)
  unfoldable pub place : (A → Bool) → ℕ → A → Forest A → Forest A
  place counts zero new f = node new nil f
  place counts (suc zero) new f = node new nil f
  place counts (suc (suc k)) new nil = node new nil nil
  place counts (suc (suc k)) new (node a ks fs) =
      node a ks (cond (counts a) (place counts (suc k) new fs) (place counts (suc (suc k)) new fs))

  -- a new node as the k-th child of each node that is the parent
  unfoldable pub put : (A → Bool) → (A → Bool) → ℕ → A → Forest A → Forest A
  put parent counts k new nil = nil
  put parent counts k new (node a ks fs) =
      node a (cond (parent a) (place counts k new (put parent counts k new ks)) (put parent counts k new ks)) (put parent counts k new fs)
