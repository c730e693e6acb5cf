-- What the table of clashes keeps apart, by what a step sees and does. Serializability rests on these facts about modes.
use Rattle.std.specs.Prelude.{◌≡◌, refl, ℕ, true, List, [], ◌∷◌}
use Rattle.tree.specs.Steps.{Step, T, C, R, U, D, I, TT, RR, UU}
use Rattle.locks.specs.Modes.{Mode, LW, LU, LUU, clash}
use Rattle.locks.specs.Needs.{need}
use Rattle.locks.proofs.Laws.Clash.{every_mode}
use Rattle.locks.proofs.Laws.Compatible.{clashing, excludes}

-- LW, which a deletion needs on its node and an insertion on the new one ----------------------

pub LW_clashes : (a : Mode) → clash a LW ≡ true
unfolding clash
LW_clashes a = every_mode (λ m. clash m LW) refl a

-- no step is on a node with another's LW, or below it
pub LW_excludes : (s : Step) → excludes (LW ∷ []) (need s) ≡ true
unfolding clash
LW_excludes (T n) = refl
LW_excludes (C n k) = refl
LW_excludes (R n) = refl
LW_excludes (U n b) = refl
LW_excludes (D n) = refl
LW_excludes (I m kind b n k) = refl
LW_excludes (TT n) = refl
LW_excludes (RR n) = refl
LW_excludes (UU n a b) = refl

-- children and subtrees ------------------------------------------------------------------------

-- steps that see the children of their node
pub data SeesChildren : Step → Type 0 where
  kth_child : (n k : ℕ) → SeesChildren (C n k)
  new_child : (m kind : ℕ) (b : List ℕ) (n k : ℕ) → SeesChildren (I m kind b n k)

-- no child is deleted (or inserted: an insertion needs on the parent what the deletion of the new node does)
pub children_kept : {s : Step} → SeesChildren s → clashing (need s).node (need (D 0)).parent ≡ true
unfolding clash
children_kept (kth_child n k) = refl
children_kept (new_child m kind b n k) = refl

-- steps that see the subtree of their node
pub data SeesSubtree : Step → Type 0 where
  numbers_below : (n : ℕ) → SeesSubtree (TT n)
  cells_below : (n : ℕ) → SeesSubtree (RR n)
  names_below : (n : ℕ) (a b : List ℕ) → SeesSubtree (UU n a b)

-- nothing in it is deleted (or inserted)
pub subtree_kept : {s : Step} → SeesSubtree s → excludes (need s).node (need (D 0)) ≡ true
unfolding clash
subtree_kept (numbers_below n) = refl
subtree_kept (cells_below n) = refl
subtree_kept (names_below n a b) = refl

-- contents -------------------------------------------------------------------------------------

-- steps that read or write the content of their node, or contents in its subtree
pub data TouchesContent : Step → Type 0 where
  reads : (n : ℕ) → TouchesContent (R n)
  writes : (n : ℕ) (b : List ℕ) → TouchesContent (U n b)

pub data TouchesContents : Step → Type 0 where
  reads_below : (n : ℕ) → TouchesContents (RR n)
  renames_below : (n : ℕ) (a b : List ℕ) → TouchesContents (UU n a b)

-- no UU on the node or above it
pub content_LUU : {s : Step} → TouchesContent s → excludes (LUU ∷ []) (need s) ≡ true
unfolding clash
content_LUU (reads n) = refl
content_LUU (writes n b) = refl

pub contents_LUU : {s : Step} → TouchesContents s → excludes (LUU ∷ []) (need s) ≡ true
unfolding clash
contents_LUU (reads_below n) = refl
contents_LUU (renames_below n a b) = refl

-- no U on the node
pub content_kept : {s : Step} → TouchesContent s → clashing (need s).node (LU ∷ []) ≡ true
unfolding clash
content_kept (reads n) = refl
content_kept (writes n b) = refl

-- no U and no UU in the subtree
pub contents_kept : {s : Step} → TouchesContents s
    → (excludes (need s).node (need (U 0 [])) ≡ true) × (excludes (need s).node (need (UU 0 [] [])) ≡ true)
unfolding clash
contents_kept (reads_below n) = (refl, refl)
contents_kept (renames_below n a b) = (refl, refl)
