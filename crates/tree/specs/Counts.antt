-- The counts of commits on a plain document: document 02, A.7. They stand beside the document: `with_counts` puts the two together.
use Rattle.std.specs.Prelude.{ℕ, suc, true, cond, List, [], ◌∷◌}
use Rattle.tree.specs.Lists.{has}
use Rattle.tree.specs.Forest.{Forest, view}
use Rattle.tree.specs.Document.{Node, Document}
use Rattle.tree.specs.Steps.{Step}
use Rattle.tree.specs.Plain.{Operation, left_of}

-- counts by node number; that of a number which the document lacks is never asked for
abbrev pub Counts : Type 0
Counts = ℕ → ℕ

-- "a loaded node and the document bear 0"
abbrev pub zero_counts : Counts
zero_counts n = 0

-- the k-th commit touched these nodes: they bear its count, the others what they bore before
abbrev pub counted : ℕ → List ℕ → Counts → Counts
counted k touched c n = cond (has n touched) k (c n)

-- "each committed node bears the count of the commit that inserted it or last updated its content": transactions one after another, each
-- by its operations, the first of them the k-th commit; d is the document before them, and c its counts
unfoldable pub counts_from : ℕ → Document → Counts → List (List (Operation Step)) → Counts
counts_from k d c [] = c
counts_from k d c (l ∷ ls) = counts_from (suc k) (left_of d l).document (counted k (left_of d l).touched c) ls

-- "commits .. count from 1"
abbrev pub counts_after : Document → List (List (Operation Step)) → Counts
counts_after d ls = counts_from 1 d zero_counts ls

-- documents with counts ----------------------------------------------------------------

-- a node with the count that it bears
pub record CountedNode : Type 0 where
  pub node : Node
  pub count : ℕ

-- a document whose nodes bear counts: two are equal only if the counts agree as well
abbrev pub CountedDocument : Type 0
CountedDocument = Forest CountedNode

abbrev pub with_counts : Counts → Document → CountedDocument
with_counts c d = view (λ a. true) (λ a. record { node = a; count = c a.number }) d

abbrev pub without_counts : CountedDocument → Document
without_counts d = view (λ a. true) (λ a. a.node) d
