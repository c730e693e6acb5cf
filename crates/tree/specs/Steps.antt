-- The nine steps on a plain document: document 01, "Steps" and "The plain run". Locks, the number of nodes and room in buffers play no
-- part.
use Rattle.std.specs.Prelude.{ℕ, zero, suc, Bool, true, false, cond, not, ◌&&◌, ◌||◌, List, [], ◌∷◌, map, length, eqb, leb}
use Rattle.tree.specs.Lists.{any, keep, same}
use Rattle.tree.specs.Forest.{amend, view, put}
use Rattle.tree.specs.Content.{document_kind, element_kind, is_name, allowed, takes, children_rule, insert_at}
use Rattle.tree.specs.Document.{Node, Document, Line, is, child, in_subtree, select, here, at, numbers, kinds}

pub data Step : Type 0 where
  T : (n : ℕ) → Step
  C : (n k : ℕ) → Step
  R : (n : ℕ) → Step
  U : (n : ℕ) (bytes : List ℕ) → Step
  D : (n : ℕ) → Step
  I : (m kind : ℕ) (bytes : List ℕ) (n k : ℕ) → Step
  TT : (n : ℕ) → Step
  RR : (n : ℕ) → Step
  UU : (n : ℕ) (a b : List ℕ) → Step

-- the node that a step is on; for I the parent
abbrev pub target : Step → ℕ
target (T n) = n
target (C n k) = n
target (R n) = n
target (U n b) = n
target (D n) = n
target (I m kind b n k) = n
target (TT n) = n
target (RR n) = n
target (UU n a b) = n

-- the number of the node that a step inserts
abbrev pub inserts : Step → List ℕ
inserts (T n) = []
inserts (C n k) = []
inserts (R n) = []
inserts (U n b) = []
inserts (D n) = []
inserts (I m kind b n k) = m ∷ []
inserts (TT n) = []
inserts (RR n) = []
inserts (UU n a b) = []

-- what fits --------------------------------------------------------------------

-- cause 8 of a step on a node of this kind: "R, U or D on the document; I where the parent's kind never takes such a child, or the kind is
-- not 2 to 4"
abbrev pub wrong_kind_on : Step → ℕ → Bool
wrong_kind_on (T n) on = false
wrong_kind_on (C n k) on = false
wrong_kind_on (R n) on = eqb on document_kind
wrong_kind_on (U n b) on = eqb on document_kind
wrong_kind_on (D n) on = eqb on document_kind
wrong_kind_on (I m kind b n k) on = not (takes on kind)
wrong_kind_on (TT n) on = false
wrong_kind_on (RR n) on = false
wrong_kind_on (UU n a b) on = false

-- cause 9: "content or name not allowed"
abbrev pub wrong_content_on : Step → ℕ → Bool
wrong_content_on (T n) on = false
wrong_content_on (C n k) on = false
wrong_content_on (R n) on = false
wrong_content_on (U n b) on = not (allowed on b)
wrong_content_on (D n) on = false
wrong_content_on (I m kind b n k) on = not (allowed kind b)
wrong_content_on (TT n) on = false
wrong_content_on (RR n) on = false
wrong_content_on (UU n a b) on = not (is_name a && is_name b)

-- k is a place among these children, and the children rule holds with the new one there
unfoldable pub placed : ℕ → ℕ → ℕ → List ℕ → Bool
placed parent kind k others = leb 1 k && leb k (suc (length others)) && children_rule parent (insert_at k kind others)

-- cause 11, with children of these kinds: "k is 0 or past children + 1, or the children rule would break"
abbrev pub misplaced_on : Step → ℕ → List ℕ → Bool
misplaced_on (T n) on others = false
misplaced_on (C n k) on others = false
misplaced_on (R n) on others = false
misplaced_on (U n b) on others = false
misplaced_on (D n) on others = false
misplaced_on (I m kind b n k) on others = not (placed on kind k others)
misplaced_on (TT n) on others = false
misplaced_on (RR n) on others = false
misplaced_on (UU n a b) on others = false

-- cause 7: "no node so numbered, or the caller deleted it or an ancestor": such a node is not in the caller's document
abbrev pub unknown : Step → Document → Bool
unknown s d = not (here (target s) d)

-- causes 8, 9 and 11 in a document
abbrev pub kind_at : Step → Document → ℕ
kind_at s d = (at (target s) d).it.kind

abbrev pub wrong_kind : Step → Document → Bool
wrong_kind s d = wrong_kind_on s (kind_at s d)

abbrev pub wrong_content : Step → Document → Bool
wrong_content s d = wrong_content_on s (kind_at s d)

abbrev pub misplaced : Step → Document → Bool
misplaced s d = misplaced_on s (kind_at s d) (kinds (select (child (target s)) d))

-- "a number there already"
abbrev pub number_there : Step → Document → Bool
number_there s d = any (λ m. here m d) (inserts s)

-- the plain rules allow the step: not "a node not there, a number there already, a kind or place against the tree's rules", nor a content
-- or name that is not allowed (cause 9, which no granted step has either)
abbrev pub fits : Step → Document → Bool
fits s d = not (unknown s d || wrong_kind s d || wrong_content s d || number_there s d || misplaced s d)

-- answers ------------------------------------------------------------------------

-- the column "Answer", with what is written to lent buffers
pub data Value : Type 0 where
  done : Value
  kind_parent : (kind parent : ℕ) → Value
  child_is : (number kind : ℕ) → Value
  none : Value
  content_is : (bytes : List ℕ) → Value
  numbers_are : (list : List ℕ) → Value
  cells_are : (list : List (ℕ × List ℕ)) → Value
  how_many : (count : ℕ) → Value

abbrev pub kth : ℕ → List Line → Value
kth k [] = none
kth zero (r ∷ rs) = none
kth (suc zero) (r ∷ rs) = child_is r.it.number r.it.kind
kth (suc (suc k)) (r ∷ rs) = kth (suc k) rs

-- 0 for the document
abbrev pub parent : List ℕ → ℕ
parent [] = 0
parent (q ∷ qs) = q

-- an element with this name
abbrev pub is_named : List ℕ → Node → Bool
is_named a x = eqb x.kind element_kind && same a x.content

abbrev pub named : List ℕ → Line → Bool
named a r = is_named a r.it

abbrev pub answer : Step → Document → Value
answer (T n) d = kind_parent (at n d).it.kind (parent (at n d).above)
answer (C n k) d = kth k (select (child n) d)
answer (R n) d = content_is (at n d).it.content
answer (U n b) d = done
answer (D n) d = done
answer (I m kind b n k) d = done
answer (TT n) d = numbers_are (numbers (select (in_subtree n) d))
answer (RR n) d = cells_are (map (λ r. (r.it.number, r.it.content)) (select (in_subtree n) d))
answer (UU n a b) d = how_many (length (keep (named a) (select (in_subtree n) d)))

-- the document afterwards ----------------------------------------------------------

abbrev pub with_content : Node → List ℕ → Node
with_content a b = record { number = a.number; kind = a.kind; content = b }

-- contents anew: for each line that passes, the bytes
abbrev pub rewrite : (Line → Bool) → List ℕ → Document → Document
rewrite t b d = amend (λ a. a.number) (λ r. cond (t r) (with_content r.it b) r.it) [] d

-- n and all below it taken out
abbrev pub remove : ℕ → Document → Document
remove n d = view (λ a. not (eqb a.number n)) (λ a. a) d

abbrev pub after : Step → Document → Document
after (T n) d = d
after (C n k) d = d
after (R n) d = d
after (U n b) d = rewrite (is n) b d
after (D n) d = remove n d
after (I m kind b n k) d = put (λ a. eqb a.number n) (λ a. true) k (record { number = m; kind = kind; content = b }) d
after (TT n) d = d
after (RR n) d = d
after (UU n a b) d = rewrite (λ r. in_subtree n r && named a r) b d

-- the plain run ----------------------------------------------------------------------

-- the plain run's answer to a step: a value, or "unfit" where the plain rules do not allow the step
pub data PlainAnswer : Type 0 where
  plain_value : (value : Value) → PlainAnswer
  unfit : PlainAnswer

-- "a step it doesn't allow .. changes nothing and answers unfit"
abbrev pub plain_answer : Step → Document → PlainAnswer
plain_answer s d = cond (fits s d) (plain_value (answer s d)) unfit

abbrev pub plain_after : Step → Document → Document
plain_after s d = cond (fits s d) (after s d) d
