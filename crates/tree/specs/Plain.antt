-- The plain run of transactions, one after another, each by its granted steps and calls on parts: document 01, "The plain run", and
-- document 02, A.8.
use Rattle.std.specs.Prelude.{ℕ, cond, List, [], ◌∷◌, ◌++◌}
use Rattle.tree.specs.Lists.{keep}
use Rattle.tree.specs.Document.{Document, in_subtree, select, numbers}
use Rattle.tree.specs.Steps.{Step, T, C, R, U, D, I, TT, RR, UU, named, fits, PlainAnswer, plain_answer, plain_after}

-- the nodes that a step inserts or whose content it updates, "an update with the same bytes included"
abbrev pub touches : Step → Document → List ℕ
touches (T n) d = []
touches (C n k) d = []
touches (R n) d = []
touches (U n b) d = n ∷ []
touches (D n) d = []
touches (I m kind b n k) d = m ∷ []
touches (TT n) d = []
touches (RR n) d = []
touches (UU n a b) d = numbers (keep (named a) (select (in_subtree n) d))

-- a step that the plain rules do not allow touches nothing
abbrev pub plain_touches : Step → Document → List ℕ
plain_touches s d = cond (fits s d) (touches s d) []

-- operations ---------------------------------------------------------------------------

-- what a transaction is granted: a step, of which E is what is told of it, or a call on parts: a part is opened within what is open,
-- closed, "which joins it to what surrounds it", or undone
pub data Operation (E : Type 0) : Type 0 where
  does : (x : E) → Operation E
  opens : Operation E
  closes : Operation E
  undoes : Operation E

-- the steps among them, in order; those of undone parts too
abbrev pub steps_in : {E : Type 0} → List (Operation E) → List E
steps_in [] = []
steps_in (does x ∷ l) = x ∷ steps_in l
steps_in (opens ∷ l) = steps_in l
steps_in (closes ∷ l) = steps_in l
steps_in (undoes ∷ l) = steps_in l

-- the same operation, with what g makes of what is told of a step
abbrev pub told : {E F : Type 0} → (E → F) → Operation E → Operation F
told g (does x) = does (g x)
told g opens = opens
told g closes = closes
told g undoes = undoes

-- one transaction ------------------------------------------------------------------------

-- what a transaction has made so far: the document, and the nodes that it touched, for the counts of A.7
pub record Work : Type 0 where
  pub document : Document
  pub touched : List ℕ

-- that, and what it had made at the openings of the parts that are open, the last first
pub record Progress : Type 0 where
  pub now : Work
  pub openings : List Work

abbrev pub before_all : Document → Progress
before_all d = record { now = record { document = d; touched = [] }; openings = [] }

-- the opening that an undo goes back to; without a part there is none, and an undo changes nothing
abbrev pub last_opening : Work → List Work → Work
last_opening now [] = now
last_opening now (o ∷ os) = o

abbrev pub other_openings : List Work → List Work
other_openings [] = []
other_openings (o ∷ os) = os

abbrev pub plain_operation : Operation Step → Progress → Progress
plain_operation (does s) p = record {
  now = record {
    document = plain_after s p.now.document;
    touched = p.now.touched ++ plain_touches s p.now.document;
  };
  openings = p.openings;
}
plain_operation opens p = record { now = p.now; openings = p.now ∷ p.openings }
plain_operation closes p = record { now = p.now; openings = other_openings p.openings }
plain_operation undoes p = record { now = last_opening p.now p.openings; openings = other_openings p.openings }

unfoldable pub progress_after : Progress → List (Operation Step) → Progress
progress_after p [] = p
progress_after p (o ∷ os) = progress_after (plain_operation o p) os

-- "answers inside an undone part count too"; calls on parts answer nothing but that they are done
unfoldable pub answers_after : Progress → List (Operation Step) → List PlainAnswer
answers_after p [] = []
answers_after p (does s ∷ os) = plain_answer s p.now.document ∷ answers_after (plain_operation (does s) p) os
answers_after p (opens ∷ os) = answers_after (plain_operation opens p) os
answers_after p (closes ∷ os) = answers_after (plain_operation closes p) os
answers_after p (undoes ∷ os) = answers_after (plain_operation undoes p) os

-- what a transaction leaves of d: "commit closes open parts"
abbrev pub left_of : Document → List (Operation Step) → Work
left_of d l = (progress_after (before_all d) l).now

-- the plain run ----------------------------------------------------------------------------

-- transactions in order: the document that they leave, and the answers to their steps
unfoldable pub plain_document : Document → List (List (Operation Step)) → Document
plain_document d [] = d
plain_document d (l ∷ ls) = plain_document (left_of d l).document ls

unfoldable pub plain_answers : Document → List (List (Operation Step)) → List PlainAnswer
plain_answers d [] = []
plain_answers d (l ∷ ls) = answers_after (before_all d) l ++ plain_answers (left_of d l).document ls
