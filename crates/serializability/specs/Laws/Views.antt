-- What a step sees of a document, and what an edit leaves of that.
use Rattle.std.specs.Prelude.{ℕ, ◌≡◌, Bool, true, false}
use mathlib.Core.List.{[], map}
use Rattle.tree.specs.Lists.{has}
use Rattle.tree.specs.Forest.{row}
use Rattle.tree.specs.Document.{Document, Line, is, child, in_subtree, select, here}
use Rattle.tree.specs.Steps.{Step, T, C, R, U, D, I, TT, RR, UU, target, inserts, fits, answer, with_content}
use Rattle.tree.specs.Plain.{touches}
use Rattle.locks.specs.Needs.{needs}

-- a line without its content
abbrev pub shape : Line → Line
shape r = row (with_content r.it []) r.above

-- the lines that pass a test are the same in d and e: without their contents, or whole
abbrev pub Shapes : (Line → Bool) → Document → Document → Type 0
Shapes t d e = map shape (select t e) ≡ map shape (select t d)

abbrev pub Whole : (Line → Bool) → Document → Document → Type 0
Whole t d e = select t e ≡ select t d

-- what a step sees ------------------------------------------------------------------------

-- how far a step sees from its node
pub data Reach : Type 0 where
  itself children subtree : Reach

abbrev pub within : Reach → ℕ → Line → Bool
within itself n r = is n r
within children n r = child n r
within subtree n r = in_subtree n r

abbrev pub reach : Step → Reach
reach (T n) = itself
reach (C n k) = children
reach (R n) = itself
reach (U n b) = itself
reach (D n) = itself
reach (I m kind b n k) = children
reach (TT n) = subtree
reach (RR n) = subtree
reach (UU n a b) = subtree

-- it sees contents too
abbrev pub reads : Step → Bool
reads (T n) = false
reads (C n k) = false
reads (R n) = true
reads (U n b) = false
reads (D n) = false
reads (I m kind b n k) = false
reads (TT n) = false
reads (RR n) = true
reads (UU n a b) = true

-- all that a step sees is the same in d and e
pub record Views (s : Step) (d e : Document) : Type 0 where
  pub node : Shapes (is (target s)) d e
  pub lines : Shapes (within (reach s) (target s)) d e
  pub contents : reads s ≡ true → Whole (within (reach s) (target s)) d e
  pub absent : (m : ℕ) → has m (inserts s) ≡ true → here m e ≡ here m d

-- the step fits, is answered, needs locks and touches nodes in e as in d
pub record Same (s : Step) (d e : Document) : Type 0 where
  pub fit : fits s e ≡ fits s d
  pub says : answer s e ≡ answer s d
  pub need : needs s e ≡ needs s d
  pub touched : touches s e ≡ touches s d

-- new contents: nothing but contents changes; nothing at all where no line is rewritten -------

-- a test of numbers alone
abbrev pub ByNumber : (Line → Bool) → Type 0
ByNumber u = (r s : Line) → r.it.number ≡ s.it.number → r.above ≡ s.above → u r ≡ u s
