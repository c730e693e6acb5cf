-- The steps by what they do to the document, and what the table of clashes keeps apart.
use Rattle.std.specs.Prelude.{ℕ, ◌≡◌, refl, Bool, true, false, ◌&&◌, List, [], ◌∷◌}
use Rattle.std.proofs.lemmas.Bool.{false≢true}
use Rattle.tree.specs.Lists.{has}
use Rattle.tree.specs.Document.{Document, Line, is, in_subtree, here}
use Rattle.tree.specs.Steps.{Step, T, C, R, U, D, I, TT, RR, UU, target, inserts, after, named, rewrite}
use Rattle.tree.specs.Laws.Tests.{and_left, and_right}
use Rattle.locks.specs.Modes.{LW, clash}
use Rattle.locks.specs.Needs.{Need, need}
use Rattle.locks.proofs.Laws.Compatible.{clashing, excludes}
use Rattle.serializability.specs.Laws.Views.{Reach, itself, children, subtree, within, reach, reads}

-- steps that give lines new contents
pub data Rewriting : Step → Type 0 where
  update : (n : ℕ) (b : List ℕ) → Rewriting (U n b)
  rename : (n : ℕ) (a b : List ℕ) → Rewriting (UU n a b)

pub data Class : Step → Type 0 where
  reading : {s : Step} → ((d : Document) → after s d ≡ d) → inserts s ≡ [] → Class s
  rewriting : {s : Step} → Rewriting s → Class s
  removing : (n : ℕ) → Class (D n)
  inserting : (m kind : ℕ) (b : List ℕ) (n k : ℕ) → Class (I m kind b n k)

pub class : (s : Step) → Class s
class (T n) = reading (λ d. refl) refl
class (C n k) = reading (λ d. refl) refl
class (R n) = reading (λ d. refl) refl
class (U n b) = rewriting (update n b)
class (D n) = removing n
class (I m kind b n k) = inserting m kind b n k
class (TT n) = reading (λ d. refl) refl
class (RR n) = reading (λ d. refl) refl
class (UU n a b) = rewriting (rename n a b)

-- the lines that get new contents, and which
abbrev pub touched : {s : Step} → Rewriting s → Line → Bool
touched (update n b) r = is n r
touched (rename n a b) r = in_subtree n r && named a r

abbrev pub written : {s : Step} → Rewriting s → List ℕ
written (update n b) = b
written (rename n a b) = b

pub after_rewriting : {s : Step} (w : Rewriting s) (d : Document) → after s d ≡ rewrite (touched w) (written w) d
after_rewriting (update n b) d = refl
after_rewriting (rename n a b) d = refl

-- no line is touched beyond the step's reach
pub touched_within : {s : Step} (w : Rewriting s) (r : Line) → within (reach s) (target s) r ≡ false → touched w r ≡ false
touched_within (update n b) r h = h
touched_within (rename n a b) r h = rw h

pub inserts_none : {s : Step} → Rewriting s → inserts s ≡ []
inserts_none (update n b) = refl
inserts_none (rename n a b) = refl

-- only an insertion inserts a number, and then LW is needed on it
pub new_need : (s : Step) (m : ℕ) → has m (inserts s) ≡ true → (need s).new ≡ LW ∷ []
new_need s m h = go (class s) h
  where
    go : {s : Step} → Class s → has m (inserts s) ≡ true → (need s).new ≡ LW ∷ []
    go (reading a e) i = absurd (false≢true (rw e at i))
    go (rewriting w) i = absurd (false≢true (rw (inserts_none w) at i))
    go (removing n) i = absurd (false≢true i)
    go (inserting m kind b n k) i = refl

-- steps that see or write contents
pub data Contents : Step → Type 0 where
  read : (n : ℕ) → Contents (R n)
  read_all : (n : ℕ) → Contents (RR n)
  write : {s : Step} → Rewriting s → Contents s

pub reads_contents : (s : Step) → reads s ≡ true → Contents s
reads_contents (T n) h = absurd (false≢true h)
reads_contents (C n k) h = absurd (false≢true h)
reads_contents (R n) h = read n
reads_contents (U n b) h = absurd (false≢true h)
reads_contents (D n) h = absurd (false≢true h)
reads_contents (I m kind b n k) h = absurd (false≢true h)
reads_contents (TT n) h = absurd (false≢true h)
reads_contents (RR n) h = read_all n
reads_contents (UU n a b) h = write (rename n a b)

-- the table ---------------------------------------------------------------------------

-- who sees the children of a node keeps them from being removed; who sees its subtree keeps all of it
abbrev pub bars_removal : Reach → Need → Need → Bool
bars_removal itself w v = true
bars_removal children w v = clashing w.node v.parent
bars_removal subtree w v = excludes w.node v

-- and from getting a new one
abbrev pub bars_insertion : Reach → Need → Need → Bool
bars_insertion itself w v = true
bars_insertion children w v = clashing w.node v.node
bars_insertion subtree w v = excludes w.node v

barred : (s : Step) → (bars_removal (reach s) (need s) (need (D 0)) && bars_insertion (reach s) (need s) (need (I 0 0 [] 0 0))) ≡ true
unfolding clash
barred (T n) = refl
barred (C n k) = refl
barred (R n) = refl
barred (U n b) = refl
barred (D n) = refl
barred (I m kind b n k) = refl
barred (TT n) = refl
barred (RR n) = refl
barred (UU n a b) = refl

pub removal_barred : (s : Step) → bars_removal (reach s) (need s) (need (D 0)) ≡ true
removal_barred s = and_left _ _ (barred s)

pub insertion_barred : (s : Step) → bars_insertion (reach s) (need s) (need (I 0 0 [] 0 0)) ≡ true
insertion_barred s = and_right (bars_removal (reach s) (need s) (need (D 0))) _ (barred s)

-- who sees or writes contents keeps them from being written
abbrev pub bars_writing : Reach → Reach → Need → Need → Bool
bars_writing itself itself w v = clashing w.node v.node
bars_writing itself children w v = false
bars_writing itself subtree w v = excludes v.node w
bars_writing children q w v = false
bars_writing subtree itself w v = excludes w.node v
bars_writing subtree children w v = false
bars_writing subtree subtree w v = excludes w.node v && excludes v.node w

pub writing_barred : {s p : Step} → Contents s → Rewriting p → bars_writing (reach s) (reach p) (need s) (need p) ≡ true
unfolding clash
writing_barred (read n) (update x b) = refl
writing_barred (read n) (rename x a b) = refl
writing_barred (read_all n) (update x b) = refl
writing_barred (read_all n) (rename x a b) = refl
writing_barred (write (update n c)) (update x b) = refl
writing_barred (write (update n c)) (rename x a b) = refl
writing_barred (write (rename n c e)) (update x b) = refl
writing_barred (write (rename n c e)) (rename x a b) = refl

-- a step that fits ------------------------------------------------------------------------

-- what a step inserts is not there
abbrev pub Absent : Step → Document → Type 0
Absent s d = (m : ℕ) → has m (inserts s) ≡ true → here m d ≡ false
