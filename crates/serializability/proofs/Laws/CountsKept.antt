-- The counts that nodes bear stay with every step, abort and call on parts, and a commit counts the nodes that it touched, as the plain run
-- does.
use Rattle.std.specs.Prelude.{ℕ, suc, ◌+◌, ◌≡◌, refl, Bool, true, cond, not, List, [], ◌∷◌, ◌++◌, map, length, eqb}
use Rattle.std.proofs.Common.{sym, ap, ◌∙◌, ⊎_elim, arith}
use Rattle.tree.specs.Document.{Document}
use Rattle.tree.specs.Steps.{Step}
use Rattle.tree.specs.Plain.{Operation, left_of, told}
use Rattle.tree.specs.Counts.{Counts, counts_from, counts_after, counted}
use Rattle.tree.specs.Laws.Tests.{or_left, and_left}
use Rattle.locks.specs.Needs.{Lock}
use Rattle.protocol.specs.State.{nobody, Marked, Tree, seen_by, touched_by, lasting, undone, mark, part_undone, part_joined, commit_tree}
use Rattle.protocol.specs.State.{abort_tree, undo_tree, join_tree}
use Rattle.protocol.specs.History.{Log}
use Rattle.serializability.proofs.Laws.Tests.{by_test}
use Rattle.serializability.proofs.Laws.Parts.{Entry}
use Rattle.serializability.proofs.Laws.Runs.{Run, run_split, touched_in}
use Rattle.serializability.proofs.Laws.Levels.{whole_log}
use Rattle.serializability.proofs.Laws.PlainRun.{follows, steps_of_each, whole_logs}
use Rattle.serializability.proofs.Laws.Shown.{Place, Inside}
use Rattle.serializability.proofs.Laws.Numbers.{number_of, in_part, in_mark}
use Rattle.serializability.proofs.Laws.PartMarks.{undone_marks}
use Rattle.serializability.proofs.Laws.Granting.{after_step, act_places, step_place}

-- the plain run ------------------------------------------------------------------------------------

-- the plain run's counts for the committed transactions of a log
abbrev pub counts_of : Log Entry → Counts
counts_of L = counts_after L.initial (steps_of_each L.committed)

-- with one more transaction, l, behind ls: it is the m-th commit
pub counts_last : (k : ℕ) (d : Document) (c : Counts) (ls : List (List (Operation Entry))) (l : List (Operation Entry)) (e h : Document)
    → Run d (whole_logs ls) e → Run e (whole_log l) h → (m : ℕ) → m ≡ k + length ls → (n : ℕ)
    → counts_from k d c (steps_of_each (ls ++ (l ∷ []))) n ≡ cond (touched_in (whole_log l) n) m (counts_from k d c (steps_of_each ls) n)
unfolding counts_from
counts_last k d c [] l e h r s m q n = let z : m ≡ k = omega arith in rw ((follows d l h (rw r s)).touched n, z)
counts_last k d c (x ∷ ls) l e h r s m q n =
    let g = run_split d (whole_log x) (whole_logs ls) e r in
    rw ((follows d x g.0 g.1).document, counts_from)
    (counts_last (suc k) g.0 (counted k (left_of d (map (told (λ y. y.step)) x)).touched c) ls l e h g.2 s m (omega arith) n)

-- the tree -----------------------------------------------------------------------------------------

-- each node that no open transaction inserted bears this count
abbrev pub Counted : Counts → Tree → Type 0
Counted c f = (r : Place) → Inside r f → r.it.inserter ≡ nobody → r.it.count ≡ c (number_of r)

pub step_counted : (c : Counts) (t d : ℕ) → (t ≡ nobody → ⊥) → (s : Step) (ls : List Lock) (f : Tree) → Counted c f
    → Counted c (after_step t d s ls f)
step_counted c t d nz s ls f k r i e =
    let a = step_place t d s ls f r i in
    let o : a.0.it.inserter ≡ nobody = rw a.2 at e in
    rw a.2 (⊎_elim (λ w. w.count ∙ k w.place w.inside (sym w.inserter ∙ o) ∙ ap c (sym w.number))
    (λ w. absurd (nz (sym w.inserter ∙ o))) (act_places t d s f a.0 a.1))

pub abort_counted : (c : Counts) (t : ℕ) (f : Tree) → Counted c f → Counted c (abort_tree t f)
unfolding abort_tree
abort_counted c t f k r i e =
    let a = in_part (λ x. not (eqb x.inserter t)) (undone t) f i in
    rw a.3 (k a.0 a.1 (rw a.3 at e))

-- the n-th commit is that of t, which touched these nodes of those that it did not delete
pub commit_counted : (c : Counts) (n t : ℕ) (touched : ℕ → Bool) (f : Tree)
    → ((r : Place) → Inside r f → seen_by t r.it ≡ true → touched_by t r.it ≡ touched (number_of r)) → Counted c f
    → Counted (λ m. cond (touched m) n (c m)) (commit_tree n t f)
unfolding commit_tree
commit_counted c n t touched f h k r i e =
    let a = in_part (seen_by t) (lasting n t) f i in
    let s = a.0.it in
    rw (a.3, ← h a.0 a.1 (and_left _ _ a.2)) (by_test (touched_by t s) (λ x. rw x)
    (λ x. rw x (k a.0 a.1 (rw (a.3, or_left (eqb s.inserter t) _ x) at e))))

-- other marks, with the same number, inserter and count
marked_counted : (c : Counts) (g : Marked → Marked) → ((a : Marked) → (g a).now.number ≡ a.now.number)
    → ((a : Marked) → (g a).inserter ≡ a.inserter) → ((a : Marked) → (g a).count ≡ a.count) → (f : Tree) → Counted c f
    → Counted c (mark (λ r. g r.it) f)
marked_counted c g n h k f m r i e =
    let a = in_mark (λ r. g r.it) f i in
    let s = a.0.it in
    rw a.2 (k s ∙ m a.0 a.1 (sym (h s) ∙ (rw a.2 at e)) ∙ ap c (sym (n s)))

pub undo_counted : (c : Counts) (t d : ℕ) (f : Tree) → Counted c f → Counted c (undo_tree t d f)
unfolding undo_tree
undo_counted c t d f k = marked_counted c (part_undone t d) (λ a. (undone_marks t d a).number) (λ a. (undone_marks t d a).inserter)
    (λ a. (undone_marks t d a).count) f k

pub join_counted : (c : Counts) (t d : ℕ) (f : Tree) → Counted c f → Counted c (join_tree t d f)
unfolding join_tree
join_counted c t d f k = marked_counted c (part_joined t d) (λ a. refl) (λ a. refl) (λ a. refl) f k
