-- The numbers of a document's nodes after a step: none is there twice, and which are not there.
use Rattle.std.specs.Prelude.{ℕ, ◌+◌, ◌≤◌, ◌≡◌, refl, true, false, Bool, not, length, eqb}
use Rattle.std.proofs.Common.{sym, ap, ◌∙◌, arith, eqb-true, eq-eqb}
use mathlib.Core.List.{List, [], ◌∷◌, map, Memᴰ}
use Rattle.tree.specs.Lists.{has, distinct}
use Rattle.tree.specs.Document.{Document, is, here, some?, Node, Line, lines, in_subtree, numbers}
use Rattle.tree.specs.Steps.{Step, inserts, after, I, fits, remove, rewrite}
use Rattle.tree.specs.Laws.Tests.{or_left, refuted}
use Rattle.tree.specs.Forest.{Forest, Row, row, rows, put}
use Rattle.tree.specs.Laws.Lists.{map_map, keep_none, count}
use Rattle.tree.specs.Laws.Put.{put_kept, put_count}
use Rattle.tree.specs.Laws.Distinct.{distinct_count, count_distinct, distinct_keep}
use Rattle.locks.specs.Modes.{LW, clash}
use Rattle.locks.specs.Needs.{locks}
use Rattle.locks.proofs.Laws.Compatible.{Compatible, AllLocked, new_locked, not_both}
use Rattle.serializability.proofs.Laws.Lines.{not_here, number, line_number, Unique, rewritten, rewritten_number, lines_rewrite}
use Rattle.serializability.proofs.Laws.Lines.{lines_remove, of_lines, insert}
use Rattle.serializability.specs.Laws.Views.{itself}
use Rattle.serializability.proofs.Laws.Views.{within_by_number, rewrite_shapes, shapes_some, remove_whole, insert_whole}
use Rattle.serializability.proofs.Laws.Classes.{Class, reading, rewriting, removing, inserting, class, touched, written}
use Rattle.serializability.proofs.Laws.Classes.{after_rewriting, new_need}
use Rattle.serializability.proofs.Laws.Tests.{by_test}
use Rattle.serializability.proofs.Laws.Kept.{fits_absent}

-- a number that is not there, and that the step does not bring in, is not there afterwards
pub absent_after : (m : ℕ) (p : Step) (d : Document) → has m (inserts p) ≡ false → here m d ≡ false → here m (after p d) ≡ false
absent_after m p d g h = go (class p) g
  where
    go : {p : Step} → Class p → has m (inserts p) ≡ false → here m (after p d) ≡ false
    go (reading e b) g = rw (e d) h
    go (rewriting w) g = rw (after_rewriting w d) (shapes_some (is m) d _
        (rewrite_shapes (touched w) (written w) (is m) (within_by_number itself m) d) ∙ h)
    go (removing x) g = ap some? (remove_whole x (is m) d (λ r o e. absurd (not_here m d h r o (eqb-true _ m e)))) ∙ h
    go (inserting m' kind b n k) g = ap some? (insert_whole (record { number = m'; kind = kind; content = b }) n k (is m) d
        (λ r o e. or_left _ _ g)) ∙ h

-- LW is needed on what a step inserts
pub LW_on_new : (s : Step) (p : List ℕ) (m : ℕ) → has m (inserts s) ≡ true → AllLocked m (LW ∷ []) (locks s p)
LW_on_new s p m h = rw (new_need s m h) at (new_locked s p m h)

-- steps whose locks do not clash bring in different numbers
pub inserts_apart : (s p : Step) (q r : List ℕ) → Compatible (locks s q) (locks p r) → (m : ℕ) → has m (inserts s) ≡ true
    → has m (inserts p) ≡ false
unfolding clash
inserts_apart s p q r c m h = refuted _ (λ g. not_both m (LW ∷ []) (LW ∷ []) (locks s q) (locks p r) refl c (LW_on_new s q m h)
    (LW_on_new p r m g))

pub numbers_rewrite : (t : Line → Bool) (b : List ℕ) (d : Document) → numbers (lines (rewrite t b d)) ≡ numbers (lines d)
numbers_rewrite t b d =
    rw (lines_rewrite t b d) (map_map line_number (λ r. row (rewritten t b r) r.above) line_number (lines d)
    (λ r m. rewritten_number t b r))

pub unique_rewrite : (t : Line → Bool) (b : List ℕ) (d : Document) → Unique d → Unique (rewrite t b d)
unique_rewrite t b d u = rw (numbers_rewrite t b d) u

pub unique_remove : (x : ℕ) (d : Document) → Unique d → Unique (remove x d)
unique_remove x d u = rw (lines_remove x d) (distinct_keep line_number (λ r. not (in_subtree x r)) (lines d) u)

-- a new node with another number than all that are there
module _ {A K : Type 0} (number_of : A → ℕ) (key : A → K) (n : ℕ) (counts : A → Bool) (k : ℕ) (new : A) (p : List K) (f : Forest A) where
  abbrev row_number : Row A K → ℕ
  row_number r = number_of r.it

  abbrev after_put : List (Row A K)
  after_put = rows key p (put (λ a. eqb (number_of a) n) counts k new f)

  pub put_distinct : distinct (map row_number (rows key p f)) ≡ true
      → ((r : Row A K) → Memᴰ r (rows key p f) → row_number r ≡ number_of new → ⊥) → distinct (map row_number after_put) ≡ true
  put_distinct d h = count_distinct row_number after_put (λ x. by_test (eqb (number_of new) x) (added x)
      (λ e. rw (put_kept (λ a. eqb (number_of a) n) counts k new key (λ r. eqb (row_number r) x) p f (λ s m j. e))
      (distinct_count row_number (rows key p f) d x)))
    where
      added : (x : ℕ) → eqb (number_of new) x ≡ true → count (λ r. eqb (row_number r) x) after_put ≤ 1
      added x e =
          let i : count (λ r. eqb (row_number r) x) after_put ≡ count (λ r. eqb (row_number r) n) (rows key p f)
          + count (λ r. eqb (row_number r) x) (rows key p f) =
          put_count (λ a. eqb (number_of a) n) counts k new key (λ r. eqb (row_number r) x) p f (λ s m j. e) in
          let z : count (λ r. eqb (row_number r) x) (rows key p f) ≡ 0 = ap length (keep_none (λ r. eqb (row_number r) x) (rows key p f)
          (λ r m. refuted _ (λ q. h r m (eqb-true _ x q ∙ sym (eqb-true _ x e))))) in
          rw (i, z) (omega (arith, distinct_count row_number (rows key p f) d n))

pub unique_insert : (a : Node) (n k : ℕ) (d : Document) → Unique d → here a.number d ≡ false → Unique (insert a n k d)
unfolding lines
unique_insert a n k d u h = put_distinct number number n (λ x. true) k a [] d u (λ r m e. not_here a.number d h r (of_lines d r m) e)

pub unique_after : (d : Document) → Unique d → (p : Step) → fits p d ≡ true → Unique (after p d)
unique_after d u p g = go (class p) g
  where
    go : {p : Step} → Class p → fits p d ≡ true → Unique (after p d)
    go (reading e b) g = rw (e d) u
    go (rewriting w) g = rw (after_rewriting w d) (unique_rewrite (touched w) (written w) d u)
    go (removing x) g = unique_remove x d u
    go (inserting m kind b n k) g =
        unique_insert (record { number = m; kind = kind; content = b }) n k d u (fits_absent (I m kind b n k) d g m (rw (eq-eqb m m refl)))
