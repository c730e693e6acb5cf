-- The marks of a node cleared one by one, and what an end leaves in all.
use Rattle.std.specs.Prelude.{◌≡◌, refl, ℕ, zero, suc, ◌≤◌, Bool, true, false, List, get_or, eqb}
use Rattle.std.proofs.Common.{sym, ap, ◌∙◌, arith, eq-eqb, ne_eqb}
use Rattle.protocol.specs.State.{nobody, writer_of, Marked, Header, with_count, released, touched_by, count_touched, ended}
use Rattle.table.specs.Lists.{modify}
use Rattle.table.specs.Flat.{second}
use Rattle.table.specs.Layout.{is_open, Entry, nodes, no_entry, Layout, Left, Kept, header}
use Rattle.table.specs.Fields.{field, storable, with_field, has_text, restored}
use Rattle.table.specs.Laws.Lists.{modify_modify, modify_same, modify_none}
use Rattle.table.specs.Laws.Kept.{kept_same, kept_then, kept_as, left_on}
use Rattle.ends.specs.declared.pass.Ending.{Ending}
use Rattle.ends.specs.declared.pass.Ending.TheVariants.{Lasting, Undone}
use Rattle.ends.specs.Marks.{at_end, without_mark, rewritten, ended_marks, Closed}
use Rattle.ends.specs.Pass.{two_passes, OnePass, Ended}

-- one node -------------------------------------------------------------------------------------

-- a change that does nothing to the node at i
pub none_kept : (s : List ℕ) (i : ℕ) (g : Marked → Marked) → g (get_or (nodes s) i no_entry).1 ≡ (get_or (nodes s) i no_entry).1 → Layout s
    → Kept s s (modify i (second g) (nodes s))
none_kept s i g q h =
    kept_as (nodes s) _ (sym (modify_none i (second g) (nodes s) no_entry (ap (λ (b : Marked). ((get_or (nodes s) i no_entry).0, b)) q)))
    (kept_same s h)

-- and one that is the same there as another
same_kept : {s s' : List ℕ} (i : ℕ) (f g : Marked → Marked) → f (get_or (nodes s) i no_entry).1 ≡ g (get_or (nodes s) i no_entry).1
    → Kept s s' (modify i (second f) (nodes s)) → Kept s s' (modify i (second g) (nodes s))
same_kept {s} i f g q k = kept_as _ _ (modify_same i (second f) (second g) (nodes s) no_entry
    (ap (λ (b : Marked). ((get_or (nodes s) i no_entry).0, b)) q)) k

-- two changes of one node
pub both_marks : {s s' s'' : List ℕ} (i : ℕ) (g h : Marked → Marked) → Kept s s' (modify i (second g) (nodes s))
    → Kept s' s'' (modify i (second h) (nodes s'))
    → Kept s s'' (modify i (second (λ a. h (g a))) (nodes s))
both_marks {s} i g h a b = kept_as _ _ (modify_modify i (second h) (second g) (nodes s))
    (kept_then (modify i (second g) (nodes s)) (modify i (second h)) a b)

-- nobody can be stored as every mark
pub nobody_storable : (o : ℕ) → storable o nobody ≡ true
nobody_storable zero = refl
nobody_storable (suc zero) = refl
nobody_storable (suc (suc o)) = refl

pub cleared : {s s' : List ℕ} (i o t r : ℕ) → r ≡ field o (get_or (nodes s) i no_entry).1 → r ≡ t
    → Kept s s' (modify i (second (with_field o nobody)) (nodes s)) → Kept s s' (modify i (second (without_mark o t)) (nodes s))
cleared {s} i o t r e p k =
    let a : Marked = (get_or (nodes s) i no_entry).1 in
    same_kept i (with_field o nobody) (without_mark o t) (rw (eq-eqb (field o a) t (sym e ∙ p))) k

pub not_cleared : (s : List ℕ) (i o t r : ℕ) → r ≡ field o (get_or (nodes s) i no_entry).1 → (r ≡ t → ⊥) → Layout s
    → Kept s s (modify i (second (without_mark o t)) (nodes s))
not_cleared s i o t r e p h =
    let a : Marked = (get_or (nodes s) i no_entry).1 in
    none_kept s i (without_mark o t) (rw (ne_eqb (field o a) t (λ x. p (e ∙ x)))) h

-- t wrote the node: a content is saved
pub own_saved : (s : List ℕ) (i t r : ℕ) → r ≡ writer_of (get_or (nodes s) i no_entry).1.update → r ≡ t → 1 ≤ t
    → has_text 1 (get_or (nodes s) i no_entry).1 ≡ true
own_saved s i t r e p l = rw (ne_eqb (writer_of (get_or (nodes s) i no_entry).1.update) nobody (λ q. omega arith))

pub rewritten_own : {s s' : List ℕ} (i t r : ℕ) → r ≡ writer_of (get_or (nodes s) i no_entry).1.update → r ≡ t
    → Kept s s' (modify i (second restored) (nodes s)) → Kept s s' (modify i (second (rewritten t)) (nodes s))
rewritten_own {s} i t r e p k =
    let a : Marked = (get_or (nodes s) i no_entry).1 in
    same_kept i restored (rewritten t) (rw (eq-eqb (writer_of a.update) t (sym e ∙ p))) k

pub not_rewritten : (s : List ℕ) (i t r : ℕ) → r ≡ writer_of (get_or (nodes s) i no_entry).1.update → (r ≡ t → ⊥) → Layout s
    → Kept s s (modify i (second (rewritten t)) (nodes s))
not_rewritten s i t r e p h =
    let a : Marked = (get_or (nodes s) i no_entry).1 in
    none_kept s i (rewritten t) (rw (ne_eqb (writer_of a.update) t (λ x. p (e ∙ x)))) h

-- the same, with the mark cleared behind it
pub written_cleared : {s s' s'' : List ℕ} (i t r : ℕ) → r ≡ writer_of (get_or (nodes s) i no_entry).1.update → r ≡ t
    → Kept s s' (modify i (second restored) (nodes s)) → Kept s' s'' (modify i (second (with_field 1 nobody)) (nodes s'))
    → Kept s s'' (modify i (second (λ a. without_mark 1 t (rewritten t a))) (nodes s))
written_cleared {s} i t r e p j k =
    let a : Marked = (get_or (nodes s) i no_entry).1 in
    same_kept i (λ b. with_field 1 nobody (restored b)) (λ b. without_mark 1 t (rewritten t b)) (rw (eq-eqb (writer_of a.update) t (sym e ∙ p)))
    (both_marks i restored (with_field 1 nobody) j k)

pub unwritten_cleared : (s : List ℕ) (i t r : ℕ) → r ≡ writer_of (get_or (nodes s) i no_entry).1.update → (r ≡ t → ⊥) → Layout s
    → Kept s s (modify i (second (λ a. without_mark 1 t (rewritten t a))) (nodes s))
unwritten_cleared s i t r e p h =
    let a : Marked = (get_or (nodes s) i no_entry).1 in
    none_kept s i (λ b. without_mark 1 t (rewritten t b)) (rw (ne_eqb (writer_of a.update) t (λ x. p (e ∙ x)))) h

-- t touched the node, or did not
module _ {s : List ℕ} (i n t : ℕ) where
  pub counted_own : {s' : List ℕ} → touched_by t (get_or (nodes s) i no_entry).1 ≡ true
      → Kept s s' (modify i (second (with_count n)) (nodes s)) → Kept s s' (modify i (second (count_touched n t)) (nodes s))
  counted_own p k = same_kept i (with_count n) (count_touched n t) (rw p) k

  pub not_counted : touched_by t (get_or (nodes s) i no_entry).1 ≡ false → Layout s
      → Kept s s (modify i (second (count_touched n t)) (nodes s))
  not_counted p h = none_kept s i (count_touched n t) (rw p) h

-- an end ----------------------------------------------------------------------------------------------

-- t is open until it is closed
pub left_open : {s s' : List ℕ} {l : List Entry} (t : ℕ) → Left s s' (header s) l → is_open s t ≡ true → is_open s' t ≡ true
left_open t a e = ap (λ (q : Header). q.is_open t) a.header ∙ e

pub marks_whole : (end : Ending) (t : ℕ) (a : Marked) → released t (ended_marks end t a) ≡ at_end end t a
marks_whole end t a = go end (eqb (writer_of a.update) t) refl (eqb a.inserter t) refl (eqb a.deleter t) refl
  where
    go : (b : Ending) (x : Bool) → eqb (writer_of a.update) t ≡ x → (y : Bool) → eqb a.inserter t ≡ y → (z : Bool) → eqb a.deleter t ≡ z
        → released t (ended_marks b t a) ≡ at_end b t a
    go (Lasting n) true p true q z r = rw (p, q)
    go (Lasting n) true p false q z r = rw (p, q)
    go (Lasting n) false p true q z r = rw (p, q)
    go (Lasting n) false p false q z r = rw (p, q)
    go Undone true p y q true r = rw (p, r)
    go Undone true p y q false r = rw (p, r)
    go Undone false p y q true r = rw (p, r)
    go Undone false p y q false r = rw (p, r)

-- an end: the one pass, and t closed
pub end_left : {s s₁ s₂ : List ℕ} {visits : ℕ} (end : Ending) (t : ℕ) → OnePass end t s s₁ visits
    → Closed t s₁ s₂ (nodes s₁)
    → Ended end t s s₂
end_left {s} end t a c = left_on (two_passes end t (nodes s)) (ended t) (λ ns. ns) a.left c
