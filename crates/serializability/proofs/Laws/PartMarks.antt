-- What a set of levels shows of the tree when the last part of a transaction was undone or closed.
use Rattle.std.specs.Prelude.{ℕ, suc, ◌-◌, ◌<◌, ◌≤◌, ◌≡◌, Bool, true, false, cond, not, ◌&&◌, ◌||◌, eqb, leb}
use Rattle.std.proofs.Math.Path.{refl, ap}
use Rattle.std.proofs.Common.{sym, ap₂, ◌∙◌, ⊎_elim, arith, eqb-true, eq-eqb, ne_eqb, leb-true}
use Rattle.std.proofs.Math.Bool.{and-false}
use mathlib.Core.List.{List, [], ◌∷◌}
use Rattle.std.proofs.lemmas.Bool.{eqb-false}
use Rattle.tree.specs.Laws.Tests.{and_left, and_right}
use Rattle.tree.specs.Laws.View.{view_agree}
use Rattle.tree.specs.Steps.{with_content}
use Rattle.serializability.proofs.Laws.Tests.{by_test, cond_same}
use Rattle.protocol.specs.State.{nobody, Saved, Update, unwritten, wrote, writer_of, Marked, Tree, Levels, done_by, shown}
use Rattle.protocol.specs.State.{content_at, content_shown, as_shown, document_of, content_undone, update_undone, writes_undone}
use Rattle.protocol.specs.State.{part_undone}
use Rattle.protocol.specs.State.{deletion_undone, inserted_at, deleted_at, deleted_by, with_deleter, with_now, with_update, last_level}
use Rattle.protocol.specs.State.{update_joined, part_joined, undo_tree, join_tree}
use Rattle.serializability.proofs.Laws.OpenLevels.{Falling, FallingUpdate, LevelsOpen, content_under, content_same}
use Rattle.serializability.proofs.Laws.Shown.{Place, Inside, view_mark}

-- the marks of a node whose last part was undone
pub record UndoneMarks (t d : ℕ) (a a' : Marked) : Type 0 where
  pub number : a'.now.number ≡ a.now.number
  pub inserter : a'.inserter ≡ a.inserter
  pub insertion_level : a'.insertion_level ≡ a.insertion_level
  pub deleter : a'.deleter ≡ cond (inserted_at t d a) t (cond (deleted_at t d a) nobody a.deleter)
  pub deletion_level : a'.deletion_level ≡ cond (inserted_at t d a) 0 a.deletion_level
  pub update : a'.update ≡ cond (eqb (writer_of a.update) t) (update_undone d a.update) a.update
  pub held : a'.held ≡ a.held
  pub count : a'.count ≡ a.count

-- read off a choice
cond_read : {A B : Type 0} (h : A → B) (x : Bool) (a a' : A) → h (cond x a a') ≡ cond x (h a) (h a')
cond_read h true a a' = refl
cond_read h false a a' = refl

module _ (t d : ℕ) (a : Marked) where
  abbrev unwrote : Marked
  unwrote = writes_undone t d a

  abbrev undeleted : Marked
  undeleted = deletion_undone t d (writes_undone t d a)

  -- a mark that no write changes
  of_writes : {B : Type 0} (h : Marked → B)
      → ((x : Marked) (u : Update) (b : List ℕ) → h (with_update u (with_now (with_content x.now b) x)) ≡ h x)
      → h unwrote ≡ h a
  of_writes h k = cond_same h (eqb (writer_of a.update) t) _ a (k a _ _)

  -- nor a deletion
  of_deletions : {B : Type 0} (h : Marked → B)
      → ((x : Marked) (u : Update) (b : List ℕ) → h (with_update u (with_now (with_content x.now b) x)) ≡ h x)
      → ((x : Marked) → h (with_deleter nobody x) ≡ h x) → h undeleted ≡ h a
  of_deletions h k l = cond_same h (deleted_at t d unwrote) (with_deleter nobody unwrote) unwrote (l unwrote) ∙ of_writes h k

  of_all : {B : Type 0} (h : Marked → B)
      → ((x : Marked) (u : Update) (b : List ℕ) → h (with_update u (with_now (with_content x.now b) x)) ≡ h x)
      → ((x : Marked) → h (with_deleter nobody x) ≡ h x) → ((x : Marked) → h (deleted_by t 0 x) ≡ h x) → h (part_undone t d a) ≡ h a
  of_all h k l m = cond_same h (inserted_at t d undeleted) (deleted_by t 0 undeleted) undeleted (m undeleted) ∙ of_deletions h k l

  inserted_same : inserted_at t d undeleted ≡ inserted_at t d a
  inserted_same = rw (
    of_deletions (λ x. x.inserter) (λ x u b. refl) (λ x. refl),
    of_deletions (λ x. x.insertion_level) (λ x u b. refl) (λ x. refl),
  )

  pub undone_marks : UndoneMarks t d a (part_undone t d a)
  undone_marks = record {
    number = of_all (λ x. x.now.number) (λ x u b. refl) (λ x. refl) (λ x. refl);
    inserter = of_all (λ x. x.inserter) (λ x u b. refl) (λ x. refl) (λ x. refl);
    insertion_level = of_all (λ x. x.insertion_level) (λ x u b. refl) (λ x. refl) (λ x. refl);
    deleter = cond_read (λ (x : Marked). x.deleter) (inserted_at t d undeleted) (deleted_by t 0 undeleted) undeleted
        ∙ rw (
          inserted_same,
          cond_read (λ (x : Marked). x.deleter) (deleted_at t d unwrote) (with_deleter nobody unwrote) unwrote,
          of_writes (λ x. x.deleter) (λ x u b. refl),
          of_writes (λ x. x.deletion_level) (λ x u b. refl),
        );
    deletion_level = cond_read (λ (x : Marked). x.deletion_level) (inserted_at t d undeleted) (deleted_by t 0 undeleted) undeleted
        ∙ rw (inserted_same, of_deletions (λ x. x.deletion_level) (λ x u b. refl) (λ x. refl));
    update = cond_same (λ (x : Marked). x.update) (inserted_at t d undeleted) (deleted_by t 0 undeleted) undeleted refl
        ∙ cond_same (λ (x : Marked). x.update) (deleted_at t d unwrote) (with_deleter nobody unwrote) unwrote refl
        ∙ cond_read (λ (x : Marked). x.update) (eqb (writer_of a.update) t) _ a;
    held = of_all (λ x. x.held) (λ x u b. refl) (λ x. refl) (λ x. refl);
    count = of_all (λ x. x.count) (λ x u b. refl) (λ x. refl) (λ x. refl);
  }

-- undo ---------------------------------------------------------------------------------------

-- a mark is shown by who set it and its level
by_marks : (S : Levels) (a : Marked) {i k u l : ℕ} → a.inserter ≡ i → a.insertion_level ≡ k → a.deleter ≡ u → a.deletion_level ≡ l
    → shown S a ≡ (done_by S i k && not (not (eqb u nobody) && S u l))
by_marks S a e e' e'' e''' = rw (e, e', e'', e''')

-- levels P and P' of a transaction that show the same of what it did below level d
pub record SameLevels (d : ℕ) (P P' : ℕ → Bool) : Type 0 where
  pub lower : (l : ℕ) → l < d → P l ≡ P' l
  -- level 0 is shown where any is
  pub first : (l : ℕ) → P 0 ≡ false → P l ≡ false
  pub first_other : (l : ℕ) → P' 0 ≡ false → P' l ≡ false

-- those that are shown after the part at level d was undone, and those that show the same before
pub record UndoneLevels (d : ℕ) (P P' : ℕ → Bool) : Type 0 where
  pub same : SameLevels d P P'
  pub part : P' d ≡ false

-- an insertion that was undone is not shown
back_hidden : (t : ℕ) → (t ≡ nobody → ⊥) → (P : ℕ → Bool) (l : ℕ) → (P 0 ≡ false → P l ≡ false)
    → ((eqb t nobody || P l) && not (not (eqb t nobody) && P 0)) ≡ false
back_hidden t nz P l k = rw (ne_eqb t nobody nz) (by_test (P 0) (λ e. rw e (and-false (P l))) (λ e. rw (e, k e)))

-- what others wrote is shown alike
content_other : (t : ℕ) (S S' : Levels) → ((u l : ℕ) → (u ≡ t → ⊥) → S u l ≡ S' u l) → (b : List ℕ) (u : Update)
    → eqb (writer_of u) t ≡ false → content_shown S b u ≡ content_shown S' b u
content_other t S S' h b unwritten e = refl
content_other t S S' h b (wrote u l saved deeper) e = content_same (S u) (S' u) (λ m. h u m (eqb-false u t e)) b deeper l saved

module _ (t d : ℕ) (nz : t ≡ nobody → ⊥) (nd : 0 < d) (depth : ℕ → ℕ) (at : depth t ≡ d) (S S' : Levels)
    (others : (u l : ℕ) → (u ≡ t → ⊥) → S u l ≡ S' u l) (own : UndoneLevels d (S t) (S' t)) where
  content_back : (u : ℕ) → UndoneLevels d (S u) (S' u) → (b : List ℕ) (l : ℕ) (saved : List ℕ) (deeper : List Saved)
      → Falling (suc d) deeper l
      → content_shown S (content_undone d b (wrote u l saved deeper)) (update_undone d (wrote u l saved deeper))
      ≡ content_at (S' u) b deeper l saved
  content_back u k b l saved [] h = by_test (eqb l d)
      (λ e. rw (e, eqb-true l d e, k.part)) (λ e. rw (e, k.same.lower l (omega (arith, eqb-false l d e))))
  content_back u k b l saved (x ∷ xs) h = by_test (eqb x.0 d)
      (λ e. let i = eqb-true x.0 d e in
      rw (e, i, k.part) (content_under (S u) (S' u) d k.same.lower x.1 xs l saved (rw i at h.1)))
      (λ e. let m : x.0 < d = omega (arith, eqb-false x.0 d e, h.0) in
      rw e (content_under (S u) (S' u) d k.same.lower b (x ∷ xs) l saved (m, h.1)))

  content_own : (b : List ℕ) (u : Update) → FallingUpdate depth u → eqb (writer_of u) t ≡ true
      → content_shown S (content_undone d b u) (update_undone d u) ≡ content_shown S' b u
  content_own b unwritten h e = refl
  content_own b (wrote u l saved deeper) h e =
      let i = eqb-true u t e in
      content_back u (rw i own) b l saved deeper (rw (ap depth i ∙ at) at h.1)

  -- the content, where the writes are undone
  written_back : (a : Marked) → LevelsOpen depth a → as_shown S (writes_undone t d a) ≡ as_shown S' a
  written_back a h = by_test (eqb (writer_of a.update) t)
      (λ e. rw e (ap (with_content a.now) (content_own a.now.content a.update h.writes e)))
      (λ e. rw e (ap (with_content a.now) (content_other t S S' others a.now.content a.update e)))

  -- deletions and insertions show no content
  undone_content : (a : Marked) → LevelsOpen depth a → as_shown S (part_undone t d a) ≡ as_shown S' a
  undone_content a h =
      let w = writes_undone t d a in
      let x = deletion_undone t d w in
      cond_same (as_shown S) (inserted_at t d x) (deleted_by t 0 x) x refl
      ∙ cond_same (as_shown S) (deleted_at t d w) (with_deleter nobody w) w refl ∙ written_back a h

  -- the levels of deletions
  deletion_back : (u l : ℕ) → ((u ≡ nobody → ⊥) → l ≤ depth u)
      → let v = cond (eqb u t && eqb l d) nobody u in (not (eqb v nobody) && S v l) ≡ (not (eqb u nobody) && S' u l)
  deletion_back u l h = by_test (eqb u t) own_level (λ e. rw (e, others u l (eqb-false u t e)))
    where
      own_level : eqb u t ≡ true → let v = cond (eqb u t && eqb l d) nobody u in
          (not (eqb v nobody) && S v l) ≡ (not (eqb u nobody) && S' u l)
      own_level e =
          let i = eqb-true u t e in
          let k : l ≤ d = rw (i, at) at (h (λ z. nz (sym i ∙ z))) in
          rw (i, eq-eqb t t refl) (by_test (eqb l d) (λ x. rw (x, eqb-true l d x, own.part, and-false (not (eqb t nobody))))
          (λ x. rw (x, own.same.lower l (omega (arith, eqb-false l d x)))))

  -- of insertions
  insertion_back : (u l : ℕ) → (eqb u t && eqb l d) ≡ false → (u ≡ t → l ≤ d) → done_by S u l ≡ done_by S' u l
  insertion_back u l k h = by_test (eqb u t)
      (λ e. let i = eqb-true u t e in
      let b : l ≤ d = h i in
      let n : eqb l d ≡ false = rw e at k in
      rw (i, own.same.lower l (omega (arith, eqb-false l d n))))
      (λ e. rw (others u l (eqb-false u t e)))

  -- what is shown of the marks of insertion and deletion
  undone_sight : (a : Marked) → LevelsOpen depth a → shown S (part_undone t d a) ≡ shown S' a
  undone_sight a h =
      let m = undone_marks t d a in
      by_marks S (part_undone t d a) m.inserter m.insertion_level m.deleter m.deletion_level
      ∙ by_test (inserted_at t d a) taken_back (λ e. rw e (kept e))
    where
      taken_back : inserted_at t d a ≡ true → let v = cond (inserted_at t d a) t (cond (deleted_at t d a) nobody a.deleter) in
          (done_by S a.inserter a.insertion_level && not (not (eqb v nobody) && S v (cond (inserted_at t d a) 0 a.deletion_level)))
          ≡ shown S' a
      taken_back e =
          let i = eqb-true a.inserter t (and_left _ _ e) in
          let j = eqb-true a.insertion_level d (and_right (eqb a.inserter t) _ e) in
          rw e (rw (i, j) (back_hidden t nz (S t) d (own.same.first d) ∙ sym (rw (ne_eqb t nobody nz, own.part))))

      levels_back : (a.inserter ≡ t → a.insertion_level ≤ d) → inserted_at t d a ≡ false
          → let v = cond (deleted_at t d a) nobody a.deleter in
          (done_by S a.inserter a.insertion_level && not (not (eqb v nobody) && S v a.deletion_level)) ≡ shown S' a
      levels_back k e = ap₂ (λ x y. x && not y) (insertion_back a.inserter a.insertion_level e k)
          (deletion_back a.deleter a.deletion_level h.deletion)

      kept : inserted_at t d a ≡ false → let v = cond (deleted_at t d a) nobody a.deleter in
          (done_by S a.inserter a.insertion_level && not (not (eqb v nobody) && S v a.deletion_level)) ≡ shown S' a
      kept e = by_test (eqb a.inserter t)
          (λ x. let i = eqb-true a.inserter t x in
          ⊎_elim
          (λ b. rw (b.deleter, b.level, ne_eqb 0 d (λ z. omega (arith, z)), and-false (eqb a.inserter t)) (rw i
          (back_hidden t nz (S t) a.insertion_level (own.same.first _)
          ∙ sym (back_hidden t nz (S' t) a.insertion_level (own.same.first_other _)))))
          (λ b. levels_back (λ z. rw (i, at) at b) e) (h.insertion (λ z. nz (sym i ∙ z))))
          (λ x. levels_back (λ z. absurd (eqb-false a.inserter t x z)) e)

  pub undo_shown : (f : Tree) → ((r : Place) → Inside r f → LevelsOpen depth r.it) → document_of S (undo_tree t d f) ≡ document_of S' f
  unfolding document_of undo_tree
  undo_shown f h = view_mark (shown S') (shown S) (as_shown S') (as_shown S) (λ r. part_undone t d r.it) [] f
      (λ r i. undone_sight r.it (h r i)) (λ r i e. undone_content r.it (h r i))

-- open -----------------------------------------------------------------------------------------

-- sets that show the same of the levels that are open
module _ (t d : ℕ) (nz : t ≡ nobody → ⊥) (depth : ℕ → ℕ) (at : depth t ≡ d) (S S' : Levels)
    (others : (u l : ℕ) → (u ≡ t → ⊥) → S u l ≡ S' u l) (own : SameLevels (suc d) (S t) (S' t)) where
  level_same : (u l : ℕ) → (u ≡ t → l ≤ d) → S u l ≡ S' u l
  level_same u l h = by_test (eqb u t)
      (λ e. let i = eqb-true u t e in
      let k : l ≤ d = h i in
      rw i (own.lower l (omega arith)))
      (λ e. others u l (eqb-false u t e))

  open_level : (u l : ℕ) → ((u ≡ nobody → ⊥) → l ≤ depth u) → u ≡ t → l ≤ d
  open_level u l h i = rw (i, at) at (h (λ z. nz (sym i ∙ z)))

  sight_same : (a : Marked) → LevelsOpen depth a → shown S a ≡ shown S' a
  sight_same a h = by_test (eqb a.inserter t)
      (λ e. let i = eqb-true a.inserter t e in
      ⊎_elim
      (λ b. rw (b.deleter, b.level, i) (back_hidden t nz (S t) a.insertion_level (own.first _)
      ∙ sym (back_hidden t nz (S' t) a.insertion_level (own.first_other _))))
      (λ b. go (λ z. rw (i, at) at b)) (h.insertion (λ z. nz (sym i ∙ z))))
      (λ e. go (λ z. absurd (eqb-false a.inserter t e z)))
    where
      go : (a.inserter ≡ t → a.insertion_level ≤ d) → shown S a ≡ shown S' a
      go k = rw (
        level_same a.inserter a.insertion_level k,
        level_same a.deleter a.deletion_level (open_level a.deleter a.deletion_level h.deletion),
      )

  written_same : (b : List ℕ) (u : Update) → FallingUpdate depth u → content_shown S b u ≡ content_shown S' b u
  written_same b unwritten h = refl
  written_same b (wrote u l saved deeper) h = by_test (eqb u t)
      (λ e. let i = eqb-true u t e in
      content_under (S u) (S' u) (suc d) (λ m k. level_same u m (λ z. omega arith)) b deeper l saved (rw (ap depth i ∙ at) at h.1))
      (λ e. content_other t S S' others b (wrote u l saved deeper) e)

  pub open_shown : (f : Tree) → ((r : Place) → Inside r f → LevelsOpen depth r.it) → document_of S f ≡ document_of S' f
  unfolding document_of
  open_shown f h = view_agree (λ a. a) (shown S') (shown S') (λ a. refl) (shown S) (as_shown S') (as_shown S) [] f refl
      (λ r i e. sight_same r.it (h r i))
      (λ r i e. ap (with_content r.it.now) (written_same r.it.now.content r.it.update (h r i).writes))

-- close ----------------------------------------------------------------------------------------

pub last_below : (n : ℕ) (xs : List Saved) (l : ℕ) → Falling n xs l → last_level l xs < n
last_below n [] l h = h
last_below n (x ∷ xs) l h = h.0

-- the last level decides
last_shown : (P : ℕ → Bool) (b c : List ℕ) (xs : List Saved) (l : ℕ) (saved : List ℕ)
    → content_at P b xs l saved ≡ cond (P (last_level l xs)) b (content_at P c xs l saved)
last_shown P b c [] l saved = by_test (P l) (λ e. rw e) (λ e. rw e)
last_shown P b c (x ∷ xs) l saved = by_test (P x.0) (λ e. rw e) (λ e. rw e)

-- a set that shows both the part and what surrounds it, or neither
module _ (t d : ℕ) (nz : t ≡ nobody → ⊥) (nd : 0 < d) (depth : ℕ → ℕ) (at : depth t ≡ d) (S : Levels) (both : S t d ≡ S t (d - 1)) where
  level_joined : (u l : ℕ) → S u (cond (eqb u t && eqb l d) (d - 1) l) ≡ S u l
  level_joined u l = by_test (eqb u t && eqb l d)
      (λ e. rw (e, eqb-true u t (and_left _ _ e), eqb-true l d (and_right (eqb u t) _ e), both)) (λ e. rw e)

  content_joined : (u : ℕ) → S u d ≡ S u (d - 1) → (b : List ℕ) (l : ℕ) (saved : List ℕ) (deeper : List Saved) → Falling (suc d) deeper l
      → content_shown S b (update_joined d (wrote u l saved deeper)) ≡ content_at (S u) b deeper l saved
  content_joined u k b l saved [] h = by_test (eqb l d) (λ e. rw (e, eqb-true l d e, k)) (λ e. rw e)
  content_joined u k b l saved (x ∷ xs) h = by_test (eqb x.0 d) last (λ e. rw e)
    where
      last : eqb x.0 d ≡ true
          → content_shown S b (update_joined d (wrote u l saved (x ∷ xs))) ≡ content_at (S u) b (x ∷ xs) l saved
      last e =
          let i = eqb-true x.0 d e in
          let low : last_level l xs < d = last_below d xs l (rw i at h.1) in
          by_test (leb (d - 1) (last_level l xs))
          (λ y. let j : last_level l xs ≡ d - 1 = omega (arith, leb-true (d - 1) (last_level l xs) y) in
          rw (e, y, i, k) (last_shown (S u) b x.1 xs l saved ∙ rw j))
          (λ y. rw (e, y, i, k))

  joined_own : (b : List ℕ) (u : Update) → FallingUpdate depth u → eqb (writer_of u) t ≡ true
      → content_shown S b (update_joined d u) ≡ content_shown S b u
  joined_own b unwritten h e = refl
  joined_own b (wrote u l saved deeper) h e =
      let i = eqb-true u t e in
      content_joined u (rw i both) b l saved deeper (rw (ap depth i ∙ at) at h.1)

  joined_content : (a : Marked) → LevelsOpen depth a → as_shown S (part_joined t d a) ≡ as_shown S a
  joined_content a h = ap (with_content a.now) (by_test (eqb (writer_of a.update) t)
      (λ e. rw e (joined_own a.now.content a.update h.writes e)) (λ e. rw e))

  joined_sight : (a : Marked) → shown S (part_joined t d a) ≡ shown S a
  joined_sight a = rw (level_joined a.inserter a.insertion_level, level_joined a.deleter a.deletion_level)

  pub join_shown : (f : Tree) → ((r : Place) → Inside r f → LevelsOpen depth r.it) → document_of S (join_tree t d f) ≡ document_of S f
  unfolding document_of join_tree
  join_shown f h = view_mark (shown S) (shown S) (as_shown S) (as_shown S) (λ r. part_joined t d r.it) [] f
      (λ r i. joined_sight r.it) (λ r i e. joined_content r.it (h r i))
