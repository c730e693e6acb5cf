-- Which nodes bear the marks of how much of a transaction, when its last part was undone or closed.
use Rattle.std.specs.Prelude.{ℕ, suc, ◌-◌, ◌<◌, ◌≤◌, ◌≡◌, refl, true, false, cond, ◌&&◌, ◌||◌, List, [], ◌∷◌, eqb}
use Rattle.std.proofs.Common.{sym, ap, ap₂, ◌∙◌, true≢false, ⊎_elim, arith, eqb-true, eq-eqb, ne_eqb}
use Rattle.std.proofs.Math.Bool.{and-false}
use Rattle.std.proofs.lemmas.Bool.{eqb-false}
use Rattle.tree.specs.Laws.Tests.{and_left, and_right, refuted}
use Rattle.serializability.proofs.Laws.Tests.{by_test, affirmed}
use Rattle.protocol.specs.State.{nobody, Saved, Update, unwritten, wrote, writer_of, level_of, Marked, inserted_at, deleted_at}
use Rattle.protocol.specs.State.{update_undone, part_undone, update_joined, part_joined}
use Rattle.serializability.proofs.Laws.Parts.{Extent, shows}
use Rattle.serializability.proofs.Laws.OpenLevels.{Falling, FallingUpdate, LevelsOpen, touched_within, deleted_within}
use Rattle.serializability.proofs.Laws.OpenLevels.{falling_first}
use Rattle.serializability.proofs.Laws.PartMarks.{UndoneMarks, undone_marks, SameLevels, UndoneLevels}

-- undo ---------------------------------------------------------------------------------------

module _ (t d : ℕ) (nz : t ≡ nobody → ⊥) (nd : 0 < d) (depth : ℕ → ℕ) (at : depth t ≡ d) (a : Marked) (h : LevelsOpen depth a) where
  -- the transaction itself
  module _ (x x' : Extent) (own : UndoneLevels d (shows x) (shows x')) where
    own_deletion : a.deleter ≡ t → a.deletion_level ≤ d
    own_deletion i = rw (i, at) at (h.deletion (λ z. nz (sym i ∙ z)))

    pub undone_deleted : deleted_within x t (part_undone t d a) ≡ false → deleted_within x' t a ≡ false
    undone_deleted e = refuted _ (λ b. true≢false (sym (go b (part_undone t d a) (undone_marks t d a)) ∙ e))
      where
        go : deleted_within x' t a ≡ true → (a' : Marked) → UndoneMarks t d a a' → deleted_within x t a' ≡ true
        go b a' m =
            let i = eqb-true a.deleter t (and_left _ _ b) in
            let s : shows x' a.deletion_level ≡ true = and_right (eqb a.deleter t) _ b in
            let low : a.deletion_level ≤ d = own_deletion i in
            let n : eqb a.deletion_level d ≡ false =
            ne_eqb _ d (λ z. true≢false (sym s ∙ ap (shows x') z ∙ own.part)) in
            let y : shows x a.deletion_level ≡ true = own.same.lower _ (omega (arith, eqb-false a.deletion_level d n)) ∙ s in
            by_test (inserted_at t d a)
            (λ e. rw (m.deleter, m.deletion_level, e, eq-eqb t t refl) (affirmed _ (λ z. true≢false (sym y ∙ own.same.first _ z))))
            (λ e. rw (m.deleter, m.deletion_level, e, n, and-false (eqb a.deleter t), i, eq-eqb t t refl) y)

    -- the first level of what is written
    written_level : (u : Update) → FallingUpdate depth u
        → let v = cond (eqb (writer_of u) t) (update_undone d u) u in
        (eqb (writer_of v) t && shows x (level_of v)) ≡ (eqb (writer_of u) t && shows x' (level_of u))
    written_level unwritten f = let n = ne_eqb nobody t (λ z. nz (sym z)) in rw n (rw n)
    written_level (wrote u l saved deeper) f = by_test (eqb u t)
        (λ e. rw e (mine deeper (rw (ap depth (eqb-true u t e) ∙ at) at f.1) e)) (λ e. rw e (rw e))
      where
        mine : (deeper : List Saved) → Falling (suc d) deeper l → eqb u t ≡ true → let v = update_undone d (wrote u l saved deeper) in
            (eqb (writer_of v) t && shows x (level_of v)) ≡ shows x' l
        mine [] f e = by_test (eqb l d) (λ y. rw (y, ne_eqb nobody t (λ z. nz (sym z)), eqb-true l d y, own.part))
            (λ y. rw (y, e) (own.same.lower l (omega (arith, eqb-false l d y))))
        mine (y ∷ ys) f e = let k = falling_first y.0 ys l f.1 in rw e (own.same.lower l (omega (arith, f.0)))

    pub undone_touched : deleted_within x t (part_undone t d a) ≡ false
        → touched_within x t (part_undone t d a) ≡ touched_within x' t a
    undone_touched = go (part_undone t d a) (undone_marks t d a)
      where
        go : (a' : Marked) → UndoneMarks t d a a' → deleted_within x t a' ≡ false → touched_within x t a' ≡ touched_within x' t a
        go a' m e = rw (m.inserter, m.insertion_level, m.update) (ap₂ (λ y z. y || z)
            inserted (written_level a.update h.writes))
          where
            -- t deleted it at level 0
            hidden : a'.deleter ≡ t → a'.deletion_level ≡ 0 → shows x 0 ≡ false
            hidden i j = sym (rw (i, j, eq-eqb t t refl)) ∙ e

            level : a.inserter ≡ t → shows x a.insertion_level ≡ shows x' a.insertion_level
            level i = by_test (inserted_at t d a)
                (λ y. let j = eqb-true a.insertion_level d (and_right (eqb a.inserter t) _ y) in
                rw (j, own.part) (own.same.first d (hidden (m.deleter ∙ rw y) (m.deletion_level ∙ rw y))))
                (λ y. ⊎_elim
                (λ b. let n : deleted_at t d a ≡ false =
                rw (b.level, ne_eqb 0 d (λ z. omega (arith, z))) (and-false (eqb a.deleter t)) in
                let q = hidden (m.deleter ∙ rw (y, n) (b.deleter ∙ i)) (m.deletion_level ∙ rw y b.level) in
                own.same.first _ q ∙ sym (own.same.first_other _ (sym (own.same.lower 0 nd) ∙ q)))
                (λ b. let low : a.insertion_level ≤ d = rw (i, at) at b in
                let n : eqb a.insertion_level d ≡ false = refuted _ (λ z. true≢false (sym (rw (eq-eqb a.inserter t i, z)) ∙ y)) in
                own.same.lower _ (omega (arith, eqb-false a.insertion_level d n)))
                (h.insertion (λ z. nz (sym i ∙ z))))

            inserted : (eqb a.inserter t && shows x a.insertion_level) ≡ (eqb a.inserter t && shows x' a.insertion_level)
            inserted = by_test (eqb a.inserter t) (λ i. rw i (level (eqb-true _ t i))) (λ i. rw i)

  -- the others
  module _ (u : ℕ) (nu : u ≡ nobody → ⊥) (ne : u ≡ t → ⊥) (x : Extent) where
    other_written : (v : Update) → let w = cond (eqb (writer_of v) t) (update_undone d v) v in
        (eqb (writer_of w) u && shows x (level_of w)) ≡ (eqb (writer_of v) u && shows x (level_of v))
    other_written v = by_test (eqb (writer_of v) t) (λ e. rw e (mine v e)) (λ e. rw e)
      where
        gone : eqb nobody u ≡ false
        gone = ne_eqb nobody u (λ z. nu (sym z))

        mine : (v : Update) → eqb (writer_of v) t ≡ true → let w = update_undone d v in
            (eqb (writer_of w) u && shows x (level_of w)) ≡ (eqb (writer_of v) u && shows x (level_of v))
        mine unwritten e = refl
        mine (wrote w l saved []) e =
            let n : eqb w u ≡ false = ne_eqb w u (λ z. ne (sym z ∙ eqb-true w t e)) in
            by_test (eqb l d) (λ y. rw (y, gone, n)) (λ y. rw y)
        mine (wrote w l saved (y ∷ ys)) e = refl

    pub other_touched : touched_within x u (part_undone t d a) ≡ touched_within x u a
    other_touched = go (part_undone t d a) (undone_marks t d a)
      where
        go : (a' : Marked) → UndoneMarks t d a a' → touched_within x u a' ≡ touched_within x u a
        go a' m = rw (m.inserter, m.insertion_level, m.update) (ap (λ z. (eqb a.inserter u && shows x a.insertion_level) || z)
            (other_written a.update))

    -- a node that t inserted nobody else deleted
    pub other_deleted : (a.inserter ≡ t → a.deleter ≡ u → ⊥) → deleted_within x u (part_undone t d a) ≡ deleted_within x u a
    other_deleted alone = go (part_undone t d a) (undone_marks t d a)
      where
        go : (a' : Marked) → UndoneMarks t d a a' → deleted_within x u a' ≡ deleted_within x u a
        go a' m = by_test (inserted_at t d a)
            (λ e. let i = eqb-true a.inserter t (and_left _ _ e) in
            rw (m.deleter, m.deletion_level, e, ne_eqb t u (λ z. ne (sym z)), ne_eqb a.deleter u (alone i)))
            (λ e. rw (m.deleter, m.deletion_level, e) (by_test (deleted_at t d a)
            (λ y. rw (
              y,
              ne_eqb nobody u (λ z. nu (sym z)),
              ne_eqb a.deleter u (λ z. ne (sym z ∙ eqb-true a.deleter t (and_left _ _ y))),
            ))
            (λ y. rw y)))

-- close ----------------------------------------------------------------------------------------

-- of the transaction both the part and what surrounds it, or neither
module _ (t d u : ℕ) (x : Extent) (both : u ≡ t → shows x d ≡ shows x (d - 1)) (a : Marked) where
  joined_level : (v l : ℕ) → (eqb v u && shows x (cond (eqb v t && eqb l d) (d - 1) l)) ≡ (eqb v u && shows x l)
  joined_level v l = by_test (eqb v u)
      (λ e. rw e (by_test (eqb v t && eqb l d)
      (λ y. rw (y, eqb-true l d (and_right (eqb v t) _ y))
      (sym (both (sym (eqb-true v u e) ∙ eqb-true v t (and_left _ _ y)))))
      (λ y. rw y)))
      (λ e. rw e)

  joined_written : (v : Update) → let w = cond (eqb (writer_of v) t) (update_joined d v) v in
      (eqb (writer_of w) u && shows x (level_of w)) ≡ (eqb (writer_of v) u && shows x (level_of v))
  joined_written unwritten = by_test (eqb nobody t) (λ e. rw e) (λ e. rw e)
  joined_written (wrote w l saved []) = by_test (eqb w t) (λ e. rw e (level e)) (λ e. rw e)
    where
      level : eqb w t ≡ true → (eqb w u && shows x (cond (eqb l d) (d - 1) l)) ≡ (eqb w u && shows x l)
      level e = rw (ap (λ z. cond (z && eqb l d) (d - 1) l) e) at (joined_level w l)
  joined_written (wrote w l saved (y ∷ ys)) = by_test (eqb w t) (λ e. rw e) (λ e. rw e)

  pub joined_touched : touched_within x u (part_joined t d a) ≡ touched_within x u a
  joined_touched = ap₂ (λ y z. y || z) (joined_level a.inserter a.insertion_level) (joined_written a.update)

  pub joined_deleted : deleted_within x u (part_joined t d a) ≡ deleted_within x u a
  joined_deleted = joined_level a.deleter a.deletion_level

-- open -----------------------------------------------------------------------------------------

-- extents that show the same of the levels that are open
module _ (t d : ℕ) (nz : t ≡ nobody → ⊥) (depth : ℕ → ℕ) (at : depth t ≡ d) (a : Marked) (h : LevelsOpen depth a) (x x' : Extent)
    (own : SameLevels (suc d) (shows x) (shows x')) where
  same_level : (u l : ℕ) → ((u ≡ nobody → ⊥) → l ≤ depth u) → (eqb u t && shows x l) ≡ (eqb u t && shows x' l)
  same_level u l k = by_test (eqb u t)
      (λ e. let i = eqb-true u t e in
      let b : l ≤ d = rw (i, at) at (k (λ z. nz (sym i ∙ z))) in
      rw (own.lower l (omega arith)))
      (λ e. rw e)

  pub open_deleted : deleted_within x t a ≡ deleted_within x' t a
  open_deleted = same_level a.deleter a.deletion_level h.deletion

  pub open_touched : deleted_within x t a ≡ false → touched_within x t a ≡ touched_within x' t a
  open_touched e = ap₂ (λ y z. y || z) inserted (written a.update h.writes)
    where
      inserted : (eqb a.inserter t && shows x a.insertion_level) ≡ (eqb a.inserter t && shows x' a.insertion_level)
      inserted = by_test (eqb a.inserter t)
          (λ y. let i = eqb-true a.inserter t y in
          ⊎_elim
          (λ b. let q : shows x 0 ≡ false = sym (rw (b.deleter, b.level, y)) ∙ e in
          rw (own.first a.insertion_level q, own.first_other a.insertion_level (sym (own.lower 0 (omega arith)) ∙ q)))
          (λ b. same_level a.inserter a.insertion_level (λ z. b)) (h.insertion (λ z. nz (sym i ∙ z))))
          (λ y. rw y)

      written : (u : Update) → FallingUpdate depth u
          → (eqb (writer_of u) t && shows x (level_of u)) ≡ (eqb (writer_of u) t && shows x' (level_of u))
      written unwritten f = rw (ne_eqb nobody t (λ z. nz (sym z)))
      written (wrote u l saved deeper) f = same_level u l (λ z. let k = falling_first (suc (depth u)) deeper l f.1 in omega (arith, k))
