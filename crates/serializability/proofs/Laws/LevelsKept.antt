-- The levels of marks stay open: when a part is opened, closed or undone, by a granted step at the depth of its transaction, and at the end
-- of a transaction.
use Rattle.std.specs.Prelude.{ℕ, suc, ◌-◌, ◌<◌, ◌≤◌, ◌≡◌, refl, Bool, true, false, cond, not, ◌&&◌, List, [], ◌∷◌, ◌⊎◌, eqb, leb}
use Rattle.std.proofs.Common.{sym, ap, ◌∙◌, true≢false, inl, inr, ⊎_elim, arith, eqb-true, eq-eqb, ne_eqb, leb-false}
use Rattle.std.proofs.Math.Bool.{and-false}
use Rattle.std.proofs.Math.Logic.{⊎_map}
use Rattle.std.proofs.lemmas.Bool.{eqb-false, not-true}
use Rattle.tree.specs.Laws.Tests.{and_left, or_cases, refuted}
use Rattle.locks.specs.Needs.{Lock}
use Rattle.serializability.proofs.Laws.Tests.{by_test}
use Rattle.protocol.specs.State.{nobody, Saved, Update, unwritten, wrote, writer_of, Marked, seen_by, saved_since, saving, without}
use Rattle.protocol.specs.State.{update_without}
use Rattle.protocol.specs.State.{inserted_at, deleted_at, last_level, update_undone, part_undone, update_joined, part_joined, lasting}
use Rattle.protocol.specs.State.{undone}
use Rattle.protocol.specs.State.{granted_to}
use Rattle.serializability.proofs.Laws.OpenLevels.{Falling, FallingUpdate, TakenBack, LevelsOpen, falling_more, none_since}
use Rattle.serializability.proofs.Laws.Shown.{local}
use Rattle.serializability.proofs.Laws.Granting.{Edits}
use Rattle.serializability.proofs.Laws.PartMarks.{UndoneMarks, undone_marks}

-- d parts of t are open
abbrev pub with_depth_of : ℕ → ℕ → (ℕ → ℕ) → ℕ → ℕ
with_depth_of t d depth u = cond (eqb u t) d (depth u)

-- more parts
pub levels_more : (depth depth' : ℕ → ℕ) → ((u : ℕ) → depth u ≤ depth' u) → (a : Marked) → LevelsOpen depth a → LevelsOpen depth' a
levels_more depth depth' k a h = record {
  insertion = λ n. ⊎_map (λ b. b) (λ b. omega (arith, b, k a.inserter)) (h.insertion n);
  deletion = λ n. omega (arith, h.deletion n, k a.deleter);
  writes = go a.update h.writes;
}
  where
    go : (u : Update) → FallingUpdate depth u → FallingUpdate depth' u
    go unwritten f = tt
    go (wrote u l saved deeper) f = (f.0, falling_more (suc (depth u)) (suc (depth' u)) deeper l (omega (arith, k u)) f.1)

-- the last part is left ------------------------------------------------------------------------

module _ (t d : ℕ) (nz : t ≡ nobody → ⊥) (nd : 0 < d) (depth : ℕ → ℕ) (at : depth t ≡ d) where
  abbrev left : ℕ → ℕ
  left = with_depth_of t (d - 1) depth

  -- a level that is not the part's
  level_left : (u l : ℕ) → l ≤ depth u → (u ≡ t → l ≡ d → ⊥) → l ≤ left u
  level_left u l h k = by_test (eqb u t)
      (λ e. let i = eqb-true u t e in
      let b : l ≤ d = rw (ap depth i ∙ at) at h in
      rw e (omega (arith, k i)))
      (λ e. rw e h)

  not_part : (u l : ℕ) → (eqb u t && eqb l d) ≡ false → u ≡ t → l ≡ d → ⊥
  not_part u l e i j = true≢false (sym (rw (i, j, eq-eqb t t refl, eq-eqb d d refl)) ∙ e)

  own_left : (u : ℕ) → u ≡ t → suc (left u) ≡ d
  own_left u i = rw (eq-eqb u t i) (omega arith)

  other_left : (u : Update) → eqb (writer_of u) t ≡ false → FallingUpdate depth u → FallingUpdate left u
  other_left unwritten e h = tt
  other_left (wrote u l saved deeper) e h = (h.0, rw e h.1)

  -- undone
  undone_falling : (u : ℕ) → (u ≡ nobody → ⊥) → suc (left u) ≡ d → (l : ℕ) (saved : List ℕ) (deeper : List Saved)
      → Falling (suc d) deeper l → FallingUpdate left (update_undone d (wrote u l saved deeper))
  undone_falling u nu k l saved [] h = by_test (eqb l d) (λ e. rw e tt) (λ e. rw e (nu, omega (arith, k, eqb-false l d e)))
  undone_falling u nu k l saved (x ∷ xs) h = by_test (eqb x.0 d)
      (λ e. rw (e, k) (nu, rw (eqb-true x.0 d e) at h.1))
      (λ e. rw (e, k) (nu, (omega (arith, eqb-false x.0 d e, h.0), h.1)))

  undone_writes : (u : Update) → FallingUpdate depth u
      → FallingUpdate left (cond (eqb (writer_of u) t) (update_undone d u) u)
  undone_writes u h = by_test (eqb (writer_of u) t) (λ e. rw e (own u h e)) (λ e. rw e (other_left u e h))
    where
      own : (u : Update) → FallingUpdate depth u → eqb (writer_of u) t ≡ true → FallingUpdate left (update_undone d u)
      own unwritten h e = tt
      own (wrote u l saved deeper) h e =
          let i = eqb-true u t e in
          undone_falling u h.0 (own_left u i) l saved deeper (rw (ap depth i ∙ at) at h.1)

  pub undone_levels : (a : Marked) → LevelsOpen depth a → LevelsOpen left (part_undone t d a)
  undone_levels a h = go (part_undone t d a) (undone_marks t d a)
    where
      go : (a' : Marked) → UndoneMarks t d a a' → LevelsOpen left a'
      go a' m = record { insertion = ins; deletion = del; writes = rw m.update (undone_writes a.update h.writes) }
        where
          ins : (a'.inserter ≡ nobody → ⊥) → TakenBack a' ⊎ (a'.insertion_level ≤ left a'.inserter)
          ins n = by_test (inserted_at t d a)
              (λ e. inl (record {
                deleter = m.deleter ∙ rw (e, m.inserter, eqb-true a.inserter t (and_left _ _ e));
                level = m.deletion_level ∙ rw e;
              }))
              (λ e. ⊎_map
              (λ b. record {
                deleter = m.deleter ∙ rw (e, b.level, ne_eqb 0 d (λ z. omega (arith, z)), and-false (eqb a.deleter t), m.inserter)
                    b.deleter;
                level = m.deletion_level ∙ rw e b.level;
              })
              (λ b. rw (m.inserter, m.insertion_level) (level_left a.inserter a.insertion_level b (not_part _ _ e)))
              (h.insertion (λ z. n (m.inserter ∙ z))))

          del : (a'.deleter ≡ nobody → ⊥) → a'.deletion_level ≤ left a'.deleter
          del n = by_test (inserted_at t d a) (λ e. rw (m.deletion_level, e) (omega arith)) (λ e. by_test (deleted_at t d a)
              (λ x. absurd (n (m.deleter ∙ rw (e, x))))
              (λ x. let i : a'.deleter ≡ a.deleter = m.deleter ∙ rw (e, x) in
              let j : a'.deletion_level ≡ a.deletion_level = m.deletion_level ∙ rw e in
              rw (i, j) (level_left a.deleter a.deletion_level (h.deletion (λ z. n (i ∙ z))) (not_part _ _ x))))

  -- closed
  level_joined : (u l : ℕ) → l ≤ depth u → cond (eqb u t && eqb l d) (d - 1) l ≤ left u
  level_joined u l h = by_test (eqb u t && eqb l d)
      (λ e. rw (e, and_left (eqb u t) (eqb l d) e) (omega arith)) (λ e. rw e (level_left u l h (not_part u l e)))

  joined_falling : (u : ℕ) → (u ≡ nobody → ⊥) → suc (left u) ≡ d → (l : ℕ) (saved : List ℕ) (deeper : List Saved)
      → Falling (suc d) deeper l → FallingUpdate left (update_joined d (wrote u l saved deeper))
  joined_falling u nu k l saved [] h = by_test (eqb l d) (λ e. rw (e, k) (nu, omega arith))
      (λ e. rw (e, k) (nu, omega (arith, eqb-false l d e)))
  joined_falling u nu k l saved (x ∷ xs) h = by_test (eqb x.0 d)
      (λ e. let f : Falling d xs l = rw (eqb-true x.0 d e) at h.1 in
      by_test (leb (d - 1) (last_level l xs)) (λ y. rw (e, y, k) (nu, f))
      (λ y. rw (e, y, k) (nu, (omega arith, lower xs f (leb-false (d - 1) (last_level l xs) y)))))
      (λ e. rw (e, k) (nu, (omega (arith, eqb-false x.0 d e, h.0), h.1)))
    where
      lower : (xs : List Saved) → Falling d xs l → last_level l xs < d - 1 → Falling (d - 1) xs l
      lower [] f y = y
      lower (x ∷ xs) f y = (y, f.1)

  joined_writes : (u : Update) → FallingUpdate depth u
      → FallingUpdate left (cond (eqb (writer_of u) t) (update_joined d u) u)
  joined_writes u h = by_test (eqb (writer_of u) t) (λ e. rw e (own u h e)) (λ e. rw e (other_left u e h))
    where
      own : (u : Update) → FallingUpdate depth u → eqb (writer_of u) t ≡ true → FallingUpdate left (update_joined d u)
      own unwritten h e = tt
      own (wrote u l saved deeper) h e =
          let i = eqb-true u t e in
          joined_falling u h.0 (own_left u i) l saved deeper (rw (ap depth i ∙ at) at h.1)

  pub joined_levels : (a : Marked) → LevelsOpen depth a → LevelsOpen left (part_joined t d a)
  joined_levels a h = record {
    insertion = λ n. ⊎_map
        (λ b. record { deleter = b.deleter; level = rw (b.level, ne_eqb 0 d (λ z. omega (arith, z)), and-false (eqb a.deleter t)) })
        (level_joined a.inserter a.insertion_level) (h.insertion n);
    deletion = λ n. level_joined a.deleter a.deletion_level (h.deletion n);
    writes = joined_writes a.update h.writes;
  }

-- a granted step ---------------------------------------------------------------------------------

-- locks are no marks
pub granted_levels : (depth : ℕ → ℕ) (t : ℕ) (ls : List Lock) (a : Marked) → LevelsOpen depth a → LevelsOpen depth (granted_to t ls a)
granted_levels depth t ls a h = record {
  insertion = λ n. ⊎_map (λ b. record { deleter = b.deleter; level = b.level }) (λ b. b) (h.insertion n);
  deletion = h.deletion;
  writes = h.writes;
}

module _ (t d : ℕ) (nz : t ≡ nobody → ⊥) (depth : ℕ → ℕ) (at : depth t ≡ d) where
  -- t writes over what nobody else wrote
  saving_falling : (b : List ℕ) (u : Update) → local t (writer_of u) ≡ true → FallingUpdate depth u → FallingUpdate depth (saving t d b u)
  saving_falling b unwritten e h = (nz, omega (arith, at))
  saving_falling b (wrote u l saved deeper) e h =
      let i : u ≡ t = ⊎_elim (λ p. absurd (h.0 (eqb-true u nobody p))) (eqb-true u t) (or_cases (eqb u nobody) (eqb u t) e) in
      let f : Falling (suc (depth t)) deeper l = rw i at h.1 in
      (nz, by_test (saved_since d l deeper) (λ y. rw y f) (λ y. rw y (omega (arith, at), none_since d (suc (depth t)) deeper l y f)))

  -- and deletes what nobody had deleted
  pub edited_levels : (w x : Bool) (a a' : Marked) → Edits t d w x a a' → a'.inserter ≡ a.inserter
      → a'.insertion_level ≡ a.insertion_level → (w ≡ true → local t (writer_of a.update) ≡ true)
      → (x ≡ true → a.deleter ≡ nobody) → LevelsOpen depth a → LevelsOpen depth a'
  edited_levels w x a a' m i j local_writer undeleted h = record { insertion = ins; deletion = del; writes = wri }
    where
      ins : (a'.inserter ≡ nobody → ⊥) → TakenBack a' ⊎ (a'.insertion_level ≤ depth a'.inserter)
      ins n = ⊎_map
          (λ b. let e : x ≡ false = refuted x (λ y. n (i ∙ sym b.deleter ∙ undeleted y)) in record {
            deleter = m.deleter ∙ rw (e, i) b.deleter;
            level = m.deletion_level ∙ rw e b.level;
          })
          (λ b. rw (i, j) b) (h.insertion (λ z. n (i ∙ z)))

      del : (a'.deleter ≡ nobody → ⊥) → a'.deletion_level ≤ depth a'.deleter
      del n = by_test x (λ e. rw (m.deleter, m.deletion_level, e) (omega (arith, at)))
          (λ e. let k : a'.deleter ≡ a.deleter = m.deleter ∙ rw e in
          rw (k, m.deletion_level, e) (h.deletion (λ z. n (k ∙ z))))

      wri : FallingUpdate depth a'.update
      wri = rw m.update (by_test w (λ e. rw e (saving_falling a.now.content a.update (local_writer e) h.writes))
          (λ e. rw e h.writes))

  -- a new node
  pub new_levels : (a : Marked) → a.inserter ≡ t → a.insertion_level ≡ d → a.update ≡ unwritten → a.deleter ≡ nobody
      → LevelsOpen depth a
  new_levels a i j u k = record {
    insertion = λ n. inr (rw (i, j) (omega (arith, at)));
    deletion = λ n. absurd (n k);
    writes = rw u tt;
  }

-- the end of a transaction ------------------------------------------------------------------------

module _ (t : ℕ) (depth : ℕ → ℕ) where
  abbrev ended : ℕ → ℕ
  ended = with_depth_of t 0 depth

  other_level : (u l : ℕ) → eqb u t ≡ false → l ≤ depth u → l ≤ ended u
  other_level u l e h = rw e h

  -- a mark without t that is one
  still : (u : ℕ) → (without t u ≡ nobody → ⊥) → eqb u t ≡ false
  still u n = refuted _ (λ e. n (rw e))

  ended_writes : (u : Update) → FallingUpdate depth u → FallingUpdate ended (update_without t u)
  ended_writes unwritten h = by_test (eqb nobody t) (λ e. rw e tt) (λ e. rw e tt)
  ended_writes (wrote u l saved deeper) h = by_test (eqb u t) (λ e. rw e tt) (λ e. rw e (h.0, rw e h.1))

  pub lasting_levels : (k : ℕ) (a : Marked) → seen_by t a ≡ true → LevelsOpen depth a → LevelsOpen ended (lasting k t a)
  lasting_levels k a s h = record {
    insertion = λ n. let e = still a.inserter n in rw e (⊎_map
        (λ b. record { deleter = b.deleter; level = b.level }) (other_level _ _ e)
        (h.insertion (λ z. n (rw e z))));
    deletion = λ n. other_level a.deleter a.deletion_level (not-true _ s) (h.deletion n);
    writes = ended_writes a.update h.writes;
  }

  pub aborted_levels : (a : Marked) → not (eqb a.inserter t) ≡ true → LevelsOpen depth a → LevelsOpen ended (undone t a)
  aborted_levels a s h = record {
    insertion = λ n. ⊎_map
        (λ b. record { deleter = rw (b.deleter, not-true (eqb a.inserter t) s); level = b.level })
        (other_level _ _ (not-true (eqb a.inserter t) s)) (h.insertion n);
    deletion = λ n. let e = still a.deleter n in rw e (other_level a.deleter _ e (h.deletion (λ z. n (rw e z))));
    writes = ended_writes a.update h.writes;
  }
