-- The levels of marks: those of saved contents fall, all are open; and the content that a set of levels shows.
use Rattle.std.specs.Prelude.{ℕ, suc, ◌<◌, ◌≤◌, ◌≡◌, Bool, true, false, cond, ◌&&◌, ◌||◌, List, [], ◌∷◌, ◌⊎◌, eqb, leb}
use Rattle.std.proofs.Common.{◌∙◌, sym, true≢false, arith, leb-false, le-leb}
use Rattle.std.proofs.Math.Bool.{or-false}
use Rattle.std.proofs.lemmas.Bool.{lt-leb}
use Rattle.tree.specs.Laws.Tests.{or_left, or_right}
use Rattle.serializability.proofs.Laws.Tests.{by_test, affirmed}
use Rattle.protocol.specs.State.{nobody, Saved, Update, unwritten, wrote, writer_of, level_of, Marked, content_at}
use Rattle.protocol.specs.State.{saved_since}
use Rattle.serializability.proofs.Laws.Parts.{Extent, shows}

-- levels of saved contents fall, each below the one before; all are below n
abbrev pub Falling : ℕ → List Saved → ℕ → Type 0
Falling n [] l = l < n
Falling n (x ∷ xs) l = (x.0 < n) × Falling x.0 xs l

-- somebody wrote, at levels that it has open
abbrev pub FallingUpdate : (ℕ → ℕ) → Update → Type 0
FallingUpdate depth unwritten = Unit {0}
FallingUpdate depth (wrote u l saved deeper) = (u ≡ nobody → ⊥) × Falling (suc (depth u)) deeper l

-- the insertion of the node was undone: it is deleted by its inserter at level 0, and shown by no set
pub record TakenBack (a : Marked) : Type 0 where
  pub deleter : a.deleter ≡ a.inserter
  pub level : a.deletion_level ≡ 0

-- the marks of a node are of levels that their transactions have open; an insertion that was undone keeps the level of its part
pub record LevelsOpen (depth : ℕ → ℕ) (a : Marked) : Type 0 where
  pub insertion : (a.inserter ≡ nobody → ⊥) → TakenBack a ⊎ (a.insertion_level ≤ depth a.inserter)
  pub deletion : (a.deleter ≡ nobody → ⊥) → a.deletion_level ≤ depth a.deleter
  pub writes : FallingUpdate depth a.update

-- so much of what u did inserted the node or updated its content; deleted it
abbrev pub touched_within : Extent → ℕ → Marked → Bool
touched_within x u a =
    (eqb a.inserter u && shows x a.insertion_level) || (eqb (writer_of a.update) u && shows x (level_of a.update))

abbrev pub deleted_within : Extent → ℕ → Marked → Bool
deleted_within x u a = eqb a.deleter u && shows x a.deletion_level

-- saved levels ---------------------------------------------------------------------------

-- the first is below all
pub falling_first : (n : ℕ) (xs : List Saved) (l : ℕ) → Falling n xs l → l < n
falling_first n [] l h = h
falling_first n (x ∷ xs) l h = let k = falling_first x.0 xs l h.1 in omega (arith, h.0)

pub falling_more : (n m : ℕ) (xs : List Saved) (l : ℕ) → n ≤ m → Falling n xs l → Falling m xs l
falling_more n m [] l e h = omega arith
falling_more n m (x ∷ xs) l e h = (omega (arith, h.0), h.1)

-- all are below d where nothing was saved since
pub none_since : (d n : ℕ) (xs : List Saved) (l : ℕ) → saved_since d l xs ≡ false → Falling n xs l → Falling d xs l
none_since d n [] l e h = let k = leb-false d l (or_left _ _ e) in omega (arith, k)
none_since d n (x ∷ xs) l e h =
    let k = leb-false d x.0 (or_left _ _ (or_right (leb d l) _ e)) in
    (omega (arith, k), h.1)

-- and where all are below d nothing was
pub falling_since : (d : ℕ) (xs : List Saved) (l : ℕ) → Falling d xs l → saved_since d l xs ≡ false
falling_since d [] l h = rw (lt-leb d l h)
falling_since d (x ∷ xs) l h =
    let k = falling_since d xs l (falling_more x.0 d xs l (omega (arith, h.0)) h.1) in
    rw (lt-leb d x.0 h.0) k

-- the last was saved at d or deeper where any was
last_since : (d n : ℕ) (x : Saved) (xs : List Saved) (l : ℕ) → saved_since d l (x ∷ xs) ≡ true → Falling n (x ∷ xs) l
    → leb d x.0 ≡ true
last_since d n x xs l e h = affirmed _ (λ i.
    true≢false (sym e ∙ falling_since d (x ∷ xs) l (leb-false d x.0 i, h.1)))

-- contents -------------------------------------------------------------------------------

-- the levels below n show the same
pub content_under : (S S' : ℕ → Bool) (n : ℕ) → ((l : ℕ) → l < n → S l ≡ S' l) → (b : List ℕ) (xs : List Saved) (l : ℕ)
    (saved : List ℕ) → Falling n xs l → content_at S b xs l saved ≡ content_at S' b xs l saved
content_under S S' n h b [] l saved k = rw (h l k)
content_under S S' n h b (x ∷ xs) l saved k = rw (
  h x.0 k.0,
  content_under S S' x.0 (λ m i. h m (omega (arith, k.0))) x.1 xs l saved k.1,
)

pub content_same : (S S' : ℕ → Bool) → ((l : ℕ) → S l ≡ S' l) → (b : List ℕ) (xs : List Saved) (l : ℕ) (saved : List ℕ)
    → content_at S b xs l saved ≡ content_at S' b xs l saved
content_same S S' h b [] l saved = rw (h l)
content_same S S' h b (x ∷ xs) l saved = rw (h x.0, content_same S S' h x.1 xs l saved)

module _ (S : ℕ → Bool) where
  pub content_all : ((l : ℕ) → S l ≡ true) → (b : List ℕ) (xs : List Saved) (l : ℕ) (saved : List ℕ) → content_at S b xs l saved ≡ b
  content_all h b [] l saved = rw (h l)
  content_all h b (x ∷ xs) l saved = rw (h x.0)

  pub content_none : ((l : ℕ) → S l ≡ false) → (b : List ℕ) (xs : List Saved) (l : ℕ) (saved : List ℕ) → content_at S b xs l saved ≡ saved
  content_none h b [] l saved = rw (h l)
  content_none h b (x ∷ xs) l saved = rw (h x.0) (content_none h x.1 xs l saved)

  -- a write at level d is not shown by the levels below
  pub content_below : (d : ℕ) → ((l : ℕ) → leb d l ≡ true → S l ≡ false) → (n : ℕ) (b c : List ℕ) (xs : List Saved) (l : ℕ)
      (saved : List ℕ) → Falling n xs l
      → content_at S c (cond (saved_since d l xs) xs ((d, b) ∷ xs)) l saved ≡ content_at S b xs l saved
  content_below d h n b c xs l saved k = by_test (saved_since d l xs) (λ e. rw e (same xs k e))
      (λ e. rw (e, h d (le-leb d d (omega arith))))
    where
      same : (xs : List Saved) → Falling n xs l → saved_since d l xs ≡ true → content_at S c xs l saved ≡ content_at S b xs l saved
      same [] k e = rw (h l (sym (or-false (leb d l)) ∙ e))
      same (x ∷ xs) k e = rw (h x.0 (last_since d n x xs l e k))
