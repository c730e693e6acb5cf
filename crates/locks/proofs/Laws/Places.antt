-- On which nodes the locks of a step are.
use Rattle.std.specs.Prelude.{◌≡◌, refl, ℕ, Bool, true, false, ◌||◌, ◌⊎◌, eqb}
use Rattle.std.proofs.Common.{sym, ap, inl, inr, eqb-true, eq-eqb}
use Rattle.std.proofs.Math.Bool.{or-true}
use mathlib.Core.List.Memᴰ
use mathlib.Core.List.{List, [], ◌∷◌, ◌++◌, Memᴰ}
use Rattle.tree.specs.Lists.{has}
use Rattle.tree.specs.Laws.Lists.{in_map}
use Rattle.tree.specs.Steps.{Step, T, C, R, U, D, I, TT, RR, UU, target, inserts}
use Rattle.locks.specs.Modes.{Mode, LT, LC, LR, LU, LW, LTT, LRR, LUU, LIR, LIU, LIW, LICW}
use Rattle.locks.specs.Needs.{Lock, Need, need, each, every_one, up, locks}
use Rattle.locks.proofs.Laws.Compatible.{Locked, AllLocked, node_locked, above_locked, new_locked}

-- the node and the mode of a lock
pub in_each : (ms : List Mode) (q : ℕ) (l : Lock) → Memᴰ l (each ms q) → (l.0 ≡ q) × Memᴰ l.1 ms
in_each ms q l m =
    let i = in_map {B = Lock} (λ a. (q, a)) ms {b = l} m in
    (ap (λ (x : Lock). x.0) i.2, rw (ap (λ (x : Lock). x.1) i.2) i.1)

pub in_every_one : (ms : List Mode) (p : List ℕ) (l : Lock) → Memᴰ l (every_one ms p) → (has l.0 p ≡ true) × Memᴰ l.1 ms
in_every_one ms [] l m = absurd (Memᴰ.not-nil m)
in_every_one ms (q ∷ p) l m = go (Memᴰ.append_cases (each ms q) m) (in_every_one ms p l)
  where
    go : Memᴰ l (each ms q) ⊎ Memᴰ l (every_one ms p)
        → (Memᴰ l (every_one ms p) → (has l.0 p ≡ true) × Memᴰ l.1 ms)
        → (has l.0 (q ∷ p) ≡ true) × Memᴰ l.1 ms
    go (inl i) f = let e = in_each ms q l i in (rw (eq-eqb q l.0 (sym e.0)), e.1)
    go (inr i) f = let e = f i in (rw e.0 (or-true (eqb q l.0)), e.1)

up_at : (w : Need) (p : List ℕ) (l : Lock) → Memᴰ l (up w p) → has l.0 p ≡ true
up_at w [] l m = absurd (Memᴰ.not-nil m)
up_at w (q ∷ p) l m = go (Memᴰ.append_cases (each w.parent q) m)
  where
    go : Memᴰ l (each w.parent q) ⊎ Memᴰ l (every_one w.above p) → has l.0 (q ∷ p) ≡ true
    go (inl i) = rw (eq-eqb q l.0 (sym (in_each w.parent q l i).0))
    go (inr i) = rw (in_every_one w.above p l i).0 (or-true (eqb q l.0))

-- on the node that the step is on, above it, or on the new node
pub lock_place : (s : Step) (p : List ℕ) (l : Lock) → Memᴰ l (locks s p)
    → (has l.0 (target s ∷ p) ≡ true) ⊎ (has l.0 (inserts s) ≡ true)
unfolding locks
lock_place s p l m = go (Memᴰ.append_cases (each (need s).node (target s)) m)
  where
    rest : Memᴰ l (up (need s) p) ⊎ Memᴰ l (every_one (need s).new (inserts s))
        → (has l.0 (target s ∷ p) ≡ true) ⊎ (has l.0 (inserts s) ≡ true)
    rest (inl i) = inl (rw (up_at (need s) p l i) (or-true (eqb (target s) l.0)))
    rest (inr i) = inr (in_every_one (need s).new (inserts s) l i).0

    go : Memᴰ l (each (need s).node (target s)) ⊎ Memᴰ l (up (need s) p ++ every_one (need s).new (inserts s))
        → (has l.0 (target s ∷ p) ≡ true) ⊎ (has l.0 (inserts s) ≡ true)
    go (inl i) = inl (rw (eq-eqb (target s) l.0 (sym (in_each (need s).node (target s) l i).0)))
    go (inr i) = rest (Memᴰ.append_cases (up (need s) p) i)

-- a lock on every node of a path --------------------------------------------------------------

-- a step needs a mode on its node, on the parent, and above
some_need : (s : Step) → ((a : Mode) × Memᴰ a (need s).node) × ((a : Mode) × Memᴰ a (need s).parent)
    × ((a : Mode) × Memᴰ a (need s).above)
some_need (T n) = ((LT, Memᴰ.head refl), (LT, Memᴰ.head refl), (LT, Memᴰ.head refl))
some_need (C n k) = ((LC, Memᴰ.head refl), (LT, Memᴰ.head refl), (LT, Memᴰ.head refl))
some_need (R n) = ((LR, Memᴰ.head refl), (LIR, Memᴰ.head refl), (LIR, Memᴰ.head refl))
some_need (U n b) = ((LU, Memᴰ.head refl), (LIU, Memᴰ.head refl), (LIU, Memᴰ.head refl))
some_need (D n) = ((LW, Memᴰ.head refl), (LICW, Memᴰ.head refl), (LIW, Memᴰ.head refl))
some_need (I m kind b n k) = ((LC, Memᴰ.head refl), (LT, Memᴰ.head refl), (LT, Memᴰ.head refl))
some_need (TT n) = ((LTT, Memᴰ.head refl), (LT, Memᴰ.head refl), (LT, Memᴰ.head refl))
some_need (RR n) = ((LRR, Memᴰ.head refl), (LIR, Memᴰ.head refl), (LIR, Memᴰ.head refl))
some_need (UU n a b) = ((LUU, Memᴰ.head refl), (LIU, Memᴰ.head refl), (LIU, Memᴰ.head refl))

-- so it has a lock on its node and on every node above
pub path_locked : (s : Step) (p : List ℕ) (q : ℕ) → has q (target s ∷ p) ≡ true → (a : Mode) × Locked q a (locks s p)
path_locked s p q h = go (eqb (target s) q) refl h
  where
    up : AllLocked q (need s).parent (locks s p) ⊎ AllLocked q (need s).above (locks s p) → (a : Mode) × Locked q a (locks s p)
    up (inl f) = let a = (some_need s).1 in (a.0, f a.0 a.1)
    up (inr f) = let a = (some_need s).2 in (a.0, f a.0 a.1)

    go : (x : Bool) → eqb (target s) q ≡ x → (x || has q p) ≡ true → (a : Mode) × Locked q a (locks s p)
    go true e i = let a = (some_need s).0 in (a.0, rw (eqb-true (target s) q e) at (node_locked s p a.0 a.1))
    go false e i = up (above_locked s p q i)

-- insertions and deletions ---------------------------------------------------------------------

-- the locks of the deletion of a new node are among those of its insertion
pub insertion_guards : (m kind : ℕ) (b : List ℕ) (n k : ℕ) (p : List ℕ) (l : Lock) → Memᴰ l (locks (D m) (n ∷ p))
    → Memᴰ l (locks (I m kind b n k) p)
unfolding locks
insertion_guards m kind b n k p l x = node (Memᴰ.append_cases (each (LW ∷ []) m) x)
  where
    s : Step
    s = I m kind b n k

    LIW_there : Memᴰ LIW (LT ∷ LIW ∷ [])
    LIW_there = Memᴰ.tail (Memᴰ.head refl)

    above : (q : ℕ) → has q p ≡ true → Memᴰ {A = Lock} (q, LIW) (locks s p)
    above q h = go (above_locked s p q h)
      where
        go : AllLocked q (need s).parent (locks s p) ⊎ AllLocked q (need s).above (locks s p)
            → Memᴰ {A = Lock} (q, LIW) (locks s p)
        go (inl f) = f LIW LIW_there
        go (inr f) = f LIW LIW_there

    upper : Memᴰ l (each (LICW ∷ []) n) ⊎ Memᴰ l (every_one (LIW ∷ []) p) → Memᴰ l (locks s p)
    upper (inl i) = let e = in_each (LICW ∷ []) n l i in
        rw (e.0, Memᴰ.eq_of_singleton e.1) (node_locked s p LICW (Memᴰ.tail (Memᴰ.head refl)))
    upper (inr i) = let e = in_every_one (LIW ∷ []) p l i in rw (Memᴰ.eq_of_singleton e.1) (above l.0 e.0)

    rest : Memᴰ l (each (LICW ∷ []) n ++ every_one (LIW ∷ []) p) ⊎ Memᴰ l [] → Memᴰ l (locks s p)
    rest (inl i) = upper (Memᴰ.append_cases (each (LICW ∷ []) n) i)
    rest (inr i) = absurd (Memᴰ.not-nil i)

    node : Memᴰ l (each (LW ∷ []) m) ⊎ Memᴰ l ((each (LICW ∷ []) n ++ every_one (LIW ∷ []) p) ++ []) → Memᴰ l (locks s p)
    node (inl i) = let e = in_each (LW ∷ []) m l i in
        rw (e.0, Memᴰ.eq_of_singleton e.1) (new_locked s p m (rw (eq-eqb m m refl)) LW (Memᴰ.head refl))
    node (inr i) = rest (Memᴰ.append_cases (each (LICW ∷ []) n ++ every_one (LIW ∷ []) p) i)

-- the bytes play no part
pub U_locks : (n : ℕ) (b b' : List ℕ) (p : List ℕ) (l : Lock) → Memᴰ l (locks (U n b) p) → Memᴰ l (locks (U n b') p)
unfolding locks
U_locks n b b' p l m = m

pub UU_locks : (n : ℕ) (a b a' b' : List ℕ) (p : List ℕ) (l : Lock) → Memᴰ l (locks (UU n a b) p) → Memᴰ l (locks (UU n a' b') p)
unfolding locks
UU_locks n a b a' b' p l m = m
