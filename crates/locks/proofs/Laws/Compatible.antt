-- Locks that do not clash, and what that says of the nodes that two steps are on.
use Rattle.std.specs.Prelude.{◌≡◌, refl, ℕ, Bool, true, false, ◌&&◌, ◌||◌, ◌⊎◌, eqb}
use Rattle.std.proofs.Common.{sym, ◌∙◌, true≢false, inl, inr, eqb-true, eq-eqb}
use Rattle.std.proofs.lemmas.Bool.{false≢true}
use mathlib.Core.List.Memᴰ
use mathlib.Core.List.{List, [], ◌∷◌, ◌++◌, Memᴰ}
use Rattle.tree.specs.Lists.{any, has, leads}
use Rattle.tree.specs.Steps.{Step, target, inserts}
use Rattle.tree.specs.Laws.Tests.{and_left, and_right, or_cases, refuted}
use Rattle.tree.specs.Laws.Lists.{any_at, map_in}
use Rattle.locks.specs.Modes.{Mode, clash}
use Rattle.locks.specs.Needs.{Need, need, Lock, each, every_one, up, locks}
use Rattle.locks.proofs.Laws.Clash.{clash_symmetric}

-- mode a on node q is among the locks
abbrev pub Locked : ℕ → Mode → List Lock → Type 0
Locked q a l = Memᴰ {A = Lock} (q, a) l

-- no lock of the one list clashes with a lock of the other
abbrev pub Compatible : List Lock → List Lock → Type 0
Compatible l k = (q : ℕ) (a b : Mode) → Locked q a l → Locked q b k → clash a b ≡ false

pub compatible_symmetric : (l k : List Lock) → Compatible l k → Compatible k l
compatible_symmetric l k c q a b x y = clash_symmetric a b ∙ c q b a y x

-- the locks of a step ---------------------------------------------------------------

-- all these modes on node q are among the locks
abbrev pub AllLocked : ℕ → List Mode → List Lock → Type 0
AllLocked q held l = (a : Mode) → Memᴰ a held → Locked q a l

in_each : (x q : ℕ) (held : List Mode) → eqb x q ≡ true → AllLocked q held (each held x)
in_each x q held e a m = rw (← eqb-true x q e) (map_in {B = Lock} (λ z. (x, z)) m)

in_every_one : (q : ℕ) (held : List Mode) (p : List ℕ) → has q p ≡ true → AllLocked q held (every_one held p)
in_every_one q held [] h a m = absurd (false≢true h)
in_every_one q held (x ∷ p) h a m = go (eqb x q) refl h (λ i. in_every_one q held p i a m)
  where
    go : (t : Bool) → eqb x q ≡ t → (t || has q p) ≡ true → (has q p ≡ true → Locked q a (every_one held p))
        → Locked q a (each held x ++ every_one held p)
    go true e i f = Memᴰ.append_left (every_one held p) (in_each x q held e a m)
    go false e i f = Memᴰ.append_right (each held x) (f i)

module _ (s : Step) (p : List ℕ) where
  pub node_locked : AllLocked (target s) (need s).node (locks s p)
  unfolding locks
  node_locked a m = Memᴰ.append_left _ (in_each (target s) (target s) (need s).node (eq-eqb (target s) (target s) refl) a m)

  up_locked : (q : ℕ) (a : Mode) → Locked q a (up (need s) p) → Locked q a (locks s p)
  unfolding locks
  up_locked q a m = Memᴰ.append_right (each (need s).node (target s)) (Memᴰ.append_left _ m)

  pub new_locked : (m : ℕ) → has m (inserts s) ≡ true → AllLocked m (need s).new (locks s p)
  unfolding locks
  new_locked m h a i = Memᴰ.append_right (each (need s).node (target s))
      (Memᴰ.append_right (up (need s) p) (in_every_one m (need s).new (inserts s) h a i))

  pub parent_locked : (q : ℕ) → leads q p ≡ true → AllLocked q (need s).parent (locks s p)
  parent_locked q h a m = up_locked q a (go p h)
    where
      go : (p : List ℕ) → leads q p ≡ true → Locked q a (up (need s) p)
      go [] h = absurd (false≢true h)
      go (x ∷ p) h = Memᴰ.append_left (every_one (need s).above p) (in_each x q (need s).parent h a m)

  -- an ancestor is locked as the parent or as one above the parent
  pub above_locked : (q : ℕ) → has q p ≡ true → AllLocked q (need s).parent (locks s p) ⊎ AllLocked q (need s).above (locks s p)
  above_locked q h = lift (go p h)
    where
      lift : AllLocked q (need s).parent (up (need s) p) ⊎ AllLocked q (need s).above (up (need s) p)
          → AllLocked q (need s).parent (locks s p) ⊎ AllLocked q (need s).above (locks s p)
      lift (inl f) = inl (λ a m. up_locked q a (f a m))
      lift (inr f) = inr (λ a m. up_locked q a (f a m))

      go : (p : List ℕ) → has q p ≡ true → AllLocked q (need s).parent (up (need s) p) ⊎ AllLocked q (need s).above (up (need s) p)
      go [] h = absurd (false≢true h)
      go (x ∷ p) h = split (eqb x q) refl h
        where
          split : (t : Bool) → eqb x q ≡ t → (t || has q p) ≡ true
              → AllLocked q (need s).parent (up (need s) (x ∷ p)) ⊎ AllLocked q (need s).above (up (need s) (x ∷ p))
          split true e i = inl (λ a m. Memᴰ.append_left (every_one (need s).above p) (in_each x q (need s).parent e a m))
          split false e i = inr (λ a m. Memᴰ.append_right (each (need s).parent x) (in_every_one q (need s).above p i a m))

-- clashes ----------------------------------------------------------------------------

-- a mode of the one list clashes with a mode of the other
abbrev pub clashing : List Mode → List Mode → Bool
clashing held asked = any (λ a. any (clash a) asked) held

pub not_both : (q : ℕ) (held asked : List Mode) (l k : List Lock) → clashing held asked ≡ true → Compatible l k → AllLocked q held l
    → AllLocked q asked k → ⊥
not_both q held asked l k h c x y =
    let f = any_at (λ a. any (clash a) asked) held h in
    let g = any_at (clash f.0) asked f.2 in
    true≢false (sym g.2 ∙ c q f.0 g.0 (x f.0 f.1) (y g.0 g.1))

-- the modes clash with what a step needs on its node, on the parent, and above
abbrev pub excludes : List Mode → Need → Bool
excludes held w = clashing held w.node && (clashing held w.parent && clashing held w.above)

-- node q is locked in these modes, and another step's locks are compatible
module _ (q : ℕ) (held : List Mode) (l : List Lock) (locked : AllLocked q held l) (s : Step) (p : List ℕ)
    (c : Compatible l (locks s p)) where
  pub off_node : clashing held (need s).node ≡ true → eqb (target s) q ≡ false
  off_node h = refuted _ (λ e. not_both q held (need s).node l (locks s p) h c locked (rw (eqb-true (target s) q e) at (node_locked s p)))

  pub off_parent : clashing held (need s).parent ≡ true → leads q p ≡ false
  off_parent h = refuted _ (λ e. not_both q held (need s).parent l (locks s p) h c locked (parent_locked s p q e))

  pub off_new : clashing held (need s).new ≡ true → has q (inserts s) ≡ false
  off_new h = refuted _ (λ e. not_both q held (need s).new l (locks s p) h c locked (new_locked s p q e))

  -- the step is neither on q nor below it
  pub off_path : excludes held (need s) ≡ true → has q (target s ∷ p) ≡ false
  off_path h = refuted _ (λ e. go (or_cases (eqb (target s) q) (has q p) e))
    where
      rest : clashing held (need s).parent && clashing held (need s).above ≡ true
      rest = and_right (clashing held (need s).node) _ h

      up : AllLocked q (need s).parent (locks s p) ⊎ AllLocked q (need s).above (locks s p) → ⊥
      up (inl f) = not_both q held (need s).parent l (locks s p) (and_left _ _ rest) c locked f
      up (inr f) = not_both q held (need s).above l (locks s p) (and_right (clashing held (need s).parent) _ rest) c locked f

      go : (eqb (target s) q ≡ true) ⊎ (has q p ≡ true) → ⊥
      go (inl e) = true≢false (sym e ∙ off_node (and_left _ _ h))
      go (inr e) = up (above_locked s p q e)
