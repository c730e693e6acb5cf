-- A mask looked up once says what the table says of each mode: a node's modes touch the mask of a set exactly if one clashes with one of
-- the set.
use Rattle.std.specs.Prelude.{◌≡◌, ℕ, suc, Bool, true, false, ◌&&◌, ◌||◌}
use Rattle.std.proofs.Math.Path.{refl, fun_ext}
use Rattle.std.proofs.Common.{ap, ◌∙◌}
use Rattle.std.proofs.Math.Bool.{or-false}
use mathlib.Core.List.{List, [], ◌∷◌}
use Rattle.tree.specs.Lists.{any}
use Rattle.tree.specs.Laws.Lists.{any_same}
use Rattle.locks.specs.Modes.{Mode, LT, LC, LR, LU, LW, LTT, LRR, LUU, LIR, LIU, LIW, LICW, modes, ModeSet, same_mode}
use Rattle.locks.specs.Modes.{among, clash, against, in_word}
use Rattle.locks.specs.Needs.{Need}
use Rattle.locks.specs.Words.{mask_of, word_of, words}
use Rattle.locks.proofs.Laws.Clash.{clash_symmetric}
use Rattle.locks.proofs.Laws.Sets.{in_mask, SameSets}
use Rattle.protocol.specs.State.{Marked}
use Rattle.rows.specs.Found.{blocks_node, blocks_way, blocks_at}
use Rattle.engine.specs.Waits.{masks_of, touches, touches_from, blocks_by}

-- some of two tests
any_or : {A : Type 0} (p q : A → Bool) (l : List A) → any (λ a. p a || q a) l ≡ (any p l || any q l)
any_or p q [] = refl
any_or p q (x ∷ l) = rw (any_or p q l) (mix (p x) (q x) (any p l) (any q l))
  where
    mix : (a b c d : Bool) → ((a || b) || (c || d)) ≡ ((a || c) || (b || d))
    mix true b c d = refl
    mix false true true d = refl
    mix false true false d = refl
    mix false false c d = refl

any_never : {A : Type 0} (p : A → Bool) (l : List A) → any (λ a. p a && false) l ≡ false
any_never p [] = refl
any_never p (x ∷ l) = rw (any_never p l) (go (p x))
  where
    go : (a : Bool) → ((a && false) || false) ≡ false
    go true = refl
    go false = refl

-- the one mode of a test
any_mode : (q : Mode → Bool) (x : Mode) → any (λ b. same_mode b x && q b) modes ≡ q x
any_mode q LT = or-false (q LT)
any_mode q LC = or-false (q LC)
any_mode q LR = or-false (q LR)
any_mode q LU = or-false (q LU)
any_mode q LW = or-false (q LW)
any_mode q LTT = or-false (q LTT)
any_mode q LRR = or-false (q LRR)
any_mode q LUU = or-false (q LUU)
any_mode q LIR = or-false (q LIR)
any_mode q LIU = or-false (q LIU)
any_mode q LIW = or-false (q LIW)
any_mode q LICW = or-false (q LICW)

or_and : (a b c : Bool) → ((a || b) && c) ≡ ((a && c) || (b && c))
or_and true true true = refl
or_and true true false = refl
or_and true false true = refl
or_and true false false = refl
or_and false b c = refl

and_or : (a b c : Bool) → (a && (b || c)) ≡ ((a && b) || (a && c))
and_or true b c = refl
and_or false b c = refl

-- one mode of a list more
against_more : (x : Mode) (ms : List Mode) (m : Mode) → against (among (x ∷ ms)) m ≡ (clash m x || against (among ms) m)
against_more x ms m =
    any_same (λ b. (same_mode b x || among ms b) && clash m b) (λ b. (same_mode b x && clash m b) || (among ms b && clash m b)) modes
    (λ b i. or_and (same_mode b x) (among ms b) (clash m b))
    ∙ any_or (λ b. same_mode b x && clash m b) (λ b. among ms b && clash m b) modes
    ∙ ap (λ z. z || against (among ms) m) (any_mode (clash m) x)

-- modes held against a list of modes needed, from either side
met : (h : ModeSet) (ms : List Mode) → any (λ m. h m && against (among ms) m) modes ≡ any (against h) ms
met h [] = any_never h modes
met h (x ∷ ms) =
    any_same (λ m. h m && against (among (x ∷ ms)) m) (λ m. (h m && clash x m) || (h m && against (among ms) m)) modes
    (λ m i. rw (against_more x ms m, clash_symmetric m x) (and_or (h m) (clash x m) (against (among ms) m)))
    ∙ any_or (λ m. h m && clash x m) (λ m. h m && against (among ms) m) modes
    ∙ ap (λ z. against h x || z) (met h ms)

-- on one node
pub touches_mask : (ms : List Mode) → ((m : Mode) → in_word (word_of ms) m ≡ among ms m) → (u : ℕ) (a : Marked)
    → touches (mask_of (word_of ms)) u a ≡ blocks_node ms u a
unfolding touches
touches_mask ms e u a =
    let f : in_word (word_of ms) ≡ among ms = fun_ext e in
    any_same (λ m. a.held u m && in_word (mask_of (word_of ms)) m) (λ m. a.held u m && against (among ms) m) modes
    (λ m i. ap (λ z. a.held u m && z) (in_mask (word_of ms) m ∙ ap (λ p. against p m) f))
    ∙ met (a.held u) ms

-- along the way
module _ (w : Need) (e : SameSets w) (u : ℕ) where
  above_mask : (j : ℕ) (way : List Marked)
      → touches_from (masks_of (words w)) (suc (suc j)) u way ≡ blocks_way w.above w.above w.above u way
  unfolding touches_from blocks_way
  above_mask j [] = refl
  above_mask j (a ∷ way) = rw (touches_mask w.above e.above u a, above_mask (suc j) way)

  parent_mask : (way : List Marked) → touches_from (masks_of (words w)) 1 u way ≡ blocks_way w.parent w.above w.above u way
  unfolding touches_from blocks_way
  parent_mask [] = refl
  parent_mask (a ∷ way) = rw (touches_mask w.parent e.parent u a, above_mask 0 way)

  pub way_mask : (way : List Marked) → touches_from (masks_of (words w)) 0 u way ≡ blocks_way w.node w.parent w.above u way
  unfolding touches_from blocks_way
  way_mask [] = refl
  way_mask (a ∷ way) = rw (touches_mask w.node e.node u a, parent_mask way)

pub blocks_mask : (w : Need) → SameSets w → (t : ℕ) (is_open : ℕ → Bool) (way : List Marked) (u : ℕ)
    → blocks_by t (masks_of (words w)) is_open way u ≡ blocks_at t w is_open way u
unfolding blocks_by
blocks_mask w e t is_open way u = rw (way_mask w e u way)
