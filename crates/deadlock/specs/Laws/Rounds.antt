-- Laws of the test for a ring: the turns of the loop that joins sets, and the rounds of the test.
use Prim.Native.Nat.{ℕ, suc, ◌+◌, ◌-◌, ◌≤◌, ◌<◌}
use Rattle.std.specs.Prelude.{◌≡◌, Bool, cond, ◌&&◌, ◌||◌, List}
use Rattle.std.proofs.Math.Path.{refl, fun_ext}
use Rattle.std.proofs.Common.{sym, ap, ◌∙◌}
use Rattle.std.proofs.Math.Bool.{true, false}
use native.Mathlib.Omega.{arith}
use Rattle.std.proofs.Math.Numerals.{add-one}
use Rattle.std.specs.Int.Bits.{bit_or}
use Rattle.std.proofs.Math.ListN.{get_or}
use Rattle.tree.specs.Lists.{any}
use Rattle.locks.specs.Modes.{bit}
use Rattle.locks.specs.Words.{some_place}
use Rattle.locks.proofs.Laws.Sets.{bit_of_or}
use Rattle.protocol.specs.State.{is_transaction, transactions, in_set, WaitSets}
use Rattle.protocol.specs.Rings.{waits_within, in_ring}
use Rattle.protocol.proofs.Laws.Transactions.{is_transaction_of, empty_set}
use Rattle.deadlock.specs.Sets.{sets_of, onward}

-- sets ---------------------------------------------------------------------------------

pub in_either : (v w u : ℕ) → in_set (bit_or v w) u ≡ (in_set v u || in_set w u)
in_either v w u = go (is_transaction u)
  where
    go : (b : Bool) → cond b (bit (bit_or v w) (u - 1)) false ≡ (cond b (bit v (u - 1)) false || cond b (bit w (u - 1)) false)
    go true = bit_of_or v w (u - 1)
    go false = refl

pub word_set : (l : List ℕ) (t u : ℕ) → 1 ≤ t → t ≤ 16 → sets_of l t u ≡ in_set (get_or l (t - 1) 0) u
unfolding sets_of
word_set l t u h k = rw (is_transaction_of t h k)

-- a round ------------------------------------------------------------------------------

-- some transaction behind v passes
behind : (ℕ → Bool) → ℕ → Bool
behind q v = some_place q (16 - v) (suc v)

module _ (q : ℕ → Bool) where
  behind_nobody : behind q 0 ≡ any q transactions
  unfolding behind some_place
  behind_nobody = refl

  behind_last : behind q 16 ≡ false
  unfolding behind some_place
  behind_last = refl

  behind_turn : (v : ℕ) → v < 16 → behind q v ≡ (q (v + 1) || behind q (v + 1))
  unfolding behind some_place
  behind_turn v h = let e : 16 - v ≡ suc (16 - (v + 1)) = omega arith in rw (e, add-one v)

-- u is in the set of v, which is in reach
abbrev led : List ℕ → ℕ → ℕ → ℕ → Bool
led l reach u v = sets_of l v u && in_set reach v

-- next has those to whom t and the transactions up to v lead; those behind v lead to the rest
pub Joined : List ℕ → ℕ → ℕ → ℕ → ℕ → Type 0
Joined l t reach next v = (u : ℕ) → onward (sets_of l) t (in_set reach) u ≡ (in_set next u || behind (led l reach u) v)

pub joined_first : (l : List ℕ) (t reach : ℕ) → 1 ≤ t → t ≤ 16 → Joined l t reach (get_or l (t - 1) 0) 0
unfolding onward Joined
joined_first l t reach h k u = rw (word_set l t u h k, behind_nobody)

pub joined_all : (l : List ℕ) (t reach next v : ℕ) → v ≡ 16 → Joined l t reach next v
    → (u : ℕ) → in_set next u ≡ onward (sets_of l) t (in_set reach) u
unfolding Joined
joined_all l t reach next v e j u = sym (j u ∙ rw (e, behind_last (led l reach u)) (go (in_set next u)))
  where
    go : (b : Bool) → (b || false) ≡ b
    go true = refl
    go false = refl

module _ (l : List ℕ) (t reach next v : ℕ) (h : v < 16) (j : Joined l t reach next v) where
  pub joined_passed : in_set reach (v + 1) ≡ false → Joined l t reach next (v + 1)
  unfolding Joined
  joined_passed e u = j u ∙ rw (behind_turn (led l reach u) v h, e)
      (go (in_set next u) (sets_of l (v + 1) u) (behind (led l reach u) (v + 1)))
    where
      go : (a b c : Bool) → (a || ((b && false) || c)) ≡ (a || c)
      go a true c = refl
      go a false c = refl

  pub joined_more : in_set reach (v + 1) ≡ true → Joined l t reach (bit_or next (get_or l v 0)) (v + 1)
  unfolding Joined
  joined_more e u =
      let w = get_or l v 0 in
      let z : v + 1 - 1 ≡ v = omega arith in
      j u ∙ rw (behind_turn (led l reach u) v h, e, word_set l (v + 1) u (omega arith) (omega arith), z, in_either next w u)
      (go (in_set next u) (in_set w u) (behind (led l reach u) (v + 1)))
    where
      go : (a b c : Bool) → (a || ((b && true) || c)) ≡ ((a || b) || c)
      go true b c = refl
      go false true c = refl
      go false false c = refl

-- rounds -------------------------------------------------------------------------------

-- `waits_within`, which unfolds at a numeral, under a name that does not
unfoldable within : ℕ → WaitSets → ℕ → ℕ → Bool
within n r t u = waits_within n r t u

-- after n rounds reach has those to whom a path of at most n waits leads
pub Reached : List ℕ → ℕ → ℕ → ℕ → Type 0
Reached l t n reach = (u : ℕ) → in_set reach u ≡ within n (sets_of l) t u

pub reached_none : (l : List ℕ) (t : ℕ) → Reached l t 0 0
unfolding within Reached
reached_none l t u = ap (λ (S : ℕ → Bool). S u) empty_set

reached_next : (n : ℕ) (r : WaitSets) (t u : ℕ) → onward r t (within n r t) u ≡ within (n + 1) r t u
unfolding within onward
reached_next n r t u = rw add-one

pub reached_more : (l : List ℕ) (t n x y : ℕ) → Reached l t n x
    → ((u : ℕ) → in_set y u ≡ onward (sets_of l) t (in_set x) u) → Reached l t (n + 1) y
unfolding Reached
reached_more l t n x y e f u =
    f u ∙ ap (λ (reach : ℕ → Bool). onward (sets_of l) t reach u) (fun_ext e) ∙ reached_next n (sets_of l) t u

ring_is : (r : WaitSets) (t : ℕ) → within 16 r t t ≡ in_ring r t
unfolding within in_ring
ring_is r t = refl

pub ring_found : (l : List ℕ) (t n x : ℕ) → n ≡ 16 → Reached l t n x → in_set x t ≡ in_ring (sets_of l) t
unfolding Reached
ring_found l t n x z e = rw z at (e t) ∙ ring_is (sets_of l) t
