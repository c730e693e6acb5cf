-- The words of the remembered wait sets, stored and struck.
use Rattle.std.specs.Prelude.{◌≡◌, ℕ, zero, suc, ◌+◌, ◌-◌, ◌^◌, ◌≤◌, ◌<◌, Bool, not, ◌&&◌, List, eqb, ltb}
use Rattle.std.proofs.Math.Path.{refl, fun_ext}
use Rattle.std.proofs.Common.{sym, ap, ◌∙◌, subst, arith, eqb-true, eq-eqb, ne_eqb, ltb-true, ltb-false, lt-ltb, le-ltb}
use Rattle.std.proofs.Math.Bool.{true, false, cond}
use Rattle.std.specs.Int.Bits.{bit_xor}
use Rattle.std.proofs.lemmas.Bool.{eqb-false}
use Rattle.tree.specs.Laws.Tests.{refuted}
use Rattle.locks.specs.Modes.{bit, no_mode, in_word}
use Rattle.protocol.specs.State.{is_transaction, in_set, WaitSets, with_remembered, with_set, set_header, struck}
use Rattle.table.specs.Layout.{lock_at, set_at, word, slot, remembered, held, header, nodes, Layout, Left}
use Rattle.table.specs.Laws.Bits.{bit_of_xor}
use Rattle.table.specs.Laws.Bytes.{Only, only_word, put_word, word_put, word_off}
use Rattle.table.specs.Laws.Kept.{left_on}
use Rattle.table.specs.Laws.Nodes.{header_is, same_cell, same_open, same_commits, left_none}
use Rattle.protocol.proofs.Laws.Transactions.{transaction_low, transaction_high, is_transaction_of, empty_set}
use Rattle.table.specs.Sets.{WithSet, Struck}

-- sets as words ------------------------------------------------------------------------

-- the bit of t turned over
pub turned_set : (w t u : ℕ) → 1 ≤ t → t ≤ 16 → in_set (bit_xor w (2 ^ (t - 1))) u ≡ cond (eqb u t) (not (in_set w t)) (in_set w u)
turned_set w t u a b = rw (bit_of_xor w (t - 1) (u - 1)) (go (eqb u t) refl (is_transaction u) refl)
  where
    go : (x : Bool) → eqb u t ≡ x → (y : Bool) → is_transaction u ≡ y →
        cond (is_transaction u) (cond (eqb (t - 1) (u - 1)) (not (bit w (t - 1))) (bit w (u - 1))) false ≡
        cond x (not (cond (is_transaction t) (bit w (t - 1)) false)) (cond (is_transaction u) (bit w (u - 1)) false)
    go true p y q = rw (eqb-true u t p, is_transaction_of t a b, eq-eqb (t - 1) (t - 1) refl)
    go false p true q =
        let ne : u ≡ t → ⊥ = eqb-false u t p in rw (q, ne_eqb (t - 1) (u - 1) (λ z. ne (omega (arith, transaction_low u q))))
    go false p false q = rw q

-- a set stored ---------------------------------------------------------------------------

-- only transactions wait
pub nobody_waits : (s : List ℕ) (t u : ℕ) → is_transaction t ≡ false → remembered s t u ≡ false
unfolding remembered
nobody_waits s t u e = rw e

-- the word of t
pub set_word : (s : List ℕ) (t : ℕ) → 1 ≤ t → t ≤ 16 → in_set (word s (set_at t)) ≡ remembered s t
unfolding remembered
set_word s t a b = fun_ext (λ u. rw (is_transaction_of t a b))

module _ (s s' : List ℕ) (t w : ℕ) (e : s' ≡ put_word s (set_at t) w) (h : Layout s) (a : 1 ≤ t) (b : t ≤ 16) where
  only_set : Only (set_at t) 2 s s'
  only_set = rw e (only_word s (set_at t) w)

  remembered_after : remembered s' ≡ with_set t (in_set w) (remembered s)
  unfolding remembered
  remembered_after = fun_ext (λ v. go v (eqb v t) refl (is_transaction v) refl)
    where
      is : word s' (set_at t) ≡ w
      is = rw e (word_put s (set_at t) w (omega (arith, h.size)))

      go : (v : ℕ) (x : Bool) → eqb v t ≡ x → (y : Bool) → is_transaction v ≡ y →
          (λ u. cond (is_transaction v) (in_set (word s' (set_at v)) u) false)
          ≡ cond x (in_set w) (λ u. cond (is_transaction v) (in_set (word s (set_at v)) u) false)
      go v true p y q = rw (eqb-true v t p, is_transaction_of t a b, is)
      go v false p true q =
          let ne : v ≡ t → ⊥ = eqb-false v t p in
          rw (q, word_off only_set (set_at v) (λ z. omega (arith, ne, transaction_low v q)))
      go v false p false q = rw q

  -- the lock words end where the sets begin
  held_as_before : (k : ℕ) → k < 1024 → held s' k ≡ held s k
  unfolding held
  held_as_before k l = fun_ext (λ v. go v (is_transaction v) refl)
    where
      go : (v : ℕ) (y : Bool) → is_transaction v ≡ y
          → cond y (in_word (word s' (lock_at v k))) no_mode ≡ cond y (in_word (word s (lock_at v k))) no_mode
      go v true q = rw (word_off only_set (lock_at v k) (λ z. omega (arith, transaction_low v q, transaction_high v q)))
      go v false q = refl

  pub remembered_left : WithSet s s' t (in_set w)
  remembered_left =
      left_none only_set h (omega arith) (omega arith) (λ x. omega arith) (λ x. omega arith)
      (header_is s' (same_open only_set (λ z. omega arith)) remembered_after (same_commits only_set (λ z. omega arith)))
      (λ j x. (
        same_cell only_set (slot s j) (λ z. let m = h.slots j (omega (arith, h.room)) in omega arith),
        held_as_before (slot s j) (h.slots j (omega (arith, h.room))),
      ))

-- what is stored, as another set
pub set_as : {s s' : List ℕ} (t : ℕ) (S S' : ℕ → Bool) → ((u : ℕ) → S u ≡ S' u) → WithSet s s' t S → WithSet s s' t S'
set_as {s} {s'} t S S' e k = subst (λ (q : ℕ → Bool). WithSet s s' t q) (fun_ext e) k

-- struck -----------------------------------------------------------------------------------

-- t struck from the set of v; w is the word that was read
abbrev without_one : ℕ → List ℕ → ℕ → ℕ → Bool
without_one t s v u = not (eqb u t) && remembered s v u

module _ (s : List ℕ) (t v w : ℕ) (e : w ≡ word s (set_at v)) (h : Layout s) (a : 1 ≤ t) (b : t ≤ 16) (c : 1 ≤ v) (d : v ≤ 16) where
  is_set : in_set w ≡ remembered s v
  is_set = rw e (set_word s v c d)

  pub not_there : in_set w t ≡ false → WithSet s s v (without_one t s v)
  not_there f = record {
    layout = h;
    long = refl;
    behind = refl;
    header = ap (λ (r : WaitSets). with_remembered r (header s)) (fun_ext (λ x. sym (same x (eqb x v) refl)));
    nodes = refl;
  }
    where
      gone : (u : ℕ) (y : Bool) → eqb u t ≡ y → (not y && remembered s v u) ≡ remembered s v u
      gone u true p = rw (eqb-true u t p, ← is_set) (sym f)
      gone u false p = refl

      same : (x : ℕ) (y : Bool) → eqb x v ≡ y → cond y (without_one t s v) (remembered s x) ≡ remembered s x
      same x true p = rw (eqb-true x v p) (fun_ext (λ u. gone u (eqb u t) refl))
      same x false p = refl

  pub taken_out : {s' : List ℕ} → in_set w t ≡ true → s' ≡ put_word s (set_at v) (bit_xor w (2 ^ (t - 1)))
      → WithSet s s' v (without_one t s v)
  taken_out {s'} f z = set_as v _ (without_one t s v) (λ u. turned_set w t u a b ∙ rw (f, ← is_set) (go (eqb u t) (in_set w u)))
      (remembered_left s s' v (bit_xor w (2 ^ (t - 1))) z h c d)
    where
      go : (x y : Bool) → cond x false y ≡ (not x && y)
      go true y = refl
      go false y = refl

-- the loop: t is struck from the sets of those below v
unfoldable pub struck_below : ℕ → ℕ → WaitSets → WaitSets
struck_below t v r x u = not (ltb x v && eqb u t) && r x u

abbrev pub StruckBelow : List ℕ → List ℕ → ℕ → ℕ → Type 0
StruckBelow s s' t v = Left s s' (with_remembered (struck_below t v (remembered s)) (header s)) (nodes s)

sets_as : {s s' : List ℕ} (r r' : WaitSets) → ((x u : ℕ) → r x u ≡ r' x u) → Left s s' (with_remembered r (header s)) (nodes s)
    → Left s s' (with_remembered r' (header s)) (nodes s)
sets_as {s} {s'} r r' e k =
    subst (λ (q : WaitSets). Left s s' (with_remembered q (header s)) (nodes s)) (fun_ext (λ x. fun_ext (λ u. e x u))) k

pub strike_start : (s : List ℕ) (t : ℕ) → Layout s → StruckBelow s s t 1
unfolding struck_below
strike_start s t h = sets_as (remembered s) (struck_below t 1 (remembered s)) low
    (record { layout = h; long = refl; behind = refl; header = refl; nodes = refl })
  where
    low : (x u : ℕ) → remembered s x u ≡ (not (ltb x 1 && eqb u t) && remembered s x u)
    low zero u = rw (nobody_waits s 0 u refl) (go (not (eqb u t)))
      where
        go : (y : Bool) → false ≡ (y && false)
        go true = refl
        go false = refl
    low (suc x) u = rw (le-ltb (suc x) 1 (omega arith))

pub strike_turn : {s s' s'' : List ℕ} (t v : ℕ) → StruckBelow s s' t v → WithSet s' s'' v (without_one t s' v) → StruckBelow s s'' t (v + 1)
unfolding struck_below
strike_turn {s} {s'} {s''} t v a b =
    sets_as _ (struck_below t (v + 1) (remembered s)) (λ x u. go x u (eqb x v) refl (ltb x v) refl)
    (left_on (nodes s) (λ q. set_header v (λ u. not (eqb u t) && q.remembered v u) q) (λ ns. ns) a b)
  where
    twice : (p c d : Bool) → (not p && (not (c && p) && d)) ≡ (not p && d)
    twice true c d = refl
    twice false true d = refl
    twice false false d = refl

    go : (x u : ℕ) (y : Bool) → eqb x v ≡ y → (z : Bool) → ltb x v ≡ z
        → cond y (λ w. not (eqb w t) && struck_below t v (remembered s) v w) (struck_below t v (remembered s) x) u
        ≡ struck_below t (v + 1) (remembered s) x u
    go x u true p z q = twice (eqb u t) (ltb v v) (remembered s v u) ∙ rw (eqb-true x v p, lt-ltb v (v + 1) (omega arith))
    go x u false p true q = rw (q, lt-ltb x (v + 1) (omega (arith, ltb-true x v q)))
    go x u false p false q =
        let ne : x ≡ v → ⊥ = eqb-false x v p in rw (q, le-ltb x (v + 1) (omega (arith, ltb-false x v q, ne)))

-- and then the set of t itself
pub strike_done : {s s' s'' : List ℕ} (t v : ℕ) → v ≡ 17 → StruckBelow s s' t v → s'' ≡ put_word s' (set_at t) 0 → 1 ≤ t → t ≤ 16
    → Struck s s'' t
unfolding struck_below
strike_done {s} {s'} {s''} t v e a z l m =
    sets_as _ (struck t (remembered s)) (λ x u. rw e (go x u (eqb x t)))
    (left_on (nodes s) (set_header t (in_set 0)) (λ ns. ns) a (remembered_left s' s'' t 0 z a.layout l m))
  where
    all : (x u : ℕ) (y : Bool) → ltb x 17 ≡ y → (not (y && eqb u t) && remembered s x u) ≡ (not (eqb u t) && remembered s x u)
    all x u true p = refl
    all x u false p = rw (nobody_waits s x u (refuted (is_transaction x) (λ q. omega (arith, ltb-false x 17 p, transaction_high x q))))
        (go (not (eqb u t)))
      where
        go : (y : Bool) → false ≡ (y && false)
        go true = refl
        go false = refl

    go : (x u : ℕ) (y : Bool) → cond y (in_set 0) (struck_below t 17 (remembered s) x) u ≡ (not y && (not (eqb u t) && remembered s x u))
    go x u true = ap (λ (S : ℕ → Bool). S u) empty_set
    go x u false = all x u (ltb x 17) refl
