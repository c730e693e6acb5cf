-- Only open transactions wait, and only for open ones: this is so at the beginning, and each change of the header keeps it.
use Rattle.std.specs.Prelude.{ℕ, ◌≡◌, refl, Bool, true, false, cond, not, ◌&&◌, ◌||◌, eqb}
use Rattle.std.proofs.lemmas.Bool.{false≢true}
use Rattle.std.proofs.Common.{eqb-true}
use Rattle.tree.specs.Laws.Tests.{and_left, and_right}
use Rattle.protocol.specs.State.{Header, start_header, with_open, with_remembered, with_set, ended}
use Rattle.protocol.specs.Rings.{AmongOpen}

pub among_start : AmongOpen start_header
among_start t u e = absurd (false≢true e)

module _ (h : Header) (a : AmongOpen h) (t : ℕ) where
  pub among_begun : AmongOpen (with_open (λ u. eqb u t || h.is_open u) h)
  among_begun v u e = let x = a v u e in (rw x.0 (go (eqb v t)), rw x.1 (go (eqb u t)))
    where
      go : (b : Bool) → (b || true) ≡ true
      go true = refl
      go false = refl

  pub among_ended : AmongOpen (ended t h)
  among_ended v u e =
      let p : not (eqb v t) ≡ true = and_left (not (eqb v t)) (not (eqb u t) && h.remembered v u) e in
      let q : (not (eqb u t) && h.remembered v u) ≡ true = and_right (not (eqb v t)) _ e in
      let x = a v u (and_right (not (eqb u t)) (h.remembered v u) q) in
      (rw (p, x.0), rw (and_left (not (eqb u t)) (h.remembered v u) q, x.1))

  -- the set of t becomes S, of open transactions alone; where it is empty, t need not be open
  pub among_set : (S : ℕ → Bool) → ((u : ℕ) → S u ≡ true → (h.is_open t ≡ true) × (h.is_open u ≡ true))
      → AmongOpen (with_remembered (with_set t S h.remembered) h)
  among_set S f v u e = go (eqb v t) refl e
    where
      go : (b : Bool) → eqb v t ≡ b → cond b S (h.remembered v) u ≡ true → (h.is_open v ≡ true) × (h.is_open u ≡ true)
      go true p x = rw (eqb-true v t p) (f u x)
      go false p x = a v u x

  pub among_forgetting : AmongOpen (with_remembered (with_set t (λ u. false) h.remembered) h)
  among_forgetting = among_set (λ u. false) (λ u e. absurd (false≢true e))
