-- Bytes of a content that stand for themselves, taken one after the other: all of them, up to a 33rd, or up to one with which no character
-- goes on.
use Prim.Native.Nat.{ℕ, zero, suc, ◌+◌, ◌-◌, ◌≤◌, ◌<◌}
use Rattle.std.specs.Prelude.{◌≡◌, Bool, take, drop, get_or}
use Rattle.std.proofs.Math.Path.{refl, ap, ap₂}
use Rattle.std.proofs.Common.{sym, ◌∙◌, add-one, length-drop, drop-cons}
use Rattle.std.proofs.Math.Bool.{true, false}
use mathlib.Core.List.{List, [], ◌∷◌, ◌++◌, append_assoc, append-nil}
use native.Mathlib.Omega.{arith}
use Rattle.std.proofs.Math.ListN.{length}
use Rattle.std.proofs.Math.Dec.{eqb}
use borrow.Author.Tests.{eqb-true, eqb-false}
use Rattle.tree.specs.Lists.{every}
use Rattle.tree.specs.Laws.Tests.{and_left, and_right}
use Rattle.tree.specs.Content.{content_limit, name_byte}
use Rattle.xml.specs.Grammar.{Name}
use Rattle.xml.specs.Laws.Automaton.{Config, byte, move, step}
use Rattle.xml.specs.Laws.Counts.{births, tail, peak}
use Rattle.xml.specs.Laws.Phases.{phase, pending}
use Rattle.xml.specs.Laws.Monitor.{Monitor, Seen, unspelled, seen, see_byte, then_see, see_bytes}
use Rattle.xml.proofs.Laws.Monitor.{monitor_byte}
use Rattle.xml.specs.Laws.Judge.{bad}
use Rattle.xml.specs.Laws.Scan.{scan_at}
use Rattle.xml.proofs.Laws.Goes.{scan_byte, scan_misspelled, scan_full}
use Rattle.xml.specs.Laws.Tokens.{Naming}

-- the bytes l are told as they are, from c to d
pub data Follows : Config → List ℕ → Config → Type 0 where
  follows_none : {c : Config} → Follows c [] c
  follows_byte : {c d e : Config} {b : ℕ} {l : List ℕ} → step true c b ≡ move d (byte b ∷ []) → pending (phase d) ≡ 0 → Follows d l e
      → Follows c (b ∷ l) e

pub name_follows : {C : Name → Config} → Naming C → (p : Name) (l : List ℕ) → every name_byte l ≡ true → Follows (C p) l (C (p ++ l))
name_follows {C} f p [] h = rw (append-nil p) follows_none
name_follows {C} f p (b ∷ l) h =
    rw (← append_assoc p (b ∷ []) l)
    (follows_byte (f.next p b (and_left (name_byte b) _ h)) (f.calm (p ++ (b ∷ [])))
    (name_follows f (p ++ (b ∷ [])) l (and_right (name_byte b) _ h)))

-- the first of the bytes is taken
first_taken : (x y : Monitor) (b : ℕ) (l : List ℕ) → see_bytes x (b ∷ l) ≡ seen y
    → (z : Monitor) × (see_byte x b ≡ seen z) × (see_bytes z l ≡ seen y)
unfolding see_bytes
first_taken x y b l h = go (see_byte x b) refl h
  where
    go : (r : Seen) → see_byte x b ≡ r → then_see r (λ z. see_bytes z l) ≡ seen y
        → (z : Monitor) × (see_byte x b ≡ seen z) × (see_bytes z l ≡ seen y)
    go unspelled e h = absurd (let z : ◌≡◌ {A = ℕ} 0 1 = cc in omega arith)
    go (seen z) e h = (z, e, h)

module _ (s : List ℕ) (n : ℕ) where
  -- the byte at i
  record Here (i b : ℕ) (l t : List ℕ) : Type 0 where
    inside : i < length s
    is : get_or s i 0 ≡ b
    behind : drop (suc i) s ≡ l ++ t

  here : (i b : ℕ) (l t : List ℕ) → drop i s ≡ b ∷ (l ++ t) → Here i b l t
  here i b l t q =
      let h : i < length s = omega (arith, ap length q, length-drop i s) in
      let z : get_or s i 0 ∷ drop (suc i) s ≡ b ∷ (l ++ t) = sym (drop-cons s i 0 h) ∙ q in
      record { inside = h; is = cc; behind = cc }

  pub taken_all : {c d : Config} (l t : List ℕ) (i k : ℕ) (x y : Monitor) → Follows c l d → drop i s ≡ l ++ t
      → see_bytes x l ≡ seen y → k + length l ≤ content_limit → scan_at s c x n k i ≡ scan_at s d y n (k + length l) (i + length l)
  unfolding see_bytes
  taken_all {c} [] t i k x y follows_none q e m =
      let p : x ≡ y = cc in
      rw p (ap₂ (λ (k i : ℕ). scan_at s c y n k i) (omega arith) (omega arith))
  taken_all {c} {d} (b ∷ l) t i k x y (follows_byte {d = a} h p f) q e m =
      let g = here i b l t q in
      let z = first_taken x y b l e in
      let u : k + suc (length l) ≡ suc k + length l = omega arith in
      let v : i + suc (length l) ≡ suc i + length l = omega arith in
      rw (u, v)
      (scan_byte s c n i g.inside a b (ap (step true c) g.is ∙ h) x z.0 z.1 p k (omega arith)
      ∙ ap₂ (λ (k i : ℕ). scan_at s a z.0 n k i) (add-one k) (add-one i)
      ∙ taken_all l t (suc i) (suc k) z.0 y f g.behind z.2 (omega arith))

  -- m of them are taken, with the 33rd of the content among them
  pub taken_long : {c d : Config} (l t : List ℕ) (m i k : ℕ) (x y : Monitor) → Follows c l d → drop i s ≡ l ++ t
      → see_bytes x (take m l) ≡ seen y → m ≤ length l → k ≤ content_limit → content_limit < k + m
      → scan_at s c x n k i ≡ bad 5 (i + (content_limit - k))
  unfolding births tail peak
  taken_long l t zero i k x y f q e o r w = absurd (omega arith)
  taken_long [] t (suc m) i k x y f q e o r w = absurd (omega arith)
  taken_long {c} (b ∷ l) t (suc m) i k x y (follows_byte {d = a} h p f) q e o r w =
      let g = here i b l t q in
      let z = first_taken x y b (take m l) e in
      go (eqb k content_limit) refl g z.0 z.1
      (λ r. taken_long l t m (suc i) (suc k) z.0 y f g.behind z.2 (omega arith) (omega arith) (omega arith))
    where
      go : (u : Bool) → eqb k content_limit ≡ u → Here i b l t → (z : Monitor) → see_byte x b ≡ seen z
          → (k < content_limit → scan_at s a z n (suc k) (suc i) ≡ bad 5 (suc i + (content_limit - suc k)))
          → scan_at s c x n k i ≡ bad 5 (i + (content_limit - k))
      go true v g z w j =
          let o = eqb-true k content_limit v in
          scan_full s c n i g.inside a (byte b ∷ []) (ap (step true c) g.is ∙ h) x z (monitor_byte x b ∙ w) refl k (omega arith)
          ∙ ap (bad 5) (omega arith)
      go false v g z w j =
          let o : k ≡ content_limit → ⊥ = eqb-false k content_limit v in
          let less : k < content_limit = omega (arith, o) in
          scan_byte s c n i g.inside a b (ap (step true c) g.is ∙ h) x z w p k less
          ∙ ap₂ (λ (k i : ℕ). scan_at s a z n k i) (add-one k) (add-one i) ∙ j less ∙ ap (bad 5) (omega arith)

  -- m of them are taken, and then one with which no character goes on
  pub taken_broken : {c d : Config} (l t : List ℕ) (m i k : ℕ) (x y : Monitor) → Follows c l d → drop i s ≡ l ++ t
      → see_bytes x (take m l) ≡ seen y → see_byte y (get_or l m 0) ≡ unspelled → m < length l → k + m ≤ content_limit
      → scan_at s c x n k i ≡ bad 4 (i + m)
  unfolding see_bytes
  taken_broken [] t m i k x y f q e u o r = absurd (omega arith)
  taken_broken {c} (b ∷ l) t zero i k x y (follows_byte {d = a} h p f) q e u o r =
      let g = here i b l t q in
      let w : x ≡ y = cc in
      scan_misspelled s c n i g.inside a b (ap (step true c) g.is ∙ h) x (rw w u) k ∙ ap (bad 4) (omega arith)
  taken_broken {c} (b ∷ l) t (suc m) i k x y (follows_byte {d = a} h p f) q e u o r =
      let g = here i b l t q in
      let z = first_taken x y b (take m l) e in
      scan_byte s c n i g.inside a b (ap (step true c) g.is ∙ h) x z.0 z.1 p k (omega arith)
      ∙ ap₂ (λ (k i : ℕ). scan_at s a z.0 n k i) (add-one k) (add-one i)
      ∙ taken_broken l t m (suc i) (suc k) z.0 y f g.behind z.2 u (omega arith) (omega arith) ∙ ap (bad 4) (omega arith)
