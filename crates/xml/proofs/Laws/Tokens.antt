-- Runs of blanks, names and words of a fixed set, in one go.
use Rattle.std.specs.Prelude.{ℕ, zero, suc, ◌+◌, ◌≤◌, ◌<◌, ◌≡◌, refl, Bool, false, cond}
use Rattle.std.proofs.Math.Path.{sym, ap, ap₂}
use Rattle.std.proofs.Common.{◌∙◌, arith, add-one, drop_of_length-le, drop-cons}
use Rattle.std.proofs.Math.Bool.{true}
use mathlib.Core.List.{List, [], ◌∷◌}
use Rattle.std.proofs.Math.ListN.{length, drop, get_or, length-drop}
use Rattle.tree.specs.Content.{content_limit}
use Rattle.xml.specs.Bytes.{blank}
use Rattle.xml.specs.Laws.Words.{Words, Found, no_word, whole, begun, follow}
use Rattle.xml.specs.Laws.Automaton.{Config, Event, move, to, word_step, step}
use Rattle.xml.specs.Laws.Counts.{tail}
use Rattle.xml.specs.Laws.Phases.{phase, pending}
use Rattle.xml.specs.Laws.Forces.{extent}
use Rattle.xml.specs.Laws.Monitor.{Monitor, seen, at_rest, monitor}
use Rattle.xml.specs.Laws.Judge.{bad}
use Rattle.xml.specs.Laws.Scan.{scan_at}
use Rattle.xml.proofs.Laws.Scan.{scan_end, scan_stuck, scan_next}
use Rattle.xml.specs.Laws.Goes.{Goes}
use Rattle.xml.proofs.Laws.Goes.{goes_then, goes_same, goes_step, scan_quiet}
use Rattle.xml.specs.Laws.Tokens.{span, Reach, got, lost, one_more, reached, reach, Wording, Landed}

pub span_length : (t : ℕ → Bool) (l : List ℕ) → span t l ≤ length l
unfolding span
span_length t [] = omega arith
span_length t (b ∷ l) = go (t b) (span_length t l)
  where
    go : (x : Bool) → span t l ≤ length l → cond x (suc (span t l)) 0 ≤ suc (length l)
    go true h = omega arith
    go false h = omega arith

module _ (t : ℕ → Bool) (s : List ℕ) (i : ℕ) where
  pub span_end : length s ≤ i → span t (drop i s) ≡ 0
  unfolding span
  span_end h = rw (drop_of_length-le s h)

  module _ (h : i < length s) where
    pub span_stop : t (get_or s i 0) ≡ false → span t (drop i s) ≡ 0
    unfolding span
    span_stop e = rw (drop-cons s i 0 h, e)

    pub span_go : t (get_or s i 0) ≡ true → span t (drop i s) ≡ suc (span t (drop (suc i) s))
    unfolding span
    span_go e = rw (drop-cons s i 0 h, e)

  -- a run that is not empty
  pub span_some : (m : ℕ) → suc m ≤ span t (drop i s) → (i < length s) × (t (get_or s i 0) ≡ true) × (m ≤ span t (drop (suc i) s))
  span_some m h =
      let l : i < length s = omega (arith, span_length t (drop i s), length-drop i s) in
      go l (t (get_or s i 0)) refl
    where
      go : i < length s → (x : Bool) → t (get_or s i 0) ≡ x → (i < length s) × (t (get_or s i 0) ≡ true) × (m ≤ span t (drop (suc i) s))
      go l true e = (l, e, omega (arith, span_go l e))
      go l false e = absurd (omega (arith, span_stop l e))

-- each byte of a run passes
pub span_byte : (t : ℕ → Bool) (s : List ℕ) (j i : ℕ) → j < span t (drop i s) → (i + j < length s) × (t (get_or s (i + j) 0) ≡ true)
span_byte t s zero i h = let x = span_some t s i 0 (omega arith) in let p : i + 0 ≡ i = omega arith in (omega (arith, x.0), rw p x.1)
span_byte t s (suc j) i h =
    let x = span_some t s i (suc j) (omega arith) in
    let y = span_byte t s j (suc i) (omega (arith, x.2)) in
    let p : i + suc j ≡ suc i + j = omega arith in
    (omega (arith, y.0), rw p y.1)

-- and the byte behind it does not
pub span_behind : (t : ℕ → Bool) (s : List ℕ) (i : ℕ) → i + span t (drop i s) < length s → t (get_or s (i + span t (drop i s)) 0) ≡ false
span_behind t s i h = go (span t (drop i s)) i refl h
  where
    go : (m i : ℕ) → span t (drop i s) ≡ m → i + m < length s → t (get_or s (i + m) 0) ≡ false
    go zero i e l =
        let p : i + 0 ≡ i = omega arith in
        let q : i < length s = omega arith in
        rw p (not_there (t (get_or s i 0)) refl q)
      where
        not_there : (x : Bool) → t (get_or s i 0) ≡ x → i < length s → t (get_or s i 0) ≡ false
        not_there false y q = y
        not_there true y q = absurd (omega (arith, span_go t s i q y))
    go (suc m) i e l =
        let x = span_some t s i m (omega arith) in
        let p : i + suc m ≡ suc i + m = omega arith in
        rw p (go m (suc i) (omega (arith, span_go t s i x.0 x.1)) (omega arith))

-- blanks -----------------------------------------------------------------------------------

module _ {w : Bool} (s : List ℕ) (c : Config) (n : ℕ) (f : (b : ℕ) → blank b ≡ true → step true c b ≡ to c) (p : pending
    (phase c) ≡ 0) where
  goes_run : (m i : ℕ) → m ≤ span blank (drop i s) → Goes w s c n i c n (i + m)
  goes_run zero i h = goes_same s c n i (i + 0) (omega arith)
  goes_run (suc m) i h =
      let x = span_some blank s i m h in
      goes_then (goes_step s c n i x.0 c (f (get_or s i 0) x.1) p)
      (goes_then (goes_same s c n (i + 1) (suc i) (add-one i)) (goes_then (goes_run m (suc i) x.2)
      (goes_same s c n (suc i + m) (i + suc m) (omega arith))))

  pub goes_blanks : (i : ℕ) → Goes w s c n i c n (i + span blank (drop i s))
  goes_blanks i = goes_run (span blank (drop i s)) i (omega arith)

-- words of a set ---------------------------------------------------------------------------

module _ (s : List ℕ) (C : Words → Config) (d : Config) (w : ℕ → List Event) (n k : ℕ) (f : Wording C d w) (X : Monitor) (Y : ℕ → Monitor)
    (rest : at_rest X ≡ true) (o : (x : Words) → k + pending (phase (C x)) ≤ content_limit)
    (e : (b : ℕ) → extent k (w b) d ≤ content_limit) where
  pub landed_more : (i : ℕ) (r : Reach) → Landed s d w Y n k (suc i) r ≡ Landed s d w Y n k i (one_more r)
  landed_more i (got b m) = ap (λ (j : ℕ). scan_at s d (Y b) n (tail k (w b)) j) (omega arith)
  landed_more i (lost m) = ap (bad 4) (omega arith)

  -- the values of the words are taken
  abbrev Known : Reach → Type 0
  Known (got b m) = monitor X (w b) ≡ seen (Y b)
  Known (lost m) = Unit {0}

  known_more : (r : Reach) → Known (one_more r) → Known r
  known_more (got b m) h = h
  known_more (lost m) h = tt

  pub word_scan : (t : List ℕ) (x : Words) (i : ℕ) → drop i s ≡ t → Known (reach x t)
      → scan_at s (C x) X n k i ≡ Landed s d w Y n k i (reach x t)
  unfolding reach
  word_scan [] x i q u =
      let h : length s ≤ i = omega (arith, ap length q, length-drop i s) in
      scan_end s (C x) X n k i h ∙ rw (f.calm x) (ap (bad 4) (omega arith))
  word_scan (b ∷ t) x i q u =
      let h : i < length s = omega (arith, ap length q, length-drop i s) in
      let z : get_or s i 0 ∷ drop (suc i) s ≡ b ∷ t = sym (drop-cons s i 0 h) ∙ q in
      let a : get_or s i 0 ≡ b = cc in
      let v : drop (suc i) s ≡ t = cc in
      go h (follow x b) (ap (step true (C x)) a ∙ f.next x b) u (λ y. word_scan t y (suc i) v)
    where
      go : i < length s → (r : Found) → step true (C x) (get_or s i 0) ≡ word_step r (λ k. move d (w k)) (λ y. to (C y))
          → Known (reached r (λ y. reach y t))
          → ((y : Words) → Known (reach y t) → scan_at s (C y) X n k (suc i) ≡ Landed s d w Y n k (suc i) (reach y t))
          → scan_at s (C x) X n k i ≡ Landed s d w Y n k i (reached r (λ y. reach y t))
      go h no_word a u g = scan_stuck s (C x) X n k i h a ∙ ap (bad 4) (omega arith)
      go h (whole v) a u g =
          scan_next s (C x) X n k i h d (w v) (Y v) a u (omega (arith, f.no_node v)) (e v)
          ∙ ap₂ (λ (m j : ℕ). scan_at s d (Y v) m (tail k (w v)) j) (omega (arith, f.no_node v)) (omega arith)
      go h (begun y) a u g =
          scan_quiet s (C x) n i h (C y) a X rest k (o y) ∙ ap (λ (j : ℕ). scan_at s (C y) X n k j) (add-one i)
          ∙ g y (known_more (reach y t) u) ∙ landed_more i (reach y t)
