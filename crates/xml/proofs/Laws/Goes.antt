-- The scan from place to place, as a reader goes: whatever the verdict is further on, it is the verdict here.
use Rattle.std.specs.Prelude.{ℕ, suc, ◌+◌, ◌-◌, ◌≤◌, ◌<◌, ◌≡◌, Bool, true, false, length, get_or}
use Rattle.std.proofs.Math.Path.{ap, ap₂}
use Rattle.std.proofs.Common.{◌∙◌, arith}
use mathlib.Core.List.{List, [], ◌∷◌}
use Rattle.tree.specs.Content.{content_limit}
use Rattle.xml.specs.Reading.{node_offset}
use Rattle.xml.specs.Laws.Automaton.{Config, Event, born, byte, stuck, move, to, step}
use Rattle.xml.specs.Laws.Counts.{births, tail, peak}
use Rattle.xml.specs.Laws.Phases.{phase, is_over, pending}
use Rattle.xml.specs.Laws.Forces.{extent}
use Rattle.xml.specs.Laws.Monitor.{Monitor, unspelled, seen, at_rest, monitor, see_byte}
use Rattle.xml.proofs.Laws.Monitor.{monitor_quiet, monitor_byte}
use Rattle.xml.specs.Laws.Judge.{fine, bad}
use Rattle.xml.specs.Laws.Scan.{scan_at}
use Rattle.xml.proofs.Laws.Scan.{scan_end, scan_stuck, scan_unspelled, scan_next, scan_long, scan_many}
use Rattle.xml.specs.Laws.Goes.{Leads, Goes}

pub goes_then : {w : Bool} {s : List ℕ} {c d e : Config} {n m p i j k : ℕ} → Goes w s c n i d m j → Goes w s d m j e p k
    → Goes w s c n i e p k
goes_then f g = record { back = λ v x. f.back v (g.back v x) }

module _ {w : Bool} (s : List ℕ) (c : Config) (n i : ℕ) where
  pub goes_same : (j : ℕ) → i ≡ j → Goes w s c n i c n j
  goes_same j p = record { back = λ v f. record { leads = λ x o r k h. ap (scan_at s c x n k) p ∙ f.leads x o r k h } }

  pub stops_end : length s ≤ i → is_over (phase c) ≡ false → Leads w s c n i (bad 4 i)
  stops_end l e = record { leads = λ x o r k h. scan_end s c x n k i l ∙ rw e }

  pub over_end : length s ≤ i → is_over (phase c) ≡ true → Leads w s c n i (fine n)
  over_end l e = record { leads = λ x o r k h. scan_end s c x n k i l ∙ rw e }

  module _ (inside : i < length s) where
    pub stops_stuck : step true c (get_or s i 0) ≡ stuck → Leads w s c n i (bad 4 i)
    stops_stuck e = record { leads = λ x o r k h. scan_stuck s c x n k i inside e }

module _ (s : List ℕ) (c : Config) (n i : ℕ) (inside : i < length s) where
  -- a step that tells nothing
  pub scan_quiet : (d : Config) → step true c (get_or s i 0) ≡ to d → (x : Monitor) → at_rest x ≡ true → (k : ℕ)
      → k + pending (phase d) ≤ content_limit
      → scan_at s c x n k i ≡ scan_at s d x n k (i + 1)
  unfolding births tail peak
  scan_quiet d e x r k h =
      scan_next s c x n k i inside d [] x e (monitor_quiet x r) (omega arith) (omega arith)
      ∙ ap₂ (λ (m j : ℕ). scan_at s d x m k j) (omega arith) (omega arith)

  -- inside a character
  pub scan_cut : (d : Config) → step true c (get_or s i 0) ≡ to d → (x : Monitor) → at_rest x ≡ false → (k : ℕ)
      → scan_at s c x n k i ≡ bad 4 i
  unfolding monitor
  scan_cut d e x r k = scan_unspelled s c x n k i inside d [] e (rw r)

  pub goes_step : {w : Bool} (d : Config) → step true c (get_or s i 0) ≡ to d → pending (phase d) ≡ 0 → Goes w s c n i d n (i + 1)
  goes_step d e p = record {
    back = λ v f. record { leads = λ x o r k h. scan_quiet d e x r k (omega arith) ∙ f.leads x o r k h };
  }

  -- a byte of content
  pub scan_byte : (d : Config) (b : ℕ) → step true c (get_or s i 0) ≡ move d (byte b ∷ []) → (x y : Monitor) → see_byte x b ≡ seen y
      → pending (phase d) ≡ 0 → (k : ℕ) → k < content_limit → scan_at s c x n k i ≡ scan_at s d y n (k + 1) (i + 1)
  unfolding births tail peak
  scan_byte d b e x y q p k h =
      scan_next s c x n k i inside d (byte b ∷ []) y e (monitor_byte x b ∙ q) (omega arith) (omega arith)
      ∙ ap₂ (λ (m j : ℕ). scan_at s d y m (suc k) j) (omega arith) (omega arith) ∙ ap (λ (q : ℕ). scan_at s d y n q (i + 1)) (omega arith)

  -- a byte with which no character goes on
  pub scan_misspelled : (d : Config) (b : ℕ) → step true c (get_or s i 0) ≡ move d (byte b ∷ []) → (x : Monitor) → see_byte x b ≡ unspelled
      → (k : ℕ) → scan_at s c x n k i ≡ bad 4 i
  scan_misspelled d b e x q k = scan_unspelled s c x n k i inside d (byte b ∷ []) e (monitor_byte x b ∙ q)

  -- the first byte of a content, or a reference in its place
  pub scan_plain : (d : Config) (v : List Event) → step true c (get_or s i 0) ≡ move d v → (x y : Monitor) → monitor x v ≡ seen y
      → births v ≡ 0
      → extent 0 v d ≤ content_limit → scan_at s c x n 0 i ≡ scan_at s d y n (tail 0 v) (i + 1)
  scan_plain d v e x y q p m =
      scan_next s c x n 0 i inside d v y e q (omega arith) m ∙ ap₂ (λ (q j : ℕ). scan_at s d y q (tail 0 v) j) (omega arith) (omega arith)

  -- the 33rd, or a reference in its place
  pub scan_full : (d : Config) (v : List Event) → step true c (get_or s i 0) ≡ move d v → (x y : Monitor) → monitor x v ≡ seen y
      → births v ≡ 0
      → (k : ℕ) → content_limit < extent k v d → scan_at s c x n k i ≡ bad 5 i
  scan_full d v e x y q p k h = scan_long s c x n k i inside d v y e q (omega arith) h

  -- a node, with the first byte of its content or a reference in its place
  pub scan_born : (d : Config) (a b : ℕ) (v : List Event) → step true c (get_or s i 0) ≡ move d (born a b ∷ v)
      → (x y : Monitor) → monitor x (born a b ∷ v) ≡ seen y → births v ≡ 0 → 1 ≤ n
      → (k : ℕ) → k ≤ content_limit → extent 0 v d ≤ content_limit → scan_at s c x n k i ≡ scan_at s d y (n - 1) (tail 0 v) (i + 1)
  unfolding births tail peak
  scan_born d a b v e x y q p l k h m =
      scan_next s c x n k i inside d (born a b ∷ v) y e q (omega arith) (omega arith)
      ∙ ap₂ (λ (q j : ℕ). scan_at s d y q (tail 0 v) j) (omega arith) (omega arith)

  pub scan_too_many : (d : Config) (a b : ℕ) (v : List Event) → step true c (get_or s i 0) ≡ move d (born a b ∷ v)
      → (x y : Monitor) → monitor x (born a b ∷ v) ≡ seen y → n ≡ 0 → (k : ℕ) → k ≤ content_limit
      → extent 0 v d ≤ content_limit → scan_at s c x n k i ≡ bad 6 (node_offset s i)
  unfolding births tail peak
  scan_too_many d a b v e x y q l k h m = scan_many s c x n k i inside d (born a b ∷ v) y e q (omega arith) (omega arith)
