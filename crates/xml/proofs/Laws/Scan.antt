-- The judgement without the limit on the input, as a reader makes it, and that the limit can be applied afterwards.
use Rattle.std.specs.Prelude.{ℕ, zero, suc, ◌+◌, ◌-◌, ◌≤◌, ◌<◌, ◌≡◌, refl, Bool, ◌&&◌, List, [], ◌∷◌, leb, ltb, length, take, get_or}
use Rattle.std.proofs.Common.{sym, ◌∙◌, arith, drop_of_length-le, drop-cons}
use Rattle.std.proofs.Math.Path.{ap}
use Rattle.std.proofs.Math.Bool.{true, false, cond}
use Rattle.std.proofs.Math.Seq.{take-nil}
use borrow.Author.Tests.{leb-true, leb-false, lt-leb, le-leb, lt-ltb, le-ltb, ltb-true, ltb-false}
use Rattle.tree.specs.Content.{content_limit}
use Rattle.xml.specs.Reading.{input_limit, opener, node_offset}
use Rattle.xml.specs.Laws.Automaton.{Config, at_start, Event, Move, stuck, move, step}
use Rattle.xml.specs.Laws.Counts.{births, tail}
use Rattle.xml.specs.Laws.Phases.{phase, is_over}
use Rattle.xml.specs.Laws.Forces.{extent}
use Rattle.xml.specs.Laws.Monitor.{Monitor, Seen, unspelled, seen, monitor, monitoring}
use Rattle.xml.specs.Laws.Judge.{Verdict, fine, bad, weighed, if_seen, judge_move, judge, byte_before}
use Rattle.xml.proofs.Laws.Judge.{offset_before, offset_at}
use Rattle.xml.specs.Laws.Judge.{judgement}
use Rattle.xml.specs.Laws.Scan.{counted, scan_move, scan, limited, scan_at}

limited_four : (long : Bool) (i : ℕ) → i ≤ input_limit → limited long (bad 4 i) ≡ bad 4 i
limited_four long i h = go (leb input_limit i) refl
  where
    go : (t : Bool) → leb input_limit i ≡ t → cond t (bad 4 input_limit) (bad 4 i) ≡ bad 4 i
    go true e = let p : input_limit ≡ i = omega (arith, leb-true input_limit i e) in ap (bad 4) p
    go false e = refl

limited_below : (long : Bool) (c i : ℕ) → i < input_limit → limited long (bad c i) ≡ bad c i
limited_below long c i h = rw (lt-leb input_limit i h)

limited_at : (long : Bool) (c i : ℕ) → input_limit ≤ i → limited long (bad c i) ≡ bad 4 input_limit
limited_at long c i h = rw (le-leb input_limit i h)

limited_end : (c : Config) (n i : ℕ) → i ≤ input_limit
    → cond (is_over (phase c)) (fine n) (bad 4 i) ≡ limited false (cond (is_over (phase c)) (fine n) (bad 4 i))
limited_end c n i h = go (is_over (phase c))
  where
    go : (t : Bool) → cond t (fine n) (bad 4 i) ≡ limited false (cond t (fine n) (bad 4 i))
    go true = refl
    go false = sym (limited_four false i h)

limited_past : (t : Bool) (n i : ℕ) → input_limit ≤ i → limited true (cond t (fine n) (bad 4 i)) ≡ bad 4 input_limit
limited_past true n i h = refl
limited_past false n i h = limited_at true 4 i h

-- one byte
limited_counted : (long : Bool) (b i : ℕ) (many : Bool) (k : ℕ) (u v : Verdict) → i ≤ input_limit → (i < input_limit → u ≡ limited long v)
    → (i ≡ input_limit → limited long v ≡ bad 4 input_limit)
    → weighed b i many k u ≡ limited long (counted b i many k v)
limited_counted long b i many k u v h f g = go many (opener b) (leb input_limit i) refl (ltb content_limit k)
  where
    go : (o q x : Bool) → leb input_limit i ≡ x → (y : Bool)
        → cond (o && q) (bad 6 (i - 1)) (cond x (bad 4 i) (cond y (bad 5 i) (cond o (bad 6 i) u)))
        ≡ limited long (cond (o && q) (bad 6 (i - 1)) (cond y (bad 5 i) (cond o (bad 6 i) v)))
    go true true x e y = sym (limited_below long 6 (i - 1) (omega arith))
    go true false true e true =
        let p : i ≡ input_limit = omega (arith, leb-true input_limit i e) in ap (bad 4) p ∙ sym (limited_at long 5 i (omega arith))
    go true false true e false =
        let p : i ≡ input_limit = omega (arith, leb-true input_limit i e) in ap (bad 4) p ∙ sym (limited_at long 6 i (omega arith))
    go true false false e true = sym (limited_below long 5 i (leb-false input_limit i e))
    go true false false e false = sym (limited_below long 6 i (leb-false input_limit i e))
    go false q true e true =
        let p : i ≡ input_limit = omega (arith, leb-true input_limit i e) in ap (bad 4) p ∙ sym (limited_at long 5 i (omega arith))
    go false q true e false = let p : i ≡ input_limit = omega (arith, leb-true input_limit i e) in ap (bad 4) p ∙ sym (g p)
    go false q false e true = sym (limited_below long 5 i (leb-false input_limit i e))
    go false q false e false = f (leb-false input_limit i e)

judge_scan : (c : Config) (x : Monitor) (n k b i : ℕ) (l : List ℕ) (m : ℕ) → i + m ≡ suc input_limit → i ≤ input_limit
    → judge c x n k b i l ≡ limited (ltb input_limit (i + length l)) (scan c x n k b i (take m l))
unfolding judge scan
judge_scan c x n k b i [] m e h = rw (take-nil {A = ℕ} m, le-ltb input_limit (i + 0) (omega arith)) (limited_end c n i h)
judge_scan c x n k b i (a ∷ l) zero e h = absurd (omega arith)
judge_scan c x n k b i (a ∷ l) (suc m) e h =
    let p : i + suc (length l) ≡ suc i + length l = omega arith in
    rw p (go (step true c a) (λ d y n' k' s. judge_scan d y n' k' a (suc i) l m (omega arith) s))
  where
    past : (d : Config) (y : Monitor) (n' k' : ℕ) → i ≡ input_limit
        → limited (ltb input_limit (suc i + length l)) (scan d y n' k' a (suc i) (take m l)) ≡ bad 4 input_limit
    past d y n' k' q =
        let z : m ≡ 0 = omega arith in
        rw (z, lt-ltb input_limit (suc i + length l) (omega arith)) (limited_past (is_over (phase d)) n' (suc i) (omega arith))

    spelled : (d : Config) (v : List Event) (r : Seen)
        → ((y : Monitor) (n' k' : ℕ) → suc i ≤ input_limit → judge d y n' k' a (suc i) l
        ≡ limited (ltb input_limit (suc i + length l)) (scan d y n' k' a (suc i) (take m l)))
        → if_seen r i (λ y. weighed b i (ltb n (births v)) (extent k v d) (judge d y (n - births v) (tail k v) a (suc i) l))
        ≡ limited (ltb input_limit (suc i + length l))
        (if_seen r i (λ y. counted b i (ltb n (births v)) (extent k v d) (scan d y (n - births v) (tail k v) a (suc i) (take m l))))
    spelled d v unspelled f = sym (limited_four (ltb input_limit (suc i + length l)) i h)
    spelled d v (seen y) f =
        limited_counted (ltb input_limit (suc i + length l)) b i (ltb n (births v)) (extent k v d)
        (judge d y (n - births v) (tail k v) a (suc i) l)
        (scan d y (n - births v) (tail k v) a (suc i) (take m l)) h (f y (n - births v) (tail k v)) (past d y (n - births v) (tail k v))

    go : (r : Move)
        → ((d : Config) (y : Monitor) (n' k' : ℕ) → suc i ≤ input_limit → judge d y n' k' a (suc i) l
        ≡ limited (ltb input_limit (suc i + length l)) (scan d y n' k' a (suc i) (take m l)))
        → judge_move r x n k b i (λ d y n' k'. judge d y n' k' a (suc i) l)
        ≡ limited (ltb input_limit (suc i + length l)) (scan_move r x n k b i (λ d y n' k'. scan d y n' k' a (suc i) (take m l)))
    go stuck f = sym (limited_four (ltb input_limit (suc i + length l)) i h)
    go (move d v) f = spelled d v (monitor x v) (f d)

pub judgement_scan : (limit : ℕ) (s : List ℕ)
    → judgement limit s ≡ limited (ltb input_limit (length s)) (scan at_start monitoring (limit - 1) 0 0 0 (take (suc input_limit) s))
unfolding judgement
judgement_scan limit s =
    let p : 0 + length s ≡ length s = omega arith in
    rw p at (judge_scan at_start monitoring (limit - 1) 0 0 0 s (suc input_limit) refl (omega arith))

-- steps ------------------------------------------------------------------------------------

module _ (s : List ℕ) (c : Config) (x : Monitor) (n k i : ℕ) where
  pub scan_end : length s ≤ i → scan_at s c x n k i ≡ cond (is_over (phase c)) (fine n) (bad 4 i)
  unfolding scan_at scan
  scan_end h = rw (drop_of_length-le s h)

  module _ (h : i < length s) where
    pub scan_stuck : step true c (get_or s i 0) ≡ stuck → scan_at s c x n k i ≡ bad 4 i
    unfolding scan_at scan
    scan_stuck e = rw (drop-cons s i 0 h, e)

    -- no character goes on so
    pub scan_unspelled : (d : Config) (v : List Event) → step true c (get_or s i 0) ≡ move d v → monitor x v ≡ unspelled
        → scan_at s c x n k i ≡ bad 4 i
    unfolding scan_at scan
    scan_unspelled d v e w = rw (drop-cons s i 0 h, e, w)

    module _ (d : Config) (v : List Event) (y : Monitor) (e : step true c (get_or s i 0) ≡ move d v) (w : monitor x v ≡ seen y) where
      pub scan_next : births v ≤ n → extent k v d ≤ content_limit → scan_at s c x n k i ≡ scan_at s d y (n - births v) (tail k v) (suc i)
      unfolding scan_at scan
      scan_next l m = rw (drop-cons s i 0 h, e, w, le-ltb n (births v) l, le-ltb content_limit (extent k v d) m)

      pub scan_long : births v ≤ n → content_limit < extent k v d → scan_at s c x n k i ≡ bad 5 i
      unfolding scan_at scan
      scan_long l m = rw (drop-cons s i 0 h, e, w, le-ltb n (births v) l, lt-ltb content_limit (extent k v d) m)

      pub scan_many : n < births v → extent k v d ≤ content_limit → scan_at s c x n k i ≡ bad 6 (node_offset s i)
      unfolding scan_at scan
      scan_many l m =
          rw (drop-cons s i 0 h, e, w, lt-ltb n (births v) l, le-ltb content_limit (extent k v d) m) (go (opener (byte_before s i)) refl)
        where
          go : (o : Bool) → opener (byte_before s i) ≡ o → cond o (bad 6 (i - 1)) (bad 6 i) ≡ bad 6 (node_offset s i)
          go true o = ap (bad 6) (sym (offset_before s i o).0)
          go false o = ap (bad 6) (sym (offset_at s i o))

-- configurations that take the same step, or end alike
pub scan_alike : (s : List ℕ) (c d : Config) (x : Monitor) (n k i : ℕ)
    → (i < length s → step true c (get_or s i 0) ≡ step true d (get_or s i 0))
    → is_over (phase c) ≡ is_over (phase d) → scan_at s c x n k i ≡ scan_at s d x n k i
unfolding scan_at scan
scan_alike s c d x n k i f p = go (ltb i (length s)) refl
  where
    go : (t : Bool) → ltb i (length s) ≡ t → scan_at s c x n k i ≡ scan_at s d x n k i
    go true e = let h = ltb-true i (length s) e in rw (drop-cons s i 0 h, f h)
    go false e = scan_end s c x n k i (ltb-false i (length s) e) ∙ rw p (sym (scan_end s d x n k i (ltb-false i (length s) e)))
