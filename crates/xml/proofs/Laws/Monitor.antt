-- The characters of what the automaton tells, read a byte at a time, so that a byte with which no character goes on is seen at once.
use Rattle.std.specs.Prelude.{ℕ, suc, ◌≡◌, refl, Bool, true, false, cond, List, [], ◌∷◌, take}
use Rattle.std.proofs.Common.{ap, ◌∙◌, arith}
use Rattle.tree.specs.Spelling.{Spelling, Spelled, broken, spelling, whole, spell, Fault, faultless, fault, later, fault_behind}
use Rattle.tree.specs.Spelling.{fault_in}
use Rattle.xml.specs.Laws.Automaton.{Event, born, byte}
use Rattle.xml.specs.Laws.Monitor.{Monitor, off, on, Seen, unspelled, seen, at_rest, is_on, seen_as, see_byte, then_see, see, monitor}
use Rattle.xml.specs.Laws.Monitor.{see_bytes, FaultAt, no_fault, at_byte, at_end}

pub monitor_quiet : (x : Monitor) → at_rest x ≡ true → monitor x [] ≡ seen x
unfolding monitor
monitor_quiet x h = rw h

see_off : (v : List Event) → see off v ≡ seen off
unfolding see
see_off [] = refl
see_off (born d k ∷ e) = see_off e
see_off (byte b ∷ e) = see_off e

pub monitor_off : (v : List Event) → monitor off v ≡ seen off
unfolding monitor
monitor_off [] = refl
monitor_off (a ∷ v) = see_off (a ∷ v)

-- the bytes of a content ---------------------------------------------------------------------

pub see_next : (x y : Monitor) (b : ℕ) (l : List ℕ) → see_byte x b ≡ seen y → see_bytes x (b ∷ l) ≡ see_bytes y l
unfolding see_bytes
see_next x y b l e = rw e

-- a byte of content
pub monitor_byte : (x : Monitor) (b : ℕ) → monitor x (byte b ∷ []) ≡ see_byte x b
unfolding monitor see
monitor_byte x b = go (see_byte x b)
  where
    go : (r : Seen) → then_see r (λ y. seen y) ≡ r
    go unspelled = refl
    go (seen y) = refl

fault_later : (x y : Monitor) (b : ℕ) (l : List ℕ) (r : Fault) → see_byte x b ≡ seen y → is_on y ≡ is_on x → FaultAt y l r
    → FaultAt x (b ∷ l) (later r)
unfolding see_bytes
fault_later x y b l r e o (no_fault z h a p) = no_fault z (see_next x y b l e ∙ h) a (p ∙ o)
fault_later x y b l r e o (at_byte {n = n} z m h a) = at_byte {n = suc n} z (omega arith) (see_next x y b (take n l) e ∙ h) a
fault_later x y b l r e o (at_end {n = n} z m h a) = at_end {n = suc n} z (ap suc m) (see_next x y b l e ∙ h) a

pub fault_seen : (x : Spelling) (l : List ℕ) → FaultAt (on x) l (fault_in x l)
unfolding fault_in see_bytes
fault_seen x [] = go (whole x) refl
  where
    go : (t : Bool) → whole x ≡ t → FaultAt (on x) [] (cond t faultless (fault 0))
    go true e = no_fault (on x) refl e refl
    go false e = at_end {n = 0} (on x) refl refl e
fault_seen x (b ∷ l) = go (spell x b) refl (λ y. fault_seen y l)
  where
    go : (r : Spelled) → spell x b ≡ r → ((y : Spelling) → FaultAt (on y) l (fault_in y l))
        → FaultAt (on x) (b ∷ l) (fault_behind r (λ y. fault_in y l))
    go broken e f = at_byte {n = 0} (on x) (omega arith) refl (ap seen_as e)
    go (spelling y) e f = fault_later (on x) (on y) b l (fault_in y l) (ap seen_as e) refl (f y)
