use Rattle.std.proofs.Common.{ℕ, ◌-◌, ◌≤◌, List, length}
use Rattle.byte_strings.specs.Sorted.{Increasing, Between, Orders}
use Rattle.byte_strings.proofs.find.Given as goal

abbrev pub invariant-loop-low : goal.invariant-loop-low
invariant-loop-low g l =
    (l.low ≤ l.high) × (l.high ≤ length l.entries)
    × ((name : ℕ → List ℕ) (w : List ℕ) → Increasing name (length l.entries) → Orders (goal.F-post g l.order) l.entries name w
    → Between name (length l.entries) l.low l.high w)

abbrev pub decreases-loop-low : goal.decreases-loop-low
decreases-loop-low g l = l.high - l.low
