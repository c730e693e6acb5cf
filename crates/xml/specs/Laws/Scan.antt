-- The judgement without the limit on the input, as a reader makes it, and that the limit can be applied afterwards.
use Rattle.std.specs.Prelude.{ℕ, suc, ◌-◌, Bool, ◌&&◌, List, [], ◌∷◌, leb, ltb, drop}
use Rattle.std.proofs.Math.Bool.{true, cond}
use Rattle.tree.specs.Content.{content_limit}
use Rattle.xml.specs.Reading.{input_limit, opener}
use Rattle.xml.specs.Laws.Automaton.{Config, Move, stuck, move, step}
use Rattle.xml.specs.Laws.Counts.{births, tail}
use Rattle.xml.specs.Laws.Phases.{phase, is_over}
use Rattle.xml.specs.Laws.Forces.{extent}
use Rattle.xml.specs.Laws.Monitor.{Monitor, monitor}
use Rattle.xml.specs.Laws.Judge.{Verdict, fine, bad, if_seen, byte_before}

-- as `weighed`, without the limit
abbrev pub counted : ℕ → ℕ → Bool → ℕ → Verdict → Verdict
counted b i many k further = cond (many && opener b) (bad 6 (i - 1)) (cond (ltb content_limit k) (bad 5 i) (cond many (bad 6 i) further))

abbrev pub scan_move : Move → Monitor → ℕ → ℕ → ℕ → ℕ → (Config → Monitor → ℕ → ℕ → Verdict) → Verdict
scan_move stuck x n k b i f = bad 4 i
scan_move (move d v) x n k b i f =
    if_seen (monitor x v) i (λ y. let further = f d y (n - births v) (tail k v) in counted b i (ltb n (births v)) (extent k v d) further)

unfoldable pub scan : Config → Monitor → ℕ → ℕ → ℕ → ℕ → List ℕ → Verdict
scan c x n k b i [] = cond (is_over (phase c)) (fine n) (bad 4 i)
scan c x n k b i (a ∷ s) = scan_move (step true c a) x n k b i (λ d y m j. scan d y m j a (suc i) s)

-- the limit: a verdict on the first 65,537 bytes, for an input that has more than 65,536 or not
abbrev pub limited : Bool → Verdict → Verdict
limited long (fine n) = cond long (bad 4 input_limit) (fine n)
limited long (bad c i) = cond (leb input_limit i) (bad 4 input_limit) (bad c i)

-- steps ------------------------------------------------------------------------------------

-- from offset i of s on
unfoldable pub scan_at : List ℕ → Config → Monitor → ℕ → ℕ → ℕ → Verdict
scan_at s c x n k i = scan c x n k (byte_before s i) i (drop i s)
