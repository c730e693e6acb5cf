-- The judgement of an input, a byte a step: the automaton, how many nodes may still come, and of the content that came last its length and
-- how far its characters are read.
use Rattle.std.specs.Prelude.{ℕ, zero, suc, ◌-◌, Bool, true, cond, ◌&&◌, List, [], ◌∷◌, leb, ltb, get_or}
use Rattle.tree.specs.Content.{content_limit}
use Rattle.xml.specs.Reading.{input_limit, opener}
use Rattle.xml.specs.Laws.Automaton.{Config, at_start, Move, stuck, move, step}
use Rattle.xml.specs.Laws.Monitor.{Monitor, Seen, unspelled, seen, monitor, monitoring}
use Rattle.xml.specs.Laws.Counts.{births, tail}
use Rattle.xml.specs.Laws.Phases.{phase, is_over}
use Rattle.xml.specs.Laws.Forces.{extent}

pub data Verdict : Type 0 where
  -- a document, which could have so many nodes more
  fine : (left : ℕ) → Verdict
  bad : (cause offset : ℕ) → Verdict

-- the byte at offset i, b before it, makes it too many nodes or not, and a content of k bytes
abbrev pub weighed : ℕ → ℕ → Bool → ℕ → Verdict → Verdict
weighed b i many k further =
    cond (many && opener b) (bad 6 (i - 1))
    (cond (leb input_limit i) (bad 4 i)
    (cond (ltb content_limit k) (bad 5 i)
    (cond many (bad 6 i) further)))

abbrev pub if_seen : Seen → ℕ → (Monitor → Verdict) → Verdict
if_seen unspelled i f = bad 4 i
if_seen (seen y) i f = f y

abbrev pub judge_move : Move → Monitor → ℕ → ℕ → ℕ → ℕ → (Config → Monitor → ℕ → ℕ → Verdict) → Verdict
judge_move stuck x n k b i f = bad 4 i
judge_move (move d v) x n k b i f =
    if_seen (monitor x v) i
    (λ y. let further = f d y (n - births v) (tail k v) in weighed b i (ltb n (births v)) (extent k v d) further)

-- from c on, where n nodes may still come, with k bytes of the last content, the byte before and the offset
unfoldable pub judge : Config → Monitor → ℕ → ℕ → ℕ → ℕ → List ℕ → Verdict
judge c x n k b i [] = cond (is_over (phase c)) (fine n) (bad 4 i)
judge c x n k b i (a ∷ s) = judge_move (step true c a) x n k b i (λ d y m j. judge d y m j a (suc i) s)

abbrev pub byte_before : List ℕ → ℕ → ℕ
byte_before s zero = 0
byte_before s (suc i) = get_or s i 0

-- node 0 is there
unfoldable pub judgement : ℕ → List ℕ → Verdict
judgement limit s = judge at_start monitoring (limit - 1) 0 0 0 s
