-- The judgement of an input, a byte a step: the automaton, how many nodes may still come, and of the content that came last its length and
-- how far its characters are read.
use Rattle.std.specs.Prelude.{ℕ, zero, suc, ◌-◌, ◌≤◌, ◌≡◌, refl, true, false, List}
use Rattle.std.proofs.lemmas.Bool.{false≢true}
use Rattle.std.proofs.Common.{arith}
use Rattle.xml.specs.Reading.{opener, node_offset}
use Rattle.xml.specs.Laws.Judge.{byte_before}

-- where a node begins that a byte makes certain
pub offset_before : (s : List ℕ) (i : ℕ) → opener (byte_before s i) ≡ true → (node_offset s i ≡ i - 1) × (1 ≤ i)
offset_before s zero h = absurd (false≢true h)
offset_before s (suc i) h = let p : i ≡ suc i - 1 = omega arith in (rw h p, omega arith)

pub offset_at : (s : List ℕ) (i : ℕ) → opener (byte_before s i) ≡ false → node_offset s i ≡ i
offset_at s zero h = refl
offset_at s (suc i) h = rw h
