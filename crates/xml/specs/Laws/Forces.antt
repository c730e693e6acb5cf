-- What a prefix leads to, however it goes on: as many nodes and as long a content as the automaton has told, or is certain to.
use Rattle.std.specs.Prelude.{ℕ, ◌+◌, max, List}
use Rattle.xml.specs.Laws.Automaton.{Config, Event}
use Rattle.xml.specs.Laws.Counts.{tail, peak}
use Rattle.xml.specs.Laws.Phases.{phase, pending}

-- the longest content so far, with what a reference that is begun will add
abbrev pub extent : ℕ → List Event → Config → ℕ
extent k v c = max (peak k v) (tail k v + pending (phase c))
