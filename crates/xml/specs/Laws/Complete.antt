-- Every document of the grammar is read to its end.
use Rattle.std.specs.Prelude.{ℕ, Bool}
use mathlib.Core.List.{List}
use Rattle.xml.specs.Laws.Automaton.{Config, epilog}
use Rattle.xml.specs.Laws.Automaton.{Event, Reads}

abbrev pub Accepts : Bool → Config → List ℕ → List Event → Type 0
Accepts u c s e = Reads u c s e epilog
