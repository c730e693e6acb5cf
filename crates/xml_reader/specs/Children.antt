-- Texts and tags in the content of the open elements, and the whole input.
use Rattle.std.specs.Prelude.{ℕ, ◌+◌, ◌-◌, ◌≤◌, ◌≡◌, true, List, [], ◌∷◌, length, get_or, Result, Ok, Err}
use Rattle.xml.specs.Bytes.{less_than}
use Rattle.xml.specs.Grammar.{Name}
use Rattle.xml.specs.Reading.{node_offset}
use Rattle.xml.specs.Laws.Automaton.{Config, behind_open, end_name, epilog, closed}
use Rattle.xml.specs.Laws.Judge.{bad}
use Rattle.xml.specs.Laws.Goes.{Leads, Goes}
use Rattle.xml_tokens.specs.declared.Cursor.{Cursor}
use Rattle.xml_reader.specs.Elements.{stack, Placed, Onward}
use Rattle.protocol.specs.CauseNumbers.{number_of}
use Rattle.protocol.specs.declared.causes.Cause.{Cause}
use Rattle.xml_reader.specs.Values.{inside_at}
use Rattle.xml_reader.specs.declared.Inside.{Inside}
use Rattle.xml_tokens.specs.Values.{refusal}
use Rattle.xml_tokens.specs.declared.Refusal.{Refusal}

-- behind a < in the innermost of these elements
abbrev pub opened : List Name → Config
opened [] = epilog
opened (n ∷ ns) = behind_open n ns

-- behind the slash of an end tag there
abbrev pub ending : List Name → Config
ending [] = epilog
ending (n ∷ ns) = end_name n ns n

-- an offset behind a <
pub record Behind (s : List ℕ) (at : ℕ) : Type 0 where
  pub inside : at ≤ length s
  pub not_first : 1 ≤ at
  pub opens : get_or s (at - 1) 0 ≡ less_than

-- an offset where a node could begin
pub record Beginning (s : List ℕ) (at : ℕ) : Type 0 where
  pub inside : at ≤ length s
  pub begins_here : node_offset s at ≡ at

-- so many elements are open, the offsets before their names at the first places; there is a place for each of the spare nodes
pub record Deep (s os : List ℕ) (depth spare : ℕ) : Type 0 where
  pub some : 1 ≤ depth
  pub room : depth + 1 + spare ≤ 1024
  pub long : length os ≡ 1024
  pub names : Placed s os depth

-- where a part of the content leads from a configuration: to so many open elements, the offsets before their names in os
pub data ChildRead (s : List ℕ) (from : Config) (at spare : ℕ) (os : List ℕ) : Result Inside Refusal → Type 0 where
  child_at : {c : Cursor} {d m : ℕ} → Onward s at spare c m → d + 1 + m ≤ 1024 → length os ≡ 1024 → Placed s os d
      → Goes true s from spare at (closed (stack s os 0 d)) m c.at
      → ChildRead s from at spare os (Ok (inside_at c d m))
  child_stopped : {x : Cause} {j : ℕ} → Leads true s from spare at (bad (number_of x) j) → ChildRead s from at spare os (Err (refusal x j))
