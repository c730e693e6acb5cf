-- What the number of an exported call says, and how the programs print it.
use Rattle.std.specs.Prelude.{◌≡◌, ℕ, ◌/◌, ◌%◌, ◌<◌, Bool, cond, ◌&&◌, leb, List, ◌++◌, codes, decimal, Option, Some, None}
use Rattle.protocol.specs.Answers.{packed, number_kind}
use Rattle.protocol.specs.Causes.{not_of_grammar, nodes_over_limit}
use Rattle.outcomes.specs.declared.Outcome.{Outcome}
use Rattle.outcomes.specs.declared.Outcome.TheVariants.{Granted, Waits, Refused}

-- a number that some answer has: granted, a wait or a refusal, and a cause in a refusal alone
abbrev pub IsPacked : ℕ → Type 0
IsPacked code = (code % 256 < 3) × (code % 256 < 2 → code / 256 % 256 ≡ 0)

-- the number for an outcome
abbrev pub packed_as : Outcome → ℕ
packed_as (Granted number kind) = packed 0 0 (number_kind number kind)
packed_as (Waits set) = packed 1 0 set
packed_as (Refused cause offset) = packed 2 cause offset

-- a letter and a number
abbrev pub shown : Outcome → List ℕ
shown (Granted number kind) = codes "G " ++ decimal number
shown (Waits set) = codes "W " ++ decimal set
shown (Refused cause offset) = codes "R " ++ decimal cause

-- the causes of load that have an offset
abbrev pub is_of_input : ℕ → Bool
is_of_input cause = leb not_of_grammar cause && leb cause nodes_over_limit

abbrev pub offset_of : Outcome → Option ℕ
offset_of (Granted number kind) = None
offset_of (Waits set) = None
offset_of (Refused cause offset) = cond (is_of_input cause) (Some offset) None
