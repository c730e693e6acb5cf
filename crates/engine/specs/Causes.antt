-- A refusal by its number, and 0 where there is none.
use Rattle.std.specs.Prelude.{ℕ, Result, Ok, Err}
use Rattle.protocol.specs.declared.causes.Cause.{Cause}
use Rattle.protocol.specs.CauseNumbers.{number_of}

abbrev pub cause_of : {T : Type 0} → Result T Cause → ℕ
cause_of (Ok x) = 0
cause_of (Err c) = number_of c
