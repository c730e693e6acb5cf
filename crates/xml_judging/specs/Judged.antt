-- What is said of an input: document 01, "Refused calls" (load).
use Rattle.std.specs.Prelude.{ℕ, Result, Ok, Err}
use Rattle.protocol.specs.CauseNumbers.{number_of}
use Rattle.xml.specs.Laws.Judge.{Verdict, fine, bad}
use Rattle.xml_tokens.specs.declared.Refusal.{Refusal}

abbrev pub verdict : Result ℕ Refusal → Verdict
verdict (Ok n) = fine n
verdict (Err r) = bad (number_of r.cause) r.offset
