use Prim.Native.Nat.{ℕ}
use mathlib.Core.Bool.{Bool}
use Rattle.xml_tokens.specs.Values.{Computes}
use Rattle.xml_tokens.specs.Laws.Runs.{Running}
use Rattle.xml_tokens.proofs.Cursor.run.Given as goal

abbrev pub invariant-loop-i : goal.invariant-loop-i
invariant-loop-i g l = (t : ℕ → Bool) → Computes (goal.F-post g l.class) t → Running t l.s l.fn.self.at l.i
