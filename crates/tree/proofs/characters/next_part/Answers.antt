use native.Mathlib.Omega.{arith}
use Rattle.tree.specs.Values.{part_of}
use Rattle.tree.proofs.Reading.{small_value}
use Rattle.tree.proofs.characters.next_part.Goals as goal

pub overflow_mul-result : goal.overflow_mul-result
overflow_mul-result c = let s = c in omega (arith, small_value (part_of s.args.p) s.requires.0 s.requires.1)

pub overflow_add-result : goal.overflow_add-result
overflow_add-result c = let s = c in omega (arith, small_value (part_of s.args.p) s.requires.0 s.requires.1)
