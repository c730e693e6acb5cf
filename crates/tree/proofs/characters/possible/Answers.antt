use mathlib.Core.Path.{◌∙◌}
use native.Mathlib.Omega.{arith}
use Rattle.tree.specs.Spelling.{possible}
use Rattle.tree.specs.Values.{part_of}
use Rattle.tree.proofs.Reading.{small_room}
use Rattle.tree.proofs.characters.possible.Goals as goal

pub overflow_mul-low : goal.overflow_mul-low
overflow_mul-low c = omega (arith, small_room (part_of c.args.p) c.requires _ c.breadth-n.ensures)

pub overflow_sub-n : goal.overflow_sub-n
overflow_sub-n c =
    let s = c in
    omega (arith, small_room (part_of s.args.p) s.requires _ c.breadth-n.ensures)

pub overflow_add-low : goal.overflow_add-low
overflow_add-low c =
    let s = c in
    omega (arith, small_room (part_of s.args.p) s.requires _ c.breadth-n.ensures)

pub returns : goal.returns
unfolding possible
returns c = c.class_meets.ensures ∙ rw (c.max.ensures, c.breadth-n.ensures)
