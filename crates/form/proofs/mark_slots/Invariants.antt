use mathlib.Core.Path.{◌≡◌}
use mathlib.Core.Bool.{◌&&◌}
use lib.ListN.{drop}
use lib.Dec.{ltb}
use Rattle.tree.specs.Lists.{every}
use Rattle.protocol.specs.Calls.{node_limit}
use Rattle.form.specs.Form.{slots}
use Rattle.form.specs.Check.{marked}
use Rattle.form.proofs.mark_slots.Given as goal

abbrev pub invariant-loop-i : goal.invariant-loop-i
invariant-loop-i l =
    (marked l.initial.met (slots l.s) ≡ marked l.met (drop l.i (slots l.s)))
    × (every (λ k. ltb k node_limit) (slots l.s) ≡ (ltb l.bits node_limit && every (λ k. ltb k node_limit) (drop l.i (slots l.s))))
