use borrow.Author.Rules.{rules}
use mathlib.Core.Path.{ap, ◌∙◌}
use Rattle.protocol.specs.State.{WaitSets}
use Rattle.protocol.specs.Rings.{in_ring}
use Rattle.engine.specs.Laws.Waiting.{replaced_sets}
use Rattle.engine.proofs.closes_ring.Goals as goal

pub returns : goal.returns
returns c =
    c.ring.ensures ∙ ap (λ (r : WaitSets). in_ring r c.args.t)
    (replaced_sets c.args.t c.args.set c.gather-words.ensures (search rules) (search rules)
    (search rules))
