use mathlib.Core.Path.{◌∙◌}
use Rattle.table.specs.Laws.Texts.{size_small, size_at}
use Rattle.table.proofs.size.Goals as goal

pub returns : goal.returns
returns c =
    let slot = c.slot.ensures.0 in
    let e = c.from.ensures ∙ size_at _ c.args.i c.args.o _ slot c.requires.0 c.requires.1 c.requires.3 in
    (e, rw e (size_small _ c.args.i c.args.o _ slot c.requires.0 c.requires.1 c.requires.3))
