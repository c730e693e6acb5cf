use mathlib.Core.Path.{sym, ◌∙◌}
use borrow.Author.Tests.{lt-leb}
use Rattle.protocol.specs.Lent.{first_lent, second_lent}
use Rattle.write_steps.proofs.place_cause.Goals as goal

pub returns : goal.returns
unfolding first_lent second_lent
returns c =
    rw (
      sym c.fits.ensures
          ∙ c.if-not-fits.false,
      ← c.count.ensures,
      lt-leb 1024 _ c.if-count-ge-NODES.false,
    )
