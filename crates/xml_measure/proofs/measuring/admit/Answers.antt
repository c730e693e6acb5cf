use mathlib.Core.Path.{sym, ◌∙◌}
use borrow.Author.Tests.{not-true, not-false}
use Rattle.xml_measure.specs.Names.{is_unfit, is_fit}
use Rattle.xml_measure.proofs.measuring.admit.Goals as goal

pub returns-then-not-fits : goal.returns-then-not-fits
returns-then-not-fits c = is_unfit (rw (← c.requires.5) (sym c.fits.ensures ∙ not-true _ c.if-not-fits.true-raw))

pub returns : goal.returns
returns c =
    is_fit (rw (← c.requires.5) (sym c.fits.ensures ∙ not-false _ c.if-not-fits.false-raw)) c.follow.ensures
