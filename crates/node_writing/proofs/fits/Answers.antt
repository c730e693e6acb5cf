use mathlib.Core.Path.{◌∙◌}
use Rattle.node_writing.specs.Laws.Tallies.{placed_counted}
use Rattle.node_writing.proofs.fits.Goals as goal

pub returns : goal.returns
returns c = c.has_place.ensures ∙ placed_counted _ _ c.tally_children.ensures.0 ∙ rw (c.from-parent.ensures, c.kind.ensures)
