use borrow.Author.Rules.{rules}
use mathlib.Core.Path.{◌∙◌}
use Rattle.table.specs.Layout.{nodes}
use Rattle.node_reading.specs.Laws.Buffers.{written_start, written_more, written_done, cell_pieces}
use Rattle.node_reading.proofs.cells.Goals as goal

pub loop-j-init : goal.loop-j-init
loop-j-init c = written_start _ _ _ _

pub loop-j-preserved : goal.loop-j-preserved
loop-j-preserved c = written_more c.loop-j.invariant (search rules) (search rules) (rw (← c.from.ensures) c.put_cell.ensures) (search rules)

pub returns : goal.returns
returns c = written_done c.loop-j.invariant (search rules) (search rules) ∙ rw (cell_pieces (nodes c.args.s.now) c.args.places.now)
