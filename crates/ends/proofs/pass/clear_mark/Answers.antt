use Rattle.table.specs.Marks.{byte_of}
use Rattle.ends.specs.Laws.Marks.{nobody_storable, cleared, not_cleared}
use Rattle.ends.proofs.pass.clear_mark.Goals as goal

pub set_mark-requires : goal.set_mark-requires
set_mark-requires c = (c.requires.0, c.requires.1, nobody_storable (byte_of c.args.mark))

pub returns-then-marked_by-t : goal.returns-then-marked_by-t
returns-then-marked_by-t c =
    cleared c.args.i (byte_of c.args.mark) c.args.t _ c.marked_by.ensures c.if-marked_by-t.true c.set_mark.ensures

pub returns-else-marked_by-t : goal.returns-else-marked_by-t
returns-else-marked_by-t c =
    not_cleared _ c.args.i (byte_of c.args.mark) c.args.t _ c.marked_by.ensures c.if-marked_by-t.false c.requires.0
