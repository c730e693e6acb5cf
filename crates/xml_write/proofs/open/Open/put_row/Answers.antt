use Rattle.xml_write.specs.Laws.Rows.{ends_room, row_room, row_behind}
use Rattle.xml_write.proofs.open.Open.put_row.Goals as goal

pub put_ends-at-requires : goal.put_ends-at-requires
put_ends-at-requires c =
    ends_room c.args.self.now.of_kinds _ _ _ c.previous-previous.ensures c.requires.low c.requires.high _ c.requires.room

pub put_begin-requires : goal.put_begin-requires
put_begin-requires c =
    rw c.requires.same
    (row_room c.args.self.now.of_kinds _ _ _ c.previous-previous.ensures c.requires.low c.requires.high _ c.requires.room c.put_ends-at.ensures)

pub returns : goal.returns
returns c =
    row_behind c.args.self.now.of_kinds _ _ _ c.previous-previous.ensures c.requires.low c.requires.high _ c.requires.room c.put_ends-at.ensures _ _
    (rw c.requires.same at c.put_begin.ensures)
