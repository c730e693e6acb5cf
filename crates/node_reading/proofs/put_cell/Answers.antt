use Rattle.std.proofs.Common.{refl, rules}
use Rattle.node_reading.specs.Laws.Stores.{copied, cell_stored, stored_whole}
use Rattle.node_reading.proofs.put_cell.Goals as goal

pub returns : goal.returns
returns c =
    let size = c.size-n in
    let e = c.content_bytes.ensures in
    let f = cell_stored {k = 0} size.ensures.0 size.ensures.1 (copied _ (rw e at c.store.ensures) refl (search rules)) c.clear.ensures (search rules) in
    stored_whole f.0 f.1 c.requires.2
