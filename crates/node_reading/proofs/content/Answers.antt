use Rattle.std.proofs.Common.{refl, rules}
use Rattle.node_reading.specs.Laws.Stores.{copied, stored_front}
use Rattle.node_reading.proofs.content.Goals as goal

pub returns : goal.returns
returns c =
    let e = c.content_bytes.ensures in
    stored_front (copied _ (rw e at c.store.ensures) refl (search rules)) (search rules)
