use Rattle.locks.proofs.Laws.Common.{mask_small}
use Rattle.engine.proofs.locking.masks.Goals as goal

pub returns : goal.returns
returns c =
    let mask = c.mask-node in
    let mask2 = c.mask-above in (
      rw (mask.ensures, mask2.ensures, c.parent_mask-parent.ensures),
      record {
        node = rw mask.ensures (mask_small _);
        parent = rw c.parent_mask-parent.ensures (mask_small _);
        above = rw mask2.ensures (mask_small _);
      },
    )
