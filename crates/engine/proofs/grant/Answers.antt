use Rattle.engine.specs.Laws.Grants.{forgotten_inside, granted_step}
use Rattle.engine.proofs.grant.Goals as goal

pub grant-requires : goal.grant-requires
grant-requires c =
    let pre = c.requires in
    rw c.from-t.ensures (forgotten_inside _ _ _ _ (rw c.from-t.ensures at c.remember.ensures) pre.0 pre.1 pre.2 pre.3)

pub returns : goal.returns
returns c =
    let pre = c.requires in
    granted_step _ _ _ _ _ _ (rw c.from-t.ensures at c.remember.ensures) pre.0 pre.1 pre.2 (rw c.from-t.ensures at c.grant.ensures)
