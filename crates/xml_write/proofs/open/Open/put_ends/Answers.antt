use Rattle.std.proofs.Common.{refl, arith, rules}
use Rattle.xml_write.specs.Laws.Rows.{next_end, ends_turn, ends_over}
use Rattle.xml_write.proofs.open.Open.put_ends.Goals as goal

pub put_end-at-requires : goal.put_end-at-requires
put_end-at-requires c =
    (next_end c.args.self.now.of_kinds c.loop-e.invariant.1 (omega arith) c.requires refl).room

pub loop-e-preserved : goal.loop-e-preserved
loop-e-preserved c =
    (search rules, ends_turn c.args.self.now.of_kinds c.loop-e.invariant.1 (omega arith) c.requires refl _ _ c.put_end-at.ensures)

pub returns : goal.returns
returns c = ends_over c.loop-e.invariant.1 (omega arith)
