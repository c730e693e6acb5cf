use Rattle.std.proofs.Common.{refl, arith, rules}
use Rattle.xml_content.specs.Laws.Escaping.{next_byte, no_byte}
use Rattle.xml_content.proofs.escaping.put_each.Goals as goal

pub put_byte-at-requires : goal.put_byte-at-requires
put_byte-at-requires c =
    (next_byte _ c.args.p.now c.loop-b.b-index c.loop-b.invariant.1 c.requires _ (omega arith) refl).room

pub loop-b-preserved : goal.loop-b-preserved
loop-b-preserved c =
    let n = next_byte _ c.args.p.now c.loop-b.b-index c.loop-b.invariant.1 c.requires _ (omega arith) refl in
    (search rules, n.on _ _ c.put_byte-at.ensures)

pub returns : goal.returns
returns c = no_byte _ c.args.p.now c.loop-b.b-index c.loop-b.invariant.1 (omega arith)
