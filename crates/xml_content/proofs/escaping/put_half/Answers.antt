use Rattle.std.proofs.Common.{sym, ap, length, arith, length-take}
use Rattle.xml_text.specs.Lending.{wrote_as}
use Rattle.xml_content.specs.Laws.Escaping.{plain_first}
use Rattle.xml_content.proofs.escaping.put_half.Goals as goal

pub put_content-requires : goal.put_content-requires
put_content-requires c =
    let e = plain_first c.args.value c.args.half.now c.args.n 16 _ c.requires.0 c.whole_length.ensures.0 c.if-whole_length-eq16.true in
    (omega (arith, length-take c.args.n c.args.half.now), omega (arith, ap length e))

pub returns-then-whole_length-eq16 : goal.returns-then-whole_length-eq16
returns-then-whole_length-eq16 c =
    wrote_as (sym (plain_first c.args.value c.args.half.now c.args.n 16 _ c.requires.0 c.whole_length.ensures.0 c.if-whole_length-eq16.true))
    c.put_content.ensures
