use Rattle.std.proofs.Common.{arith, length-take}
use Rattle.xml_content.specs.Laws.Escaping.{plain_length}
use Rattle.xml_content.proofs.escaping.escaped_length.Goals as goal

pub slice_bounds-whole_length-end : goal.slice_bounds-whole_length-end
slice_bounds-whole_length-end c = omega (arith, length-take 32 c.args.w.now)

pub whole_length-requires : goal.whole_length-requires
whole_length-requires c = omega (arith, length-take 32 c.args.w.now)

pub returns-then-whole_length-eq32 : goal.returns-then-whole_length-eq32
returns-then-whole_length-eq32 c =
    let e = plain_length c.args.value c.args.w.now c.args.n 32 _ c.requires.0 c.whole_length.ensures.0 c.if-whole_length-eq32.true c.requires.1 in
    (e, omega arith)
