use Rattle.std.proofs.Common.{sym, ap, length, arith, length-take, length-drop}
use Rattle.xml.specs.Writing.{escaped}
use Rattle.xml_text.specs.Lending.{wrote_as}
use Rattle.xml_content.specs.Laws.Escaping.{plain_first, first_half, half_room, rest_room, rest_behind}
use Rattle.xml_content.proofs.escaping.put_escaped.Goals as goal

pub slice_bounds-whole_length-end : goal.slice_bounds-whole_length-end
slice_bounds-whole_length-end c = omega (arith, length-take 32 c.args.w.now)

pub whole_length-requires : goal.whole_length-requires
whole_length-requires c = omega (arith, length-take 32 c.args.w.now)

pub put_content-requires : goal.put_content-requires
put_content-requires c =
    let e = plain_first c.args.value c.args.w.now c.args.n 32 _ c.requires.0 c.whole_length.ensures.0 c.if-whole_length-eq32.true in
    (omega (arith, length-take c.args.n c.args.w.now), omega (arith, ap length e))

pub returns-then-whole_length-eq32 : goal.returns-then-whole_length-eq32
returns-then-whole_length-eq32 c =
    wrote_as (sym (plain_first c.args.value c.args.w.now c.args.n 32 _ c.requires.0 c.whole_length.ensures.0 c.if-whole_length-eq32.true))
    c.put_content.ensures

pub put_half-requires : goal.put_half-requires
put_half-requires c =
    let e = first_half c.args.value c.args.w.now c.args.n c.args.out.now c.requires.0 c.requires.2 (omega arith) in
    (omega (arith, length-take 16 c.args.w.now), omega arith, rw e c.requires.2)

pub returns-then-n-le16 : goal.returns-then-n-le16
returns-then-n-le16 c =
    wrote_as (ap (escaped c.args.value) (first_half c.args.value c.args.w.now c.args.n c.args.out.now c.requires.0 c.requires.2 (omega arith)))
    c.put_half.ensures

pub put_half-at-requires : goal.put_half-at-requires
put_half-at-requires c = (
  omega (arith, length-take 16 c.args.w.now),
  omega arith,
  half_room c.args.value c.args.w.now c.args.n c.args.out.now c.requires.0 c.requires.2 (omega arith),
)

pub put_half-requires-2 : goal.put_half-requires-2
put_half-requires-2 c = (
  simp (length-take, length-drop) (omega arith),
  omega arith,
  rest_room c.args.value c.args.w.now c.args.n c.args.out.now c.requires.0 c.requires.2 (omega arith) c.put_half-at.ensures,
)

pub returns : goal.returns
returns c =
    rest_behind c.args.value c.args.w.now c.args.n c.args.out.now c.requires.0 c.requires.2 (omega arith) c.put_half-at.ensures _ _
    c.put_half-2.ensures
