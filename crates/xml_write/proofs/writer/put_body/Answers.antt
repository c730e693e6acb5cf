use Rattle.std.proofs.Common.{◌∙◌, sym, refl, arith, rules}
use Rattle.xml_text.specs.Lending.{partly_start, partly_as}
use Rattle.xml_text.specs.Laws.Next.{both}
use Rattle.xml_write.specs.Laws.Rows.{from_start, item_inside, item_low, item_deep, item_on, item_next, rows_over}
use Rattle.xml_write.proofs.writer.put_body.Goals as goal

pub loop-here-init : goal.loop-here-init
loop-here-init c =
    let o = c.new-open in
    let s = o.ensures.same ∙ c.at.ensures.0 in
    record {
      same = s;
      long = refl;
      walk = rw o.ensures.top (record {
        on_path = rw (s, o.ensures.top) at o.result.on_path;
        of_kinds = rw (s, o.ensures.top) at o.result.of_kinds;
        some = omega arith;
        high = omega arith;
        row = sym c.requires.1.first;
      });
      partly =
          rw o.ensures.top (partly_as (from_start o.result.path c.requires.1 (o.ensures.path ∙ c.at.ensures.1)) (partly_start _ _));
    }

pub at-node-requires : goal.at-node-requires
at-node-requires c = (c.requires.0, item_inside c.requires.1 c.loop-here.invariant.walk c.loop-here-test.true refl)

pub put_row-at-requires-clause-low : goal.put_row-at-requires-clause-low
put_row-at-requires-clause-low c =
    let d = rw c.at-node.ensures.0 at c.depth-d.ensures in
    item_low c.requires.1 c.loop-here.invariant.walk c.loop-here-test.true c.at-node.ensures.1 d

pub put_row-at-requires-clause-room : goal.put_row-at-requires-clause-room
put_row-at-requires-clause-room c =
    let d = rw c.at-node.ensures.0 at c.depth-d.ensures in
    let n = item_next c.requires.1 c.loop-here.invariant.walk c.loop-here-test.true c.at-node.ensures.1 d c.loop-here.invariant.partly c.requires.2 in
    rw c.loop-here.invariant.same n.room

pub enter-requires-clause-deep : goal.enter-requires-clause-deep
enter-requires-clause-deep c =
    let d = rw c.at-node.ensures.0 at c.depth-d.ensures in
    item_deep c.requires.1 c.loop-here.invariant.walk c.loop-here-test.true c.at-node.ensures.1 d

pub loop-here-preserved : goal.loop-here-preserved
loop-here-preserved c =
    let n = c.at-node in
    let d = rw n.ensures.0 at c.depth-d.ensures in
    let k = rw n.ensures.0 at n.result.of_kind in
    let e = c.enter.ensures in
    record {
      same = e.same ∙ c.loop-here.invariant.same;
      long = search rules;
      walk = rw (e.path, e.kinds, e.top) (item_on c.requires.1 c.loop-here.invariant.walk c.loop-here-test.true n.ensures.1 d k);
      partly =
          rw (e.path, e.top)
          ((item_next c.requires.1 c.loop-here.invariant.walk c.loop-here-test.true n.ensures.1 d c.loop-here.invariant.partly c.requires.2).on _ _
          (rw c.loop-here.invariant.same at c.put_row-at.ensures));
    }

pub put_ends-requires : goal.put_ends-requires
put_ends-requires c =
    rw c.loop-here.invariant.same
    (rows_over c.requires.1 c.loop-here.invariant.walk (omega arith) c.loop-here.invariant.partly c.requires.2).room

pub returns : goal.returns
returns c =
    both (rows_over c.requires.1 c.loop-here.invariant.walk (omega arith) c.loop-here.invariant.partly c.requires.2) _ _
    (rw c.loop-here.invariant.same at c.put_ends.ensures)
