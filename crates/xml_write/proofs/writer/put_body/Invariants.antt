use Rattle.std.proofs.Common.{◌≡◌, ◌+◌, length}
use Rattle.table.specs.Layout.{nodes}
use Rattle.xml_text.specs.Rows.{body}
use Rattle.xml_text.specs.Lending.{Partly}
use Rattle.xml_measure.specs.Lines.{lines}
use Rattle.xml_measure.specs.Walk.{Walk}
use Rattle.xml_write.specs.Laws.Rows.{from}
use Rattle.xml_write.proofs.writer.put_body.Given as goal

abbrev pub invariant-loop-here : goal.invariant-loop-here
invariant-loop-here l = record {
  same : l.open.s.now ≡ l.s;
  long : length l.out ≡ length l.initial.out;
  walk : Walk (nodes l.s) l.rows.places l.open.path l.open.kinds l.open.top (l.here-index + 1);
  partly :
      Partly (body (lines (nodes l.s) l.rows.places l.rows.count))
      (from (nodes l.s) l.rows.places l.rows.count l.open.path l.open.top (l.here-index + 1)) l.initial.out l.out l.at;
}
