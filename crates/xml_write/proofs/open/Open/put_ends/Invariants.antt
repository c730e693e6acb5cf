use Rattle.std.proofs.Common.{◌≡◌, length}
use Rattle.table.specs.Layout.{nodes}
use Rattle.xml_write.specs.Laws.Rows.{EndsTo}
use Rattle.xml_write.proofs.open.Open.put_ends.Given as goal

abbrev pub invariant-loop-e : goal.invariant-loop-e
invariant-loop-e l =
    (length l.out ≡ length l.initial.out)
    × EndsTo (nodes l.self.s.now) l.self.path l.self.top l.d l.initial.out l.out l.at l.last l.e
