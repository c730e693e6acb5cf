use Rattle.std.proofs.Common.{◌≡◌, length, drop}
use Rattle.xml.specs.Writing.{escaped}
use Rattle.xml_text.specs.Lending.{Partly}
use Rattle.xml_content.proofs.escaping.put_each.Given as goal

abbrev pub invariant-loop-b : goal.invariant-loop-b
invariant-loop-b l =
    (length l.out ≡ length l.initial.out)
    × Partly (escaped l.value l.p) (escaped l.value (drop l.b-index l.p)) l.initial.out l.out l.at
