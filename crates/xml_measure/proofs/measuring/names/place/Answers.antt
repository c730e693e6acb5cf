use Rattle.std.proofs.Common.{rules, arith, refl}
use Rattle.byte_strings.specs.Laws.Entries.{found_part}
use Rattle.xml_measure.specs.Lines.{label_at}
use Rattle.table.specs.Layout.{nodes}
use Rattle.xml_measure.specs.Laws.Names.{ordered_by}
use Rattle.xml_measure.proofs.measuring.names.place.Goals as goal

pub returns : goal.returns
returns c =
    found_part c.args.names.now 0 c.args.count (λ q. (label_at (nodes c.args.s.now) q).content) _ refl
    (omega (arith, c.requires.2.room, c.requires.2.long)) c.find.ensures c.requires.3 (λ i r k x. search (rules, ordered_by))
