use Rattle.std.proofs.Common.{rules, arith}
use Rattle.byte_strings.specs.Laws.Entries.{found_part}
use Rattle.xml_reader.specs.Elements.{name_behind}
use Rattle.xml_reader.proofs.names.place.Goals as goal

pub returns : goal.returns
returns c =
    found_part c.args.names.now c.args.lo c.args.count (name_behind c.args.s.now) _ (omega arith) (omega (arith, c.told-names, c.requires.2))
    c.find.ensures c.requires.4 (λ i r k x. search rules)
