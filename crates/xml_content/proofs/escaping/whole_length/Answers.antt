use Rattle.std.proofs.Common.{length, rules, tests}
use Rattle.std.proofs.lemmas.Iterator.{YieldsList-from_slice, YieldsList-from_map}
use Rattle.std.proofs.lemmas.Iterator.Consumers.{sum_by_from_yields_List}
use Rattle.xml.specs.Writing.{escape}
use Rattle.xml_content.specs.Laws.Escaping.{whole_counted}
use Rattle.xml_content.proofs.escaping.whole_length.Goals as goal

pub returns : goal.returns
returns c =
    let sum = sum_by_from_yields_List _ _ c.map.result _ c.sum.ensures.ran
    (YieldsList-from_map _ (λ b. length (escape c.args.value b)) (YieldsList-from_slice c.args.p.now cc) c.map.ensures.closure
    (λ x r q k. search (rules, tests))) in
    whole_counted _ _ _ sum c.requires
