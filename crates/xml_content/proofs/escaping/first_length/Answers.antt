use Rattle.std.proofs.Common.{take, arith, rules, tests, length-take}
use Rattle.std.specs.List.{enumerate_from}
use Rattle.std.proofs.lemmas.Iterator.{YieldsList-from_slice, YieldsList-from_map}
use Rattle.std.proofs.lemmas.Iterator.Consumers.{YieldsList-at, YieldsList-from_enumerate, sum_by_from_yields_List, fits_by_from_yields_list}
use Rattle.xml_content.specs.Laws.Escaping.{counted, first_small, first_counted}
use Rattle.xml_content.proofs.escaping.first_length.Goals as goal

pub slice_bounds-iter-end : goal.slice_bounds-iter-end
slice_bounds-iter-end c = omega (arith, length-take 32 c.args.w.now)

pub sum-requires-clause-fits : goal.sum-requires-clause-fits
sum-requires-clause-fits c =
    fits_by_from_yields_list _ _ c.map.result _
    (YieldsList-from_map _ (counted c.args.value c.args.n)
    (YieldsList-at c.map.ensures.source (YieldsList-from_enumerate (YieldsList-from_slice (take 32 c.args.w.now) cc) c.enumerate.ensures.count))
    c.map.ensures.closure (λ x r q k. search (rules, tests)))
    (omega (arith, first_small c.args.value c.args.w.now c.args.n))

pub returns : goal.returns
returns c =
    first_counted c.args.value c.args.w.now c.args.n _
    (sum_by_from_yields_List _ (enumerate_from 0 (take 32 c.args.w.now)) c.map.result _ c.sum.ensures.ran
    (YieldsList-from_map _ (counted c.args.value c.args.n)
    (YieldsList-at c.map.ensures.source (YieldsList-from_enumerate (YieldsList-from_slice (take 32 c.args.w.now) cc) c.enumerate.ensures.count))
    c.map.ensures.closure (λ x r q k. search (rules, tests))))
    c.requires
