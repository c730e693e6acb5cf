use mathlib.Core.Path.{refl}
use borrow.Author.Rules.{rules}
use Rattle.std.proofs.Common.{tests}
use Rattle.std.proofs.lemmas.Iterator.{YieldsList-from_range}
use Rattle.std.proofs.lemmas.Iterator.Search.{any_from_yields_List}
use Rattle.table.specs.Layout.{is_open}
use Rattle.xml_load.proofs.any_open.Goals as goal

pub returns : goal.returns
returns c =
    any_from_yields_List (is_open c.args.s.now) _ _ _ c.any.ensures.ran (YieldsList-from_range 1 17 16 refl refl)
    (λ x b q k. search (rules, tests))
