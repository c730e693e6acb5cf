use Rattle.std.proofs.Common.{◌∙◌, rules, tests}
use Rattle.std.proofs.lemmas.Iterator.{YieldsList-from_slice}
use Rattle.std.proofs.lemmas.Iterator.Search.{all_from_yields_List}
use Rattle.tree.specs.Values.{plain}
use Rattle.tree.proofs.Bytes.{every_of}
use Rattle.tree.proofs.characters.all_plain.Goals as goal

pub returns : goal.returns
returns c =
    all_from_yields_List (plain c.args.text) _ _ c.all.result c.all.ensures.ran (YieldsList-from_slice c.args.b.now cc)
    (λ x b q k. search (rules, tests))
    ∙ every_of (plain c.args.text) c.args.b.now
