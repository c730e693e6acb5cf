use Rattle.std.proofs.Common.{ℕ, Bool, ◌∙◌, rules, tests, max, min, leb}
use Rattle.std.proofs.lemmas.Iterator.{YieldsList-from_slice}
use Rattle.std.proofs.lemmas.Iterator.Search.{any_from_yields_List}
use Rattle.tree.specs.Spelling.{meets}
use Rattle.tree.proofs.Bytes.{any_of}
use Rattle.tree.proofs.characters.meets.Goals as goal

pub returns : goal.returns
unfolding meets
returns c =
    let t : ℕ × ℕ → Bool = λ r. leb (max c.args.low r.0) (min c.args.high r.1) in
    any_from_yields_List t _ _ c.any.result c.any.ensures.ran
    (YieldsList-from_slice c.args.table.now cc) (λ x b q k. search (rules, tests))
    ∙ any_of t c.args.table.now
