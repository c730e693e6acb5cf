use mathlib.Core.Path.{refl, ◌∙◌}
use Rattle.table.specs.Laws.Texts.{size_small}
use Rattle.xml_measure.proofs.committed.content.Goals as goal

pub returns : goal.returns
returns c =
    let v = c.version-v in
    let e = c.content_bytes.ensures in
    (e ∙ v.ensures.1, rw e (size_small c.args.s.now c.args.p v.result _ refl c.requires.0 c.requires.1 v.ensures.2))
