use Rattle.std.proofs.Common.{rules, arith, refl, sym, ◌∙◌}
use Rattle.xml_measure.specs.Laws.Contents.{version_now, version_saved}
use Rattle.xml_measure.proofs.committed.version.Goals as goal

pub returns-then-writer-eq0 : goal.returns-then-writer-eq0
returns-then-writer-eq0 c = (omega arith, version_now _ _ (search rules) (sym c.writer.ensures ∙ c.if-writer-eq0.true), refl)

pub returns-else-writer-eq0 : goal.returns-else-writer-eq0
returns-else-writer-eq0 c =
    let v = version_saved _ _ (λ e. c.if-writer-eq0.false (c.writer.ensures ∙ e)) in
    (omega arith, v.0, v.1)
