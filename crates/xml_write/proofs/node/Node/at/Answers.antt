use Rattle.std.proofs.Common.{◌∙◌, sym, ap}
use Rattle.table.specs.Layout.{nodes}
use Rattle.xml_measure.specs.Lines.{label_at}
use Rattle.xml_measure.specs.Laws.Contents.{kind_at}
use Rattle.xml_write.proofs.node.Node.at.Goals as goal

pub invariant_of-result : goal.invariant_of-result
invariant_of-result c = record {
  laid_out = c.requires.0;
  inside = c.requires.1;
  of_kind =
      c.kind.ensures ∙ sym (kind_at (nodes c.args.s.now) c.from.result) ∙ ap (λ p. (label_at (nodes c.args.s.now) p).kind) c.from.ensures;
}
