use Rattle.std.proofs.Common.{refl, replicate}
use Rattle.xml_write.specs.Laws.Rows.{path_start, kinds_start}
use Rattle.xml_write.proofs.open.Open.new.Goals as goal

pub invariant_of-result : goal.invariant_of-result
invariant_of-result c =
    let n = c.args.node.now in
    record {
      laid_out = n.laid_out;
      on_path = path_start (replicate 1024 0) (replicate 1024 0) n.place n.kind refl refl n.inside;
      of_kinds = kinds_start (replicate 1024 0) (replicate 1024 0) n.place n.kind refl refl n.of_kind;
    }
