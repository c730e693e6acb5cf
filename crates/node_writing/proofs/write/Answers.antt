use Rattle.node_writing.specs.Laws.Written.{written}
use Rattle.node_writing.proofs.write.Goals as goal

pub returns : goal.returns
returns c =
    let mark_written = c.mark_written in
    let set_content = c.set_content in
    written _ _ _ mark_written.ensures set_content.ensures
