use Rattle.node_writing.specs.Laws.Renaming.{renamed_whole}
use Rattle.node_writing.proofs.rename_below.Goals as goal

pub returns : goal.returns
returns c = rw c.from-first.ensures (renamed_whole c.requires.1 c.rename.ensures c.rename_rest.ensures)
