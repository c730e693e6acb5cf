use Rattle.xml_load.specs.Laws.Load.{begun, replaced}
use Rattle.xml_load.proofs.replace.Goals as goal

pub fill-requires : goal.fill-requires
fill-requires c = begun c.requires.1.1 c.empty.ensures

pub returns : goal.returns
returns c =
    let fill = c.fill in
    replaced c.empty.ensures fill.ensures
