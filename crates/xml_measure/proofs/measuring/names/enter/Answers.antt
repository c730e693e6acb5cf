use Rattle.byte_strings.specs.Laws.Sorted.{taken_of, free_of}
use Rattle.xml_measure.specs.Names.{is_repeated}
use Rattle.xml_measure.specs.Laws.Names.{entered}
use Rattle.xml_measure.proofs.measuring.names.enter.Goals as goal

pub returns-in-Ok : goal.returns-in-Ok
returns-in-Ok c = is_repeated (taken_of c.place.ensures c.in-Ok.is)

pub returns-in-Err : goal.returns-in-Err
returns-in-Err c =
    let f = free_of c.place.ensures c.in-Err.is in
    entered c.insert.ensures c.requires.2 c.requires.3 c.requires.4 f.1 c.requires.1
