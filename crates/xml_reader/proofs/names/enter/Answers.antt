use Rattle.std.proofs.Common.{rules, arith}
use Rattle.byte_strings.specs.Laws.Sorted.{taken_of, free_of}
use Rattle.xml_reader.specs.Elements.{is_repeated}
use Rattle.xml_reader.specs.Laws.Names.{enter_new, enter_kept}
use Rattle.xml_reader.specs.Laws.StartTags.{kept_same}
use Rattle.xml_reader.proofs.names.enter.Goals as goal

pub overflow_add-lo : goal.overflow_add-lo
overflow_add-lo c =
    omega (arith, (free_of c.place.ensures c.in-Err.is).0, c.requires.2)

pub overflow_cast-from : goal.overflow_cast-from
overflow_cast-from c =
    omega (arith, c.requires.0.inside, c.requires.3.short)

pub insert-requires : goal.insert-requires
insert-requires c = (omega (arith, (free_of c.place.ensures c.in-Err.is).0), search rules)

pub returns-in-Ok : goal.returns-in-Ok
returns-in-Ok c = (is_repeated (taken_of c.place.ensures c.in-Ok.is), kept_same _ _)

pub returns-in-Err : goal.returns-in-Err
returns-in-Err c =
    let f = free_of c.place.ensures c.in-Err.is in
    let x = c.insert.ensures in
    (enter_new x c.requires.4 f.1 c.requires.3 c.requires.0, enter_kept (omega arith) x)
