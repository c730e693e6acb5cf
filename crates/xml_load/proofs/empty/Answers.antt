use native.Mathlib.Omega.{arith}
use Rattle.form.specs.Laws.Holds.{form_layout}
use Rattle.xml_load.specs.Laws.Empty.{emptied}
use Rattle.xml_load.proofs.empty.Goals as goal

pub cut-requires : goal.cut-requires
cut-requires c = let h = form_layout c.requires in (h, omega arith, omega (arith, h.some, h.many))

pub set_content-requires : goal.set_content-requires
set_content-requires c =
    let h = c.clear_writer.ensures.layout in (h, omega (arith, h.some, h.many), omega arith)

pub set_count-requires : goal.set_count-requires
set_count-requires c = let h = c.set_content.ensures.layout in (h, omega (arith, h.some, h.many))

pub unlock-requires : goal.unlock-requires
unlock-requires c = let h = c.set_count.ensures.layout in (h, omega (arith, h.some, h.many))

pub set_commits-requires : goal.set_commits-requires
set_commits-requires c = c.unlock.ensures.layout

pub shape_of-s : goal.shape_of-s
shape_of-s c =
    (emptied c.requires c.cut.ensures c.clear_writer.ensures c.set_content.ensures c.set_count.ensures c.unlock.ensures
    c.set_commits.ensures).long

pub returns : goal.returns
returns c =
    emptied c.requires c.cut.ensures c.clear_writer.ensures c.set_content.ensures c.set_count.ensures c.unlock.ensures
    c.set_commits.ensures
