use Rattle.xml_reader.specs.Laws.Children.{end_wrong, end_right}
use Rattle.xml_reader.specs.Laws.StartTags.{placed_short}
use native.Mathlib.Omega.{arith}
use Prim.Native.Nat.{◌-◌}
use borrow.Author.Rules.{rules}
use Rattle.xml_reader.proofs.children.end.Goals as goal

pub overflow_cast-name : goal.overflow_cast-name
overflow_cast-name c =
    omega (arith, placed_short c.requires.1.names (c.args.from.depth - 1) (omega (arith, c.requires.1.some)))

pub overflow_add-name : goal.overflow_add-name
overflow_add-name c =
    omega (arith, placed_short c.requires.1.names (c.args.from.depth - 1) (omega (arith, c.requires.1.some)))

pub end_tag-requires : goal.end_tag-requires
end_tag-requires c =
    let pre = c.requires in
    let args = c.args in
    (search rules, pre.1.names.placed (args.from.depth - 1) (omega (arith, pre.1.some)))

pub returns-in_err-cursor : goal.returns-in_err-cursor
returns-in_err-cursor c = search (rules, end_wrong)

pub returns : goal.returns
returns c =
    let a = c.args in
    end_right a.s.now a.names.now a.from.depth a.from.spare a.from.cursor.at c.requires.1 c.in_ok-cursor.ensures
