use Rattle.std.proofs.Common.{sym, ap, ◌∙◌, arith}
use Rattle.tree.specs.Content.{name_byte}
use Rattle.xml_reader.specs.Laws.Names.{name_longer, name_same, name_shorter, name_differs}
use Rattle.xml_reader.proofs.names.order.Goals as goal

pub returns-in-true-true : goal.returns-in-true-true
returns-in-true-true c =
    rw (c.cmp.ensures, c.peek-next.ensures)
    (name_differs c.args.s.now _ _ _ _ c.requires.2 c.agreement-n.ensures (omega arith)
    (ap name_byte (sym c.peek-next.ensures) ∙ sym c.in-true-true.ensures))

pub returns-in-true-false : goal.returns-in-true-false
returns-in-true-false c =
    name_longer c.args.s.now _ _ _ _ c.requires.2 c.agreement-n.ensures (omega arith)
    (ap name_byte (sym c.peek-next.ensures) ∙ sym c.in-true-false.ensures)

pub returns-in-false-true : goal.returns-in-false-true
returns-in-false-true c =
    name_shorter c.args.s.now _ _ _ _ c.requires.2 c.agreement-n.ensures (omega arith)
    (ap name_byte (sym c.peek-next.ensures) ∙ sym c.in-false-true.ensures)

pub returns-in-false-false : goal.returns-in-false-false
returns-in-false-false c =
    name_same c.args.s.now _ _ _ _ c.requires.2 c.agreement-n.ensures (omega arith)
    (ap name_byte (sym c.peek-next.ensures) ∙ sym c.in-false-false.ensures)
