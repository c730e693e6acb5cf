use mathlib.Core.Path.{sym, ◌∙◌}
use Rattle.table.specs.Layout.{nodes}
use Rattle.rows.specs.Places.{item}
use Rattle.node_writing.specs.Laws.Names.{named_element}
use Rattle.node_writing.proofs.is_named.Goals as goal

pub returns-then-from-eq-ELEMENT : goal.returns-then-from-eq-ELEMENT
returns-then-from-eq-ELEMENT c =
    let x = item (nodes c.args.s.now) c.args.p in
    c.eq.ensures ∙ rw c.content_bytes.ensures (sym (named_element c.args.a.now x (sym (c.from.ensures ∙ c.kind.ensures) ∙ c.if-from-eq-ELEMENT.true)))
