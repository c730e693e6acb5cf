use borrow.Author.Rules.{rules}
use mathlib.Core.Path.{refl, sym, ◌∙◌}
use lib.ListN.{replicate}
use Rattle.xml_measure.specs.Laws.Selection.{selecting_start, selecting_end, selecting_hidden, selecting_inserted}
use Rattle.xml_measure.specs.Laws.Selection.{selecting_found}
use Rattle.xml_measure.proofs.committed.select.Goals as goal

pub loop-i-init : goal.loop-i-init
loop-i-init c = selecting_start _ (replicate 1024 0) refl

pub loop-i-preserved-then-left_out : goal.loop-i-preserved-then-left_out
loop-i-preserved-then-left_out c =
    selecting_hidden c.loop-i.invariant (search rules) c.depth-d.ensures
    (sym c.left_out.ensures ∙ c.if-left_out.true)

pub loop-i-preserved-then-inserted : goal.loop-i-preserved-then-inserted
loop-i-preserved-then-inserted c =
    selecting_inserted c.loop-i.invariant (search rules) c.depth-d.ensures (sym c.left_out.ensures ∙ c.if-left_out.false)
    c.inserter-inserted.ensures c.if-inserted.true

pub loop-i-preserved : goal.loop-i-preserved
loop-i-preserved c =
    selecting_found c.loop-i.invariant (search rules) c.depth-d.ensures (sym c.left_out.ensures ∙ c.if-left_out.false)
    c.inserter-inserted.ensures (search rules) c.if-inserted.false

pub returns : goal.returns
returns c = selecting_end c.loop-i.invariant (search rules) (search rules)
