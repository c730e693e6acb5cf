use borrow.Author.Rules.{rules}
use Rattle.table.specs.Layout.{slot}
use Rattle.form.specs.Laws.Slots.{marked_next, marked_end, low_next, low_end}
use Rattle.form.proofs.mark_slots.Goals as goal

pub loop-i-preserved : goal.loop-i-preserved
unfolding slot
loop-i-preserved c =
    let l = c.loop-i in (
      rw c.from.ensures (marked_next _ l.i _ _ l.invariant.0 _ (search rules) c.at-k.ensures.0),
      low_next _ l.i l.bits l.invariant.1 _ (search rules) c.at-k.ensures.0,
    )

pub returns : goal.returns
returns c =
    let l = c.loop-i in
    (low_end _ l.i l.bits l.invariant.1 (search rules), marked_end _ l.i _ _ l.invariant.0 (search rules))
