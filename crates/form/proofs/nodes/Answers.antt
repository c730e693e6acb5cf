use mathlib.Core.Path.{sym, ◌∙◌}
use native.Mathlib.Omega.{arith}
use borrow.Author.Rules.{rules}
use Rattle.table.specs.Layout.{slot, depth}
use Rattle.form.specs.Laws.Check.{first_bad, first_good, rows_low, rows_high, rows_bad, rows_next, rows_end}
use Rattle.form.proofs.nodes.Goals as goal
use Rattle.form.proofs.nodes.Goals.{then-d-lt1-via-then-d-lt1, then-d-lt1-via-else-d-lt1+then-before-d, then-d-lt1-via-else-d-lt1+else-before-d+then-not-cell}

pub returns-then-not-document : goal.returns-then-not-document
returns-then-not-document c = first_bad _ c.requires.0.some (sym c.document.ensures ∙ c.if-not-document.true)

pub loop-i-init : goal.loop-i-init
loop-i-init c = (search rules, first_good _ c.requires.0.some (sym c.document.ensures ∙ c.if-not-document.false))

pub returns-then-d-lt1 : goal.returns-then-d-lt1
unfolding slot depth
returns-then-d-lt1 c =
    let so_far = c.loop-i.invariant.1 in
    let d = c.from-d.ensures ∙ c.at-row.ensures.1 in
    elim c.then-d-lt1.branch [
      | then-d-lt1-via-then-d-lt1 w ↦ rows_low _ _ _ _ so_far (search rules) d w.if-d-lt1.true
      | then-d-lt1-via-else-d-lt1+then-before-d w ↦
          rows_high _ _ _ _ so_far (search rules) d w.if-d-lt1.false w.if-before-d.true
      | then-d-lt1-via-else-d-lt1+else-before-d+then-not-cell w ↦
          rows_bad _ _ _ _ so_far (search rules) d _ (w.from.ensures ∙ c.at-row.ensures.0) w.if-d-lt1.false w.if-before-d.false
          (sym w.cell.ensures ∙ w.if-not-cell.true)
    ]

pub loop-i-preserved : goal.loop-i-preserved
unfolding slot depth
loop-i-preserved c = (
  omega (arith, c.from-d.ensures),
  rows_next _ _ _ _ c.loop-i.invariant.1 (search rules) (c.from-d.ensures ∙ c.at-row.ensures.1) _ (c.from.ensures ∙ c.at-row.ensures.0)
      c.if-d-lt1.false c.if-before-d.false (sym c.cell.ensures ∙ c.if-not-cell.false),
)

pub returns : goal.returns
returns c = rows_end _ c.loop-i.before c.loop-i.i c.loop-i.invariant.1 (search rules)
