use Rattle.std.proofs.Common.{◌∙◌, inl, inr}
use borrow.Author.Tests.{ne_eqb}
use Rattle.table.specs.Layout.{slot, depth}
use Rattle.form.specs.Laws.Check.{first_deep, first_numbered, first_cell}
use Rattle.form.proofs.document.Goals as goal
use Rattle.form.proofs.document.Goals.{then-first-eq0, else-first-eq0}

pub returns-then-first-eq0-2 : goal.returns-then-first-eq0-2
unfolding slot depth
returns-then-first-eq0-2 c =
    let first = c.at-first.ensures in
    let zero = c.if-first-eq0-2.true in
    first_cell _ _ first.1 zero.0 _ first.2 zero.1 _ (c.from.ensures ∙ first.0) _ c.cell.ensures

pub returns-else-first-eq0-2 : goal.returns-else-first-eq0-2
unfolding depth
returns-else-first-eq0-2 c =
    let first = c.at-first.ensures in
    elim c.if-first-eq0.branch [
      | then-first-eq0 w ↦ elim c.if-first-eq0-2.either [
        | inr h ↦ absurd (h w.if-first-eq0.true)
        | inl h ↦ w.t-4-is ∙ ne_eqb _ 0 h.1 ∙ first_numbered _ _ first.1 h.0 _ first.2 h.1
      ]
      | else-first-eq0 w ↦ w.t-4-is ∙ ne_eqb _ 0 w.if-first-eq0.false ∙ first_deep _ _ first.1 w.if-first-eq0.false
    ]
