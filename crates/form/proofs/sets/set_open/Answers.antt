use Rattle.std.proofs.Common.{sym, ◌∙◌}
use borrow.Author.Rules.{rules}
use borrow.Author.Tests.{eq-eqb}
use Rattle.form.specs.Laws.Sets.{set_empty, set_refused, set_within}
use Rattle.form.proofs.sets.set_open.Goals as goal

pub returns-then-w-eq0 : goal.returns-then-w-eq0
returns-then-w-eq0 c = eq-eqb _ _ c.if-w-eq0.true ∙ set_empty _ _ _ c.if-w-eq0.true

pub returns-then-has : goal.returns-then-has
returns-then-has c = set_within _ _ _ (search rules) (search rules) (sym c.if-has.ensures)

pub returns-else-has : goal.returns-else-has
returns-else-has c = c.if-has.false ∙ set_refused _ _ _ (search rules) c.if-w-eq0.false (sym c.if-has.ensures)
