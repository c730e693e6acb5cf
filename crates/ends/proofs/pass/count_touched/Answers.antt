use mathlib.Core.Path.{sym, ◌∙◌}
use Rattle.ends.specs.Laws.Marks.{counted_own, not_counted}
use Rattle.ends.proofs.pass.count_touched.Goals as goal

pub returns-then-touched : goal.returns-then-touched
returns-then-touched c = counted_own _ _ _ (sym c.touched.ensures ∙ c.if-touched.true) c.set_count.ensures

pub returns-else-touched : goal.returns-else-touched
returns-else-touched c = not_counted _ _ _ (sym c.touched.ensures ∙ c.if-touched.false) c.requires.0
