use mathlib.Core.Path.{sym, ap, ◌∙◌}
use Rattle.locks.specs.Words.{mask_of}
use Rattle.engine.proofs.locking.parent_mask.Goals as goal

pub returns-then-w : goal.returns-then-w
returns-then-w c = c.requires ∙ ap mask_of (sym c.if-w.true)
