use mathlib.Core.Path.{◌∙◌}
use Rattle.tree.proofs.Reading.{is_ok_bytes}
use Rattle.tree.proofs.characters.whole.Goals as goal

pub returns : goal.returns
returns c = c.is_ok.ensures.value ∙ is_ok_bytes _ _ _ c.misspelled.ensures
