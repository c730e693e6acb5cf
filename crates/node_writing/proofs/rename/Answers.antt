use mathlib.Core.Path.{sym, ◌∙◌}
use Rattle.node_writing.specs.Laws.Names.{renamed_none, renamed_one}
use Rattle.node_writing.proofs.rename.Goals as goal

pub returns-then-named : goal.returns-then-named
returns-then-named c =
    rw c.if-named.true (renamed_one _ _ _ _ (sym c.is_named-named.ensures ∙ c.if-named.true) c.write.ensures)

pub returns-else-named : goal.returns-else-named
returns-else-named c =
    rw c.if-named.false (renamed_none _ _ _ _ c.requires.0 (sym c.is_named-named.ensures ∙ c.if-named.false))
