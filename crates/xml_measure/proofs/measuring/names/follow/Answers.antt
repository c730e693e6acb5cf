use Rattle.std.proofs.Common.{sym, ◌∙◌, arith}
use Rattle.xml_measure.specs.Laws.Names.{follow_attribute, follow_text, follow_other}
use Rattle.xml_measure.proofs.measuring.names.follow.Goals as goal

pub returns-in-3 : goal.returns-in-3
returns-in-3 c = follow_attribute (sym c.requires.5 ∙ c.in-3.is) c.enter.ensures

pub returns-in-4 : goal.returns-in-4
returns-in-4 c = follow_text c.requires.3 c.requires.4 (sym c.requires.5 ∙ c.in-4.is)

pub returns-in_default : goal.returns-in_default
returns-in_default c =
    follow_other c.requires.3 c.requires.4 (λ e. omega (arith, c.requires.5)) (λ e. omega (arith, c.requires.5))
