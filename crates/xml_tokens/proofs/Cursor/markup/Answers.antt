use mathlib.Core.Path.{refl, sym, ◌∙◌}
use borrow.Author.Tests.{ltb-false}
use Rattle.xml_tokens.specs.Steps.{markup_start}
use Rattle.xml_tokens.specs.Laws.Tags.{found, markup_over, markup_slash, markup_other}
use Rattle.xml_tokens.proofs.Cursor.markup.Goals as goal

pub returns-in-Some-eq47 : goal.returns-in-Some-eq47
returns-in-Some-eq47 c =
    let e = found _ _ _ c.in-Some-eq47.ensures.lookup.0 c.in-Some-eq47.ensures.lookup.1 in
    markup_slash _ _ e.0 _ (e.1 ∙ c.in-Some-eq47.field-0-test) refl

pub returns-in-Some : goal.returns-in-Some
returns-in-Some c =
    let e = found _ _ _ c.in-Some.ensures.lookup.0 c.in-Some.ensures.lookup.1 in
    markup_start refl e.0 (rw e.1 (sym c.name_start.ensures ∙ c.if-name_start.true))

pub returns-in_default : goal.returns-in_default
returns-in_default c =
    let e = found _ _ _ c.in-Some.ensures.lookup.0 c.in-Some.ensures.lookup.1 in
    markup_other _ _ e.0 (λ z. c.in-Some.b-test.1 (sym e.1 ∙ z)) (rw e.1 (sym c.name_start.ensures ∙ c.if-name_start.false))

pub returns-in_default-2 : goal.returns-in_default-2
returns-in_default-2 c = markup_over _ _ (ltb-false _ _ (sym (rw c.in_default.is at c.get.ensures.lookup.0)))
