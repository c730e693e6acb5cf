use mathlib.Core.Path.{refl, sym, ◌∙◌}
use native.Mathlib.Omega.{arith}
use borrow.Author.Tests.{ltb-false}
use Rattle.xml_tokens.specs.Steps.{byte_there, byte_missing}
use Rattle.xml_tokens.specs.Laws.Tags.{found}
use Rattle.xml_tokens.proofs.Cursor.over.Goals as goal

pub returns-in-Some : goal.returns-in-Some
returns-in-Some c =
    let e = found _ _ _ c.in-Some.ensures.lookup.0 c.in-Some.ensures.lookup.1 in
    byte_there refl e.0 (e.1 ∙ c.if-b-byte.true)

pub returns-in_default : goal.returns-in_default
returns-in_default c =
    let e = found _ _ _ c.in-Some.ensures.lookup.0 c.in-Some.ensures.lookup.1 in
    byte_missing refl (λ h z. c.if-b-byte.false (sym e.1 ∙ z))

pub returns-in_default-2 : goal.returns-in_default-2
returns-in_default-2 c =
    let e = ltb-false _ _ (sym (rw c.in_default.is at c.get.ensures.lookup.0)) in
    byte_missing refl (λ h z. absurd (omega arith))
