use mathlib.Core.Path.{refl, sym, ◌∙◌}
use borrow.Author.Tests.{ltb-false}
use Rattle.xml_tokens.specs.Laws.Tags.{found, part_any, place_end, place_close, part_joined, part_attribute, part_wrong}
use Rattle.xml_tokens.proofs.Cursor.item.Goals as goal

pub returns-in-Some-eq62 : goal.returns-in-Some-eq62
returns-in-Some-eq62 c =
    let e = found _ _ _ c.in-Some-eq62.ensures.lookup.0 c.in-Some-eq62.ensures.lookup.1 in
    part_any _ _ _ c.blanks-behind.ensures
    (record { reads = λ F p. place_close _ _ F p e.0 _ (e.1 ∙ c.in-Some-eq62.field-0-test) refl })

pub returns-in-Some-eq47 : goal.returns-in-Some-eq47
returns-in-Some-eq47 c = part_any _ _ _ c.blanks-behind.ensures c.slash.ensures

pub returns-in-Some : goal.returns-in-Some
returns-in-Some c =
    let e = found _ _ _ c.in-Some.ensures.lookup.0 c.in-Some.ensures.lookup.1 in
    part_attribute _ _ _ c.blanks-behind.ensures e.0 c.if-at-from.true (rw e.1 (sym c.name_start.ensures ∙ c.if-name_start.true)) _ refl

pub returns-in_default : goal.returns-in_default
returns-in_default c =
    let e = found _ _ _ c.in-Some.ensures.lookup.0 c.in-Some.ensures.lookup.1 in
    let n = c.in-Some.b-test in
    part_wrong _ _ _ c.blanks-behind.ensures e.0 c.if-at-from.true (λ z. n.1 (sym e.1 ∙ z)) (λ z. n.0.1 (sym e.1 ∙ z))
    (rw e.1 (sym c.name_start.ensures ∙ c.if-name_start.false))

pub returns-in_default-2 : goal.returns-in_default-2
returns-in_default-2 c =
    let e = found _ _ _ c.in-Some.ensures.lookup.0 c.in-Some.ensures.lookup.1 in
    let n = c.in-Some.b-test in
    part_joined _ _ _ c.blanks-behind.ensures e.0 c.if-at-from.false (λ z. n.1 (sym e.1 ∙ z)) (λ z. n.0.1 (sym e.1 ∙ z))

pub returns-in_default-3 : goal.returns-in_default-3
returns-in_default-3 c =
    let h = ltb-false _ _ (sym (rw c.in_default.is at c.get.ensures.lookup.0)) in
    part_any _ _ _ c.blanks-behind.ensures (record { reads = λ F p. place_end _ _ F p h })
