use borrow.Author.Rules.{rules}
use mathlib.Core.Path.{sym, ◌∙◌}
use borrow.Author.Tests.{ltb-false}
use Rattle.xml_tokens.specs.Laws.Tags.{found, byte_found}
use Rattle.xml_reader.specs.Laws.Root.{root_lost, name_over, name_wrong, name_right}
use Rattle.xml_reader.proofs.start.root.Goals as goal

pub returns-in_err-name : goal.returns-in_err-name
returns-in_err-name c = search (rules, root_lost)

pub returns-in-Some : goal.returns-in-Some
returns-in-Some c =
    let y = byte_found c.in_ok-name.ensures in
    let e = found _ _ _ c.in-Some.ensures.lookup.0 c.in-Some.ensures.lookup.1 in
    name_right _ _ _ c.blanks-behind.ensures y.1 y.2 (rw y.0 at e.0) _
    (rw (← y.0, e.1) (sym c.name_start.ensures ∙ c.if-name_start.true)) y.0

pub returns-in_default : goal.returns-in_default
returns-in_default c =
    let y = byte_found c.in_ok-name.ensures in
    let e = found _ _ _ c.in-Some.ensures.lookup.0 c.in-Some.ensures.lookup.1 in
    rw y.0
    (name_wrong _ _ _ c.blanks-behind.ensures y.1 y.2 (rw y.0 at e.0)
    (rw (← y.0, e.1) (sym c.name_start.ensures ∙ c.if-name_start.false)))

pub returns-in_default-2 : goal.returns-in_default-2
returns-in_default-2 c =
    let y = byte_found c.in_ok-name.ensures in
    let h = ltb-false _ _ (sym (rw c.in_default.is at c.get.ensures.lookup.0)) in
    rw y.0 (name_over _ _ _ c.blanks-behind.ensures y.1 y.2 (rw y.0 at h))
