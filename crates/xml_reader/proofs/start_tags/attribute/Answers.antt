use Rattle.std.proofs.lemmas.Result.{err_from_is_err_and}
use Rattle.xml_tokens.specs.Laws.Letters.{name_run}
use Rattle.xml_tokens.specs.Laws.Spelling.{begins_none, begins_some}
use Rattle.xml_reader.specs.Laws.Attributes.{enters_broken, enters_many, enters_unfit, enters_repeated, enters_unquoted}
use Rattle.xml_reader.specs.Laws.Attributes.{enters_valued, quoted_inside}
use native.Mathlib.Omega.{arith}
use mathlib.Core.Path.{sym, ◌∙◌}
use mathlib.Core.Bool.{false}
use Rattle.xml_reader.proofs.start_tags.attribute.Goals as goal

pub returns-then-not-begins : goal.returns-then-not-begins
returns-then-not-begins c =
    rw c.new.ensures (enters_broken c.requires.0
    (begins_none false _ (sym c.begins.ensures ∙ c.if-not-begins.true)))

pub returns-then-from-eq0 : goal.returns-then-from-eq0
returns-then-from-eq0 c =
    let first = begins_some false _ (sym c.begins.ensures ∙ c.if-not-begins.false) in
    rw c.new-then-from-eq0.ensures (enters_many c.requires.0 first.1 c.if-from-eq0.true)

pub enter-requires : goal.enter-requires
enter-requires c =
    let p = c.requires in
    (p.0, (name_run c.in_ok-name.ensures).0, omega (arith, p.1), p.2, p.3, p.4)

pub returns-then-not-enter : goal.returns-then-not-enter
returns-then-not-enter c =
    let first = begins_some false _ (sym c.begins.ensures ∙ c.if-not-begins.false) in
    let enter = c.enter in
    rw c.new-then-not-enter.ensures (enters_repeated c.requires.0 first.1 (omega (arith, c.if-from-eq0.false))
    c.in_ok-name.ensures enter.ensures.0 enter.ensures.1 c.if-not-enter.true)

pub equals-requires : goal.equals-requires
equals-requires c =
    (name_run c.in_ok-name.ensures).0.inside

pub overflow_sub-begin : goal.overflow_sub-begin
overflow_sub-begin c =
    (quoted_inside c.in_ok-opening.ensures).0

pub text-requires : goal.text-requires
text-requires c =
    let x = quoted_inside c.in_ok-opening.ensures in
    (x.1, x.2)

pub returns-in_err-name : goal.returns-in_err-name
returns-in_err-name c =
    let first = begins_some false _ (sym c.begins.ensures ∙ c.if-not-begins.false) in
    let p = err_from_is_err_and c.from_residual.result c.from_residual.ensures.1 in
    rw (p.1, p.2) (enters_unfit c.requires.0 first.1 (omega (arith, c.if-from-eq0.false))
    c.in_err-name.ensures)

pub returns-in_err-opening : goal.returns-in_err-opening
returns-in_err-opening c =
    let first = begins_some false _ (sym c.begins.ensures ∙ c.if-not-begins.false) in
    let p = err_from_is_err_and c.from_residual-in_err-opening.result c.from_residual-in_err-opening.ensures.1 in
    rw (p.1, p.2) (enters_unquoted c.requires.0 first.1 (omega (arith, c.if-from-eq0.false))
    c.in_ok-name.ensures c.enter.ensures.0 c.enter.ensures.1
    c.if-not-enter.false c.in_err-opening.ensures)

pub returns : goal.returns
returns c =
    let first = begins_some false _ (sym c.begins.ensures ∙ c.if-not-begins.false) in
    enters_valued c.requires.0 first.1 (omega (arith, c.if-from-eq0.false))
    c.in_ok-name.ensures c.enter.ensures.0 c.enter.ensures.1
    c.if-not-enter.false c.in_ok-opening.ensures c.text.ensures
