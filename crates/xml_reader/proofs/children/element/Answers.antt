use Rattle.std.proofs.lemmas.Result.{err_from_is_err_and}
use native.Mathlib.Omega.{arith}
use mathlib.Core.Path.{sym, ◌∙◌}
use mathlib.Core.Bool.{false}
use Rattle.xml_tokens.specs.Laws.Spelling.{begins_none, begins_some}
use Rattle.xml_reader.specs.Laws.Children.{start_wrong, start_many, start_opened, start_emptied, start_broken}
use Rattle.xml_reader.proofs.children.element.Goals as goal

pub returns-then-not-begins : goal.returns-then-not-begins
returns-then-not-begins c =
    let a = c.args in
    let p = c.requires in
    rw c.new.ensures (start_wrong a.s.now a.names.now a.from.depth a.from.spare a.from.cursor.at p.3 p.1 p.2
    (begins_none false _ (sym c.begins.ensures ∙ c.if-not-begins.true)))

pub returns-then-from-eq0 : goal.returns-then-from-eq0
returns-then-from-eq0 c =
    let a = c.args in
    let p = c.requires in
    let first = begins_some false _ (sym c.begins.ensures ∙ c.if-not-begins.false) in
    rw c.new-then-from-eq0.ensures
    (start_many a.s.now a.names.now a.from.depth a.from.spare a.from.cursor.at p.3 p.1 p.2 first.1 p.0 c.if-from-eq0.true)

pub start_tag-requires : goal.start_tag-requires
start_tag-requires c =
    let p = c.requires in
    let d = p.3 in (
      record { not_first = p.0.not_first; inside = p.1; starts = p.2 },
      omega (arith, d.room, c.if-from-eq0.false),
      d.names,
      d.long,
    )

pub returns-in_err-behind : goal.returns-in_err-behind
returns-in_err-behind c =
    let a = c.args in
    let p = c.requires in
    let e = c.in_err-behind.ensures in
    let first = begins_some false _ (sym c.begins.ensures ∙ c.if-not-begins.false) in
    let r = err_from_is_err_and c.from_residual.result c.from_residual.ensures.1 in
    rw (r.1, r.2)
    (start_broken a.s.now a.names.now a.from.depth a.from.spare a.from.cursor.at p.3 p.1 p.2 first.1 (omega (arith, c.if-from-eq0.false)) _ e.1 e.0)

pub returns-in-Opened : goal.returns-in-Opened
returns-in-Opened c =
    let a = c.args in
    let p = c.requires in
    let e = c.in_ok-behind.ensures in
    let first = begins_some false _ (sym c.begins.ensures ∙ c.if-not-begins.false) in
    start_opened a.s.now a.names.now a.from.depth a.from.spare a.from.cursor.at p.3 p.1 p.2 first.1 (omega (arith, c.if-from-eq0.false)) _ e.1 e.2
    (rw c.in-Opened.is at e.0)

pub returns-in-Emptied : goal.returns-in-Emptied
returns-in-Emptied c =
    let a = c.args in
    let p = c.requires in
    let e = c.in_ok-behind.ensures in
    let first = begins_some false _ (sym c.begins.ensures ∙ c.if-not-begins.false) in
    start_emptied a.s.now a.names.now a.from.depth a.from.spare a.from.cursor.at p.3 p.1 p.2 first.1 (omega (arith, c.if-from-eq0.false)) _ e.1
    (rw c.in-Emptied.is at e.0)
