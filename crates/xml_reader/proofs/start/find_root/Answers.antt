use mathlib.Core.Path.{sym, ◌∙◌}
use Rattle.xml_reader.specs.Laws.Declaration.{two_there, two_missing, start_plain, start_short, start_long}
use Rattle.xml_reader.proofs.start.find_root.Goals as goal

pub returns-then-not-starts_with : goal.returns-then-not-starts_with
returns-then-not-starts_with c =
    start_plain _ (two_missing c.args.s.now (sym c.starts_with.ensures.value ∙ c.if-not-starts_with.true)) c.root.ensures

pub returns-then-peek-eq63 : goal.returns-then-peek-eq63
returns-then-peek-eq63 c =
    let t = two_there c.args.s.now (sym c.starts_with.ensures.value ∙ c.if-not-starts_with.false) in
    start_short _ t.0 t.1 (sym c.peek.ensures ∙ c.if-peek-eq63.true) c.declared.ensures

pub returns : goal.returns
returns c =
    let t = two_there c.args.s.now (sym c.starts_with.ensures.value ∙ c.if-not-starts_with.false) in
    start_long _ t.0 t.1 (λ e. c.if-peek-eq63.false (c.peek.ensures ∙ e)) c.declared-2.ensures
