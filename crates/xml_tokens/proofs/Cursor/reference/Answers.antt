use mathlib.Core.Path.{sym, ◌∙◌}
use Rattle.xml_tokens.specs.Laws.Runs.{is_amp, is_apos, is_gt, is_lt, is_line_feed, is_tab, is_quot}
use Rattle.xml_tokens.proofs.Cursor.reference.Goals as goal

pub returns-in-97-eq109 : goal.returns-in-97-eq109
returns-in-97-eq109 c =
    let i = c.in-97-eq109 in
    is_amp _ _ _ (sym c.peek-first.ensures ∙ i.is-0) (sym c.peek-second.ensures ∙ i.is-1) c.word.ensures

pub returns-in-97-default : goal.returns-in-97-default
returns-in-97-default c =
    let i = c.in-97-default in
    is_apos _ _ _ (sym c.peek-first.ensures ∙ i.is-0) (λ e. i.is-1.1 (c.peek-second.ensures ∙ e)) c.word-in-97-default.ensures

pub returns-in-103-default : goal.returns-in-103-default
returns-in-103-default c = is_gt _ _ _ (sym c.peek-first.ensures ∙ c.in-103-default.is-0) c.word-in-103-default.ensures

pub returns-in-108-default : goal.returns-in-108-default
returns-in-108-default c = is_lt _ _ _ (sym c.peek-first.ensures ∙ c.in-108-default.is-0) c.word-in-108-default.ensures

pub returns-in-35-eq49 : goal.returns-in-35-eq49
returns-in-35-eq49 c =
    let i = c.in-35-eq49 in
    is_line_feed _ _ _ (sym c.peek-first.ensures ∙ i.is-0) (sym c.peek-second.ensures ∙ i.is-1) c.word-in-35-eq49.ensures

pub returns-in-35-default : goal.returns-in-35-default
returns-in-35-default c =
    let i = c.in-35-default in
    is_tab _ _ _ (sym c.peek-first.ensures ∙ i.is-0) (λ e. i.is-1.1 (c.peek-second.ensures ∙ e)) c.word-in-35-default.ensures

pub returns-in_default : goal.returns-in_default
returns-in_default c =
    let i = c.in_default.is-0 in
    let p = c.peek-first.ensures in
    is_quot _ _ _ (λ e. i.0.0.0.1 (p ∙ e)) (λ e. i.0.0.1 (p ∙ e)) (λ e. i.0.1 (p ∙ e)) (λ e. i.1 (p ∙ e)) c.word-in_default.ensures
