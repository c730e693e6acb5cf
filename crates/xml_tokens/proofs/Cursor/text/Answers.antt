use Rattle.xml_tokens.specs.Laws.Contents.{text_end, text_empty, text_wrong, text_broken, text_many, text_rest}
use Rattle.xml_tokens.specs.Laws.Spelling.{begins_none, begins_some}
use mathlib.Core.Path.{refl, sym, ◌∙◌}
use mathlib.Core.Bool.{true}
use borrow.Author.Rules.{rules}
use Rattle.xml_tokens.proofs.Cursor.text.Goals.{then-not-may_stand-via-then-not-may_stand, then-not-may_stand-via-else-not-may_stand+then-not-begins}
use Rattle.xml_tokens.proofs.Cursor.text.Goals as goal

pub returns-then-at-s : goal.returns-then-at-s
returns-then-at-s c = rw c.new.ensures (text_end _ _ _ _ (search rules))

pub returns-then-b-stop : goal.returns-then-b-stop
returns-then-b-stop c = text_empty _ _ _ _ (search rules) _ c.if-b-stop.true refl

pub returns-then-not-may_stand : goal.returns-then-not-may_stand
returns-then-not-may_stand c = rw c.new-then-not-may_stand.ensures
    (elim c.then-not-may_stand.branch [
      | then-not-may_stand-via-then-not-may_stand w ↦
          text_wrong _ _ _ _ (search rules) c.if-b-stop.false (sym c.may_stand.ensures ∙ w.if-not-may_stand.true)
      | then-not-may_stand-via-else-not-may_stand+then-not-begins w ↦
          text_broken _ _ _ _ (search rules) c.if-b-stop.false (sym c.may_stand.ensures ∙ w.if-not-may_stand.false)
          (begins_none true _ (sym w.begins.ensures ∙ w.if-not-begins.true))
    ])

pub returns-then-spare-eq0 : goal.returns-then-spare-eq0
returns-then-spare-eq0 c =
    let first = begins_some true _ (sym c.begins.ensures ∙ c.if-not-begins.false) in
    rw c.new-then-spare-eq0.ensures (text_many _ _ _ _ (search rules) c.if-b-stop.false (sym c.may_stand.ensures ∙ c.if-not-may_stand.false)
    first.1 c.if-spare-eq0.true _ (search rules))

pub returns : goal.returns
returns c =
    let first = begins_some true _ (sym c.begins.ensures ∙ c.if-not-begins.false) in
    text_rest _ _ _ _ (search rules) c.if-b-stop.false (sym c.may_stand.ensures ∙ c.if-not-may_stand.false)
    first.1 (search rules) c.characters.ensures
