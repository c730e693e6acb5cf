use Rattle.std.proofs.Common.{rules, arith, sym, ◌∙◌, eqb-true}
use Rattle.std.proofs.lemmas.Bool.{eqb-false}
use Rattle.tree.proofs.Contents.{content_empty, content_long, content_is, content_plain, name_other}
use Rattle.tree.proofs.is_content.Goals as goal
use Rattle.tree.proofs.is_content.Goals.{then-is_empty-via-then-is_empty, then-is_empty-via-else-is_empty+then-b-gt32}
use Rattle.tree.proofs.is_content.Goals.{else-not-text-via-then-not-text+else-not-name_start, else-not-text-via-else-not-text}

pub returns-then-is_empty : goal.returns-then-is_empty
returns-then-is_empty c = elim c.then-is_empty.branch [
  | then-is_empty-via-then-is_empty w ↦ content_empty _ _ (eqb-true _ _ (sym c.is_empty.ensures ∙ w.if-is_empty.true))
  | then-is_empty-via-else-is_empty+then-b-gt32 w ↦ content_long _ _ (omega arith)
]

pub returns-then-not-name_start : goal.returns-then-not-name_start
returns-then-not-name_start c =
    name_other _ _ c.if-not-text.true (eqb-false _ _ (sym c.if-is_empty.ensures)) (sym c.if-not-name_start.ensures)

pub returns-then-all_plain : goal.returns-then-all_plain
returns-then-all_plain c =
    c.if-all_plain.true
    ∙ content_plain _ _ (eqb-false _ _ (sym c.if-is_empty.ensures)) c.if-b-gt32.false (sym c.if-all_plain.ensures)
    (λ e. elim c.else-not-text.branch [
      | else-not-text-via-then-not-text+else-not-name_start w ↦ search rules
      | else-not-text-via-else-not-text w ↦ search rules
    ])

pub returns-else-all_plain : goal.returns-else-all_plain
returns-else-all_plain c =
    c.whole.ensures ∙ content_is _ _ (eqb-false _ _ (sym c.if-is_empty.ensures)) c.if-b-gt32.false
