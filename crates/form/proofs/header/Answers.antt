use Rattle.std.proofs.Common.{sym, ◌∙◌}
use Rattle.table.specs.Layout.{count, format_mark}
use Rattle.form.specs.Laws.Begins.{starts_same}
use Rattle.form.specs.Laws.Check.{header_short, header_mark, header_none, header_many}
use borrow.Author.Tests.{lt-leb}
use Rattle.form.proofs.header.Goals as goal
use Rattle.form.proofs.header.Goals.{then-s-lt-SIZE-via-then-s-lt-SIZE, then-s-lt-SIZE-via-else-s-lt-SIZE+then-not-starts_with}

pub returns-then-s-lt-SIZE : goal.returns-then-s-lt-SIZE
returns-then-s-lt-SIZE c = elim c.then-s-lt-SIZE.branch [
  | then-s-lt-SIZE-via-then-s-lt-SIZE w ↦ header_short _ w.if-s-lt-SIZE.true
  | then-s-lt-SIZE-via-else-s-lt-SIZE+then-not-starts_with w ↦
      header_mark _ w.if-s-lt-SIZE.false (starts_same c.args.s.now format_mark ∙ sym w.if-not-starts_with.ensures.value)
]

pub returns-then-n-ge1 : goal.returns-then-n-ge1
unfolding count
returns-then-n-ge1 c =
    header_many _ c.if-s-lt-SIZE.false (starts_same c.args.s.now format_mark ∙ sym c.if-not-starts_with.ensures.value) _ (c.from-n.ensures ∙ c.word.ensures)
    c.if-n-ge1.true

pub returns-else-n-ge1 : goal.returns-else-n-ge1
unfolding count
returns-else-n-ge1 c = lt-leb 1 _ c.if-n-ge1.false ∙
    header_none _ c.if-s-lt-SIZE.false (starts_same c.args.s.now format_mark ∙ sym c.if-not-starts_with.ensures.value) _ (c.from-n.ensures ∙ c.word.ensures)
    c.if-n-ge1.false
