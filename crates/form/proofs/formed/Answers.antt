use native.Mathlib.Omega.{arith}
use mathlib.Core.Path.{sym, ◌∙◌}
use Rattle.table.specs.Layout.{count}
use Rattle.form.specs.Laws.Check.{header_size, header_room, outlined, formed_header, formed_slots, formed_nodes, formed_numbers}
use Rattle.form.specs.Laws.Check.{formed_sets}
use Rattle.form.proofs.formed.Goals as goal
use Rattle.form.proofs.formed.Goals.{then-not-header-via-then-not-header, then-not-header-via-else-not-header+then-not-distinct_slots}
use Rattle.form.proofs.formed.Goals.{then-nodes, else-nodes}

pub distinct_slots-requires : goal.distinct_slots-requires
distinct_slots-requires c = header_size _ (sym c.header.ensures ∙ c.if-not-header.false)

pub returns-then-not-header : goal.returns-then-not-header
returns-then-not-header c = elim c.then-not-header.branch [
  | then-not-header-via-then-not-header w ↦ formed_header _ (sym c.header.ensures ∙ w.if-not-header.true)
  | then-not-header-via-else-not-header+then-not-distinct_slots w ↦
      formed_slots _ (sym c.header.ensures ∙ w.if-not-header.false) (sym w.distinct_slots.ensures ∙ w.if-not-distinct_slots.true)
]

pub word-requires : goal.word-requires
word-requires c = omega (arith, header_size _ (sym c.header.ensures ∙ c.if-not-header.false))

pub nodes-requires : goal.nodes-requires
unfolding count
nodes-requires c = (
  outlined _ (sym c.header.ensures ∙ c.if-not-header.false) (sym c.distinct_slots.ensures ∙ c.if-not-distinct_slots.false),
  c.from-n.ensures ∙ c.word.ensures,
)

pub distinct-requires : goal.distinct-requires
unfolding count
distinct-requires c =
    let h = sym c.header.ensures ∙ c.if-not-header.false in
    (header_size _ h, omega (arith, header_room _ h, c.from-n.ensures, c.word.ensures))

pub among_open-requires : goal.among_open-requires
among_open-requires c = header_size _ (sym c.header.ensures ∙ c.if-not-header.false)

pub returns-then-distinct : goal.returns-then-distinct
unfolding count
returns-then-distinct c =
    let headed = sym c.header.ensures ∙ c.if-not-header.false in
    let apart = sym c.distinct_slots.ensures ∙ c.if-not-distinct_slots.false in
    elim c.if-nodes.branch [
      | then-nodes w ↦ c.among_open.ensures
          ∙ formed_sets _ headed apart (sym c.nodes.ensures ∙ w.if-nodes.true) _ (c.from-n.ensures ∙ c.word.ensures)
          (sym w.distinct.ensures ∙ sym w.value-is ∙ c.if-distinct.true)
      | else-nodes w ↦ cc
    ]

pub returns-else-distinct : goal.returns-else-distinct
unfolding count
returns-else-distinct c =
    let headed = sym c.header.ensures ∙ c.if-not-header.false in
    let apart = sym c.distinct_slots.ensures ∙ c.if-not-distinct_slots.false in
    c.if-distinct.false
    ∙ elim c.if-nodes.branch [
      | then-nodes w ↦ formed_numbers _ headed apart (sym c.nodes.ensures ∙ w.if-nodes.true) _ (c.from-n.ensures ∙ c.word.ensures)
          (sym w.distinct.ensures ∙ sym w.value-is ∙ c.if-distinct.false)
      | else-nodes w ↦ formed_nodes _ headed apart (sym c.nodes.ensures ∙ w.if-nodes.false)
    ]
