use Rattle.std.proofs.Common.{refl, sym, ◌∙◌}
use Rattle.form.specs.Laws.Slots.{slots_high, slots_marked, slots_counted}
use Rattle.form.proofs.distinct_slots.Goals as goal

pub count_met-requires : goal.count_met-requires
count_met-requires c = rw c.mark_slots.ensures.1 (slots_marked _ _ refl refl)

pub returns-then-mark_slots : goal.returns-then-mark_slots
returns-then-mark_slots c =
    rw (c.count_met.ensures, c.mark_slots.ensures.1) (slots_counted _ _ refl refl (sym c.mark_slots.ensures.0 ∙ c.if-mark_slots.true))

pub returns-else-mark_slots : goal.returns-else-mark_slots
returns-else-mark_slots c =
    c.if-mark_slots.false ∙ slots_high _ (sym c.mark_slots.ensures.0 ∙ c.if-mark_slots.false)
