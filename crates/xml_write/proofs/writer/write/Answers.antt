use Rattle.std.proofs.Common.{sym, refl, arith, rules}
use Rattle.form.specs.Laws.Holds.{form_layout, form_holds}
use Rattle.xml_write.specs.Laws.Calls.{none_measured, length_measured, write_unformed, write_14, write_13, write_granted, enough}
use Rattle.xml_write.specs.Laws.Documents.{listed}
use Rattle.xml_write.proofs.writer.write.Goals as goal

pub returns-then-not-formed : goal.returns-then-not-formed
returns-then-not-formed c = rw c.from.ensures (write_unformed _ _ (sym c.if-not-formed.ensures))

pub select-rows-requires : goal.select-rows-requires
select-rows-requires c = form_layout (sym c.if-not-formed.ensures)

pub measure-requires : goal.measure-requires
measure-requires c = (
  form_layout (sym c.if-not-formed.ensures),
  listed (form_holds _ (sym c.if-not-formed.ensures)).1 c.select-rows.ensures,
)

pub returns-in_default : goal.returns-in_default
returns-in_default c =
    rw c.from-in_default.ensures
    (write_14 {n = 0} (sym c.if-not-formed.ensures) c.select-rows.ensures (none_measured _ c.in_default.ensures) _ refl)

pub returns-then-out-n : goal.returns-then-out-n
returns-then-out-n c =
    let m = length_measured _ _ c.in-Some.ensures in
    rw c.from-then-out-n.ensures (write_13 (sym c.if-not-formed.ensures) c.select-rows.ensures m.0 (λ z. omega (arith, m.1)) _ (omega arith))

pub put_document-requires : goal.put_document-requires
put_document-requires c =
    let m = length_measured _ _ c.in-Some.ensures in
    let h = form_holds _ (sym c.if-not-formed.ensures) in (
      form_layout (sym c.if-not-formed.ensures),
      listed h.1 c.select-rows.ensures,
      enough (sym c.if-not-formed.ensures) c.select-rows.ensures m.0 (λ z. omega (arith, m.1)) _ h.1 _ (omega arith),
    )

pub returns : goal.returns
returns c =
    let m = length_measured _ _ c.in-Some.ensures in
    write_granted (sym c.if-not-formed.ensures) c.select-rows.ensures m.0 (λ z. omega (arith, m.1)) _ _ (omega arith) c.put_document.ensures
    (search rules)
