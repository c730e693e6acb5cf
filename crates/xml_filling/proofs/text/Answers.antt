use native.Mathlib.Omega.{arith}
use mathlib.Core.Path.{refl, sym, ◌∙◌}
use Rattle.xml_filling.specs.Laws.Texts.{text_none, text_inside, text_room, text_some, taken_length, taken_short}
use Rattle.xml_filling.proofs.text.Goals as goal

pub overflow_add-result : goal.overflow_add-result
overflow_add-result c = let i = text_inside c.requires.2 in omega arith

pub returns-then-peek-stop : goal.returns-then-peek-stop
returns-then-peek-stop c = text_none _ (sym c.peek.ensures ∙ c.if-peek-stop.true) refl c.requires.1

pub slice_bounds-buffer-end : goal.slice_bounds-buffer-end
slice_bounds-buffer-end c = let e = c.decode-content.ensures in omega (arith, e.1.few, e.0)

pub slice_bounds-bytes-end : goal.slice_bounds-bytes-end
slice_bounds-bytes-end c = let e = c.decode-content.ensures in taken_length _ _ e.1.few e.0

pub put-requires : goal.put-requires
put-requires c =
    let e = c.decode-content.ensures in
    let p = c.requires in
    (p.1, text_room (λ z. c.if-peek-stop.false (c.peek.ensures ∙ z)) p.2, taken_short _ _ e.1.few e.0)

pub returns : goal.returns
returns c =
    let e = c.decode-content.ensures in
    text_some (λ z. c.if-peek-stop.false (c.peek.ensures ∙ z)) e.1 c.put.ensures
