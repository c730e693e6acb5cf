use borrow.Author.Rules.{rules}
use native.Mathlib.Omega.{arith}
use Prim.Native.Nat.{max}
use mathlib.Core.Path.{refl, ap, ◌∙◌}
use lib.ListN.{length-set}
use Rattle.xml_tokens.specs.Laws.Specials.{reference_inside}
use Rattle.xml_filling.specs.Laws.Decoding.{decode_start, decode_end, decode_stop, decode_full, decode_lost, decode_byte}
use Rattle.xml_filling.specs.Laws.Decoding.{decode_reference}
use Rattle.xml_filling.proofs.decode.Goals as goal

pub loop-i-init : goal.loop-i-init
loop-i-init c = (search rules, search rules, search rules, search rules, decode_start _ _ _)

pub returns-then-b-stop : goal.returns-then-b-stop
returns-then-b-stop c =
    let l = c.loop-i in
    (l.invariant.3, decode_stop _ _ _ _ _ _ l.invariant.4 l.invariant.0 l.invariant.2 l.invariant.3 (search rules) _ c.if-b-stop.true refl)

pub loop-i-preserved-then-b-ne38 : goal.loop-i-preserved-then-b-ne38
loop-i-preserved-then-b-ne38 c =
    let l = c.loop-i in
    let e = c.least-low.ensures in
    let if1 = c.if-b-stop in (
      search rules,
      search rules,
      search rules,
      simp length-set l.invariant.3,
      decode_byte _ _ _ _ _ _ l.invariant.4 l.invariant.0 l.invariant.2 l.invariant.3 (search rules) if1.false (search rules) _
          c.if-b-ne38.true (c.max.ensures ∙ ap (max _) e),
    )

pub loop-i-smaller : goal.loop-i-smaller
loop-i-smaller c = let y = reference_inside (rw c.in-Ok.is at c.reference.ensures) in omega (arith, y.0, y.1)

pub loop-i-preserved : goal.loop-i-preserved
loop-i-preserved c =
    let l = c.loop-i in
    let r = rw c.in-Ok.is at c.reference.ensures in
    let y = reference_inside r in (
      omega (arith, y.0),
      y.1,
      search rules,
      simp length-set l.invariant.3,
      decode_reference _ _ _ _ _ _ l.invariant.4 l.invariant.0 l.invariant.2 l.invariant.3 (search rules) c.if-b-stop.false (search rules)
          c.if-b-ne38.false r,
    )

pub returns-after-loop-i : goal.returns-after-loop-i
returns-after-loop-i c =
    let l = c.loop-i in (l.invariant.3, decode_end _ _ _ _ _ _ l.invariant.4 l.invariant.0 l.invariant.2 l.invariant.3 _ (search rules))

pub returns-then-n-eq32 : goal.returns-then-n-eq32
returns-then-n-eq32 c = let l = c.loop-i in (
  l.invariant.3,
  decode_full _ _ _ _ _ _ l.invariant.4 l.invariant.0 l.invariant.2 l.invariant.3 (search rules) c.if-b-stop.false _ c.if-n-eq32.true,
)

pub returns-in_default : goal.returns-in_default
returns-in_default c =
    let l = c.loop-i in (
      l.invariant.3,
      decode_lost _ _ _ _ _ _ l.invariant.4 l.invariant.0 l.invariant.2 l.invariant.3 (search rules) c.if-b-stop.false _
          c.if-b-ne38.false c.in_default.ensures,
    )
