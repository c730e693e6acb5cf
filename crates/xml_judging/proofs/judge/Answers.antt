use Rattle.xml_judging.specs.Laws.Whole.{taken_length, judged_long, judged_short}
use native.Mathlib.Omega.{arith}
use lib.ListN.{length-take}
use borrow.Author.Rules.{rules}
use Rattle.xml_judging.proofs.judge.Goals as goal

pub slice_bounds-first-end : goal.slice_bounds-first-end
slice_bounds-first-end c = taken_length _ c.args.x.now (omega (arith, c.if-x-gt65536.true))

pub unlimited-requires : goal.unlimited-requires
unlimited-requires c = (search rules, search rules, simp length-take (omega arith))

pub returns-then-x-gt65536 : goal.returns-then-x-gt65536
returns-then-x-gt65536 c = judged_long _ _ _ _ c.if-x-gt65536.true c.unlimited.ensures c.limit_input.ensures

pub returns : goal.returns
returns c = judged_short _ _ _ _ c.if-x-gt65536.false c.unlimited-2.ensures c.limit_input-2.ensures
