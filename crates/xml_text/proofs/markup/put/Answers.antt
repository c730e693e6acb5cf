use Rattle.std.proofs.Common.{◌≡◌, ◌∙◌, length, refl, arith, take_all}
use Rattle.xml_text.specs.Lending.{copy_more}
use Rattle.xml_text.proofs.markup.put.Goals as goal

pub loop-i-preserved : goal.loop-i-preserved
loop-i-preserved c = copy_more _ _ _ _ (omega arith) (omega arith) c.loop-i.invariant

pub returns : goal.returns
returns c =
    let e : c.loop-i.i ≡ length c.args.p.now = omega arith in
    record { count = refl; bytes = c.loop-i.invariant ∙ rw (e, take_all (length c.args.p.now) c.args.p.now (omega arith)) }
