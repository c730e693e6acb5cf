use mathlib.Core.Path.{◌≡◌, sym, ◌∙◌, subst}
use native.Mathlib.Omega.{arith}
use lib.ListN.{length}
use Rattle.xml_tokens.specs.Steps.{Run}
use Rattle.xml_tokens.specs.Laws.Runs.{run_start, run_turn, run_stop, run_end}
use Rattle.xml_tokens.proofs.Cursor.run.Goals as goal

pub loop-i-init : goal.loop-i-init
loop-i-init g c = λ t h. run_start t _ _

pub loop-i-preserved : goal.loop-i-preserved
loop-i-preserved g c = λ t h.
    run_turn t _ _ _ (c.loop-i.invariant t h) c.loop-i-test.true (sym (h _ _ c.class.ensures) ∙ c.if-not-class.false)

pub returns-then-not-class : goal.returns-then-not-class
returns-then-not-class g c = λ t h.
    run_stop t _ _ _ (c.loop-i.invariant t h) c.loop-i-test.true (sym (h _ _ c.class.ensures) ∙ c.if-not-class.true)

pub returns : goal.returns
returns g c = λ t h.
    let e : c.loop-i.i ≡ length c.args.s.now = omega arith in
    subst (Run t c.args.s.now c.args.self.at) e (run_end t _ _ _ (c.loop-i.invariant t h) (omega arith) (omega arith))
