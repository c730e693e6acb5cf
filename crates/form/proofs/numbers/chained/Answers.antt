use borrow.Author.Rules.{rules}
use native.Mathlib.Omega.{arith}
use Prim.Native.Nat.{◌-◌}
use Rattle.form.specs.Laws.Numbers.{chain_met, chain_next, chain_end}
use Rattle.form.proofs.numbers.chained.Goals as goal

pub returns-then-at-w : goal.returns-then-at-w
returns-then-at-w c =
    let l = c.loop-link in
    chain_met _ _ _ _ _ l.invariant.1 c.requires.2 (search rules) (search rules) _
    c.at.ensures.2 c.if-at-w.true

pub loop-link-preserved : goal.loop-link-preserved
loop-link-preserved c =
    let l = c.loop-link in
    let falls = c.requires.2 in (
      omega (arith, falls (l.link - 1)),
      rw c.from-link-in-loop-link.ensures (chain_next _ _ _ _ _ l.invariant.1 falls (search rules) (search rules) _ c.at.ensures.2 c.if-at-w.false),
    )

pub returns : goal.returns
returns c = chain_end _ _ _ _ _ c.loop-link.invariant.1 (search rules)
