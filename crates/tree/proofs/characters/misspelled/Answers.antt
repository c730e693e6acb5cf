use Prim.Native.Nat.{◌-◌}
use mathlib.Core.Path.{sym, ◌∙◌}
use native.Mathlib.Omega.{arith}
use borrow.Author.Rules.{rules}
use borrow.Author.Tests.{not-true, not-false, eq-eqb, ne_eqb}
use Rattle.tree.proofs.Reading.{start_at, small_none, small_with, small_behind, read_broken, read_on, read_end}
use Rattle.tree.proofs.Reading.{answer_broken, answer_whole}
use Rattle.tree.proofs.characters.misspelled.Goals as goal

pub loop-i-init : goal.loop-i-init
loop-i-init c =
    let e = c.no_part-part.ensures in
    (search rules, search rules, small_none _ e, start_at _ _ _ _ e (omega arith))

pub with_byte-p-requires : goal.with_byte-p-requires
with_byte-p-requires c = c.loop-i.invariant.2

pub possible-requires : goal.possible-requires
possible-requires c = rw c.with_byte-p.ensures (small_with _ _ c.loop-i.invariant.2)

pub returns-then-not-possible : goal.returns-then-not-possible
returns-then-not-possible c =
    let l = c.loop-i in
    let e = c.with_byte-p.ensures in
    let f = sym c.possible.ensures ∙ not-true _ c.if-not-possible.true-raw in
    answer_broken _ _ (l.i - _) _ l.invariant.3 (read_broken _ _ _ _ _ l.i _ (search rules) (search rules) e f) (omega arith)

pub loop-i-preserved : goal.loop-i-preserved
loop-i-preserved c =
    let l = c.loop-i in
    let e = c.with_byte-p.ensures in
    let f = sym c.possible.ensures ∙ not-false _ c.if-not-possible.false-raw in
    let b = c.behind-x.ensures in (
      search rules,
      search rules,
      small_behind _ _ _ _ b (rw e (small_with _ _ l.invariant.2)),
      l.invariant.3 ∙ read_on _ _ _ _ _ l.i _ (search rules) (search rules) e f _ _ b _ _ (omega arith),
    )

pub returns-then-x-eq0 : goal.returns-then-x-eq0
returns-then-x-eq0 c =
    let l = c.loop-i in
    answer_whole _ _ _ l.invariant.3 (read_end _ _ _ _ _ l.i (search rules) ∙ rw (eq-eqb _ _ c.if-x-eq0.true))

pub returns : goal.returns
returns c =
    let l = c.loop-i in
    answer_broken _ _ _ _ l.invariant.3 (read_end _ _ _ _ _ l.i (search rules) ∙ rw (ne_eqb _ _ c.if-x-eq0.false)) (omega arith)
