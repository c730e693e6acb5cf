use borrow.Author.Rules.{rules}
use native.Mathlib.Omega.{arith}
use Prim.Native.Nat.{◌≤◌, ◌<◌}
use mathlib.Core.Path.{sym, ◌∙◌}
use lib.ListN.{length}
use Rattle.table.specs.Layout.{nodes}
use Rattle.table.specs.Laws.Kept.{kept_same, kept_on}
use Rattle.ends.specs.Laws.Pass.{passed_start, passed_next, passed_some, passed_left, moved_most}
use Rattle.ends.proofs.pass.one_pass.Goals as goal

pub loop-j-init : goal.loop-j-init
loop-j-init c = record {
  front = search rules;
  visited = search rules;
  many = sym c.count-m.ensures;
  held = kept_same _ c.requires.0;
  passed = passed_start c.args.end c.args.t (nodes c.args.s.now);
}

pub end_marks-below-requires : goal.end_marks-below-requires
end_marks-below-requires c = (c.loop-j.invariant.held.layout, omega (arith, c.loop-j.invariant.many), c.requires.1)

pub release-requires : goal.release-requires
release-requires c =
    let ends = c.end_marks-below.ensures in
    (ends.kept.layout, omega (arith, c.requires.1), omega (arith, c.requires.2), omega (arith, c.loop-j.invariant.many, ends.kept.many))

pub keep-kept-requires : goal.keep-kept-requires
keep-kept-requires c =
    let l = c.loop-j in
    let lock = c.release.ensures in
    (lock.layout, l.invariant.front, omega (arith, l.invariant.many, c.end_marks-below.ensures.kept.many, lock.many))

pub overflow_add-visits : goal.overflow_add-visits
overflow_add-visits c = omega (arith, c.loop-j.invariant.visited)

pub loop-j-preserved : goal.loop-j-preserved
loop-j-preserved c =
    let l = c.loop-j in
    let v = l.invariant in
    let ends = c.end_marks-below.ensures in
    let lock = c.release.ensures in
    let moved = c.keep-kept.ensures in
    let inside : l.j < length (nodes l.s) = omega (arith, v.many) in
    record {
      front = moved_most v.front moved;
      visited = omega (arith, v.visited);
      many = moved.kept.many ∙ lock.many ∙ ends.kept.many ∙ v.many;
      held = kept_on (kept_on (kept_on v.held ends.kept) lock) moved.kept;
      passed = passed_next c.args.end c.args.t (nodes c.args.s.now) l.below l.kept l.j _ _ inside v.front v.passed ends lock moved;
    }

pub cut-requires : goal.cut-requires
cut-requires c =
    let rows = nodes c.args.s.now in
    let l = c.loop-j in
    let v = l.invariant in
    let past : length (nodes l.s) ≤ l.j = omega (arith, v.many) in
    let some : 1 ≤ length rows = omega (arith, c.requires.0.some, c.requires.0.many) in (
      v.held.layout,
      passed_some c.args.end c.args.t rows l.kept l.below l.j (nodes l.s) v.passed past some c.requires.3,
      omega (arith, v.front, v.many),
    )

pub returns : goal.returns
returns c =
    let l = c.loop-j in
    let v = l.invariant in
    let past : length (nodes l.s) ≤ l.j = omega (arith, v.many) in
    record {
      count = omega (arith, v.visited, c.count-m.ensures);
      bound = omega (arith, v.visited, c.count-m.ensures, c.requires.0.room, c.requires.0.many);
      left = passed_left c.args.end c.args.t l.kept l.below l.j v.held v.passed past c.cut.ensures;
    }
