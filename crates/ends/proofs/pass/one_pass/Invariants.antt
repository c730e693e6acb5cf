use Prim.Native.Nat.{◌≤◌}
use mathlib.Core.Path.{◌≡◌}
use lib.ListN.{length}
use Rattle.table.specs.Layout.{nodes, Kept}
use Rattle.ends.specs.Laws.Pass.{Passed}
use Rattle.ends.proofs.pass.one_pass.Given as goal

abbrev pub invariant-loop-j : goal.invariant-loop-j
invariant-loop-j l = record {
  front : l.kept ≤ l.j;
  visited : l.visits ≡ l.j;
  many : length (nodes l.s) ≡ l.m;
  held : Kept l.initial.s l.s (nodes l.s);
  passed : Passed l.end l.t (nodes l.initial.s) l.kept l.below l.j (nodes l.s);
}
