use native.Mathlib.Omega.{arith}
use Rattle.node_writing.specs.Laws.Renaming.{renaming_start, renaming_end, renaming_out, renaming_passed, renaming_seen, hit_few}
use Rattle.node_writing.proofs.rename_rest.Goals as goal
use Rattle.node_writing.proofs.rename_rest.Goals.{then-hidden-eq0, else-hidden-eq0}

pub loop-i-init : goal.loop-i-init
loop-i-init c = renaming_start _ _ _ _ c.requires.0

pub depth-requires : goal.depth-requires
depth-requires c = (c.loop-i.invariant.kept.layout, omega (arith, c.loop-i.invariant.kept.many))

pub returns-then-depth-top : goal.returns-then-depth-top
returns-then-depth-top c =
    let v = c.loop-i.invariant in
    renaming_out v (omega (arith, v.kept.many)) (omega (arith, c.depth.ensures, c.depth-top.ensures))

pub next_below-hidden-requires : goal.next_below-hidden-requires
next_below-hidden-requires c = (c.loop-i.invariant.kept.layout, omega (arith, c.loop-i.invariant.kept.many))

pub rename-requires : goal.rename-requires
rename-requires c =
    let v = c.loop-i.invariant in
    (v.kept.layout, omega (arith, v.kept.many), c.requires.2, c.requires.3)

pub overflow_add-hits : goal.overflow_add-hits
overflow_add-hits c =
    let h = c.requires.0 in
    omega (arith, c.loop-i.invariant.few, hit_few c.rename.result, c.from-hits.ensures, h.room, h.many)

pub loop-i-preserved : goal.loop-i-preserved
loop-i-preserved c =
    let v = c.loop-i.invariant in
    let q = c.next_below-hidden.ensures in
    elim c.if-hidden-eq0.branch [
      | then-hidden-eq0 w ↦
          rw (w.s-is, w.hits-is, w.from-hits.ensures) (renaming_seen v (omega (arith, v.kept.many))
          (omega (arith, c.depth.ensures, c.depth-top.ensures)) q w.if-hidden-eq0.true w.rename.ensures)
      | else-hidden-eq0 w ↦
          rw (w.s-is, w.hits-is) (renaming_passed v (omega (arith, v.kept.many)) (omega (arith, c.depth.ensures, c.depth-top.ensures)) q
          w.if-hidden-eq0.false)
    ]

pub returns : goal.returns
returns c =
    let v = c.loop-i.invariant in
    renaming_end v (omega (arith, v.kept.many)) (omega (arith, v.few, v.kept.layout.room, v.kept.layout.many))
