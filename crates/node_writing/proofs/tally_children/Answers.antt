use borrow.Author.Rules.{rules}
use native.Mathlib.Omega.{arith}
use mathlib.Core.Path.{◌≡◌, sym, ◌∙◌}
use Rattle.node_writing.specs.Writing.{counted}
use Rattle.node_writing.specs.Laws.Tallies.{passing_start, passing_end, passing_out, passing_deeper}
use Rattle.node_writing.specs.Laws.Tallies.{passing_deleted, passing_child, counted_count}
use Rattle.node_writing.proofs.tally_children.Goals as goal
use Rattle.node_writing.proofs.tally_children.Goals.{then-d-top-2+then-deleter-t, else-d-top-2}
use Rattle.node_writing.proofs.tally_children.Goals.{else-d-top-2-via-then-d-top-2+else-deleter-t, else-d-top-2-via-else-d-top-2}

pub loop-i-init : goal.loop-i-init
loop-i-init c = (search rules, passing_start _ _ _ _)

pub returns-then-d-top : goal.returns-then-d-top
returns-then-d-top c =
    let l = c.loop-i in (
      passing_out _ _ _ _ l.i l.c l.invariant.1 (search rules) (omega (arith, c.depth-d.ensures, c.depth-top.ensures)),
      omega (arith, l.invariant.0, c.requires.0.room, c.requires.0.many),
    )

pub with-c-requires : goal.with-c-requires
with-c-requires c =
    let v = c.loop-i.invariant in
    let h = c.requires.0 in
    (omega (arith, v.0, h.room, h.many), omega (arith, v.0, v.1.tallying.few, h.room, h.many))

pub loop-i-preserved : goal.loop-i-preserved
loop-i-preserved c =
    let l = c.loop-i in
    let v = l.invariant in
    let e = c.depth-d.ensures in
    let top = c.depth-top.ensures in
    elim c.if-d-top-2.branch [
      | then-d-top-2+then-deleter-t w ↦
          let here : c.if-d-top-2.c ≡ counted c.args.parent w.from.result l.c = w.c-is ∙ w.with-c.ensures in (
            omega (arith, v.0, counted_count _ _ _ _ here),
            rw here (passing_child _ _ _ _ l.i l.c v.1 (search rules) (omega (arith, e, top, w.if-d-top-2.true))
                (λ z. w.if-deleter-t.true (w.deleter.ensures ∙ z)) _ (w.from.ensures ∙ w.kind.ensures)),
          )
      | else-d-top-2 w ↦ rw w.c-is (
        omega (arith, v.0),
        elim w.else-d-top-2.branch [
          | else-d-top-2-via-then-d-top-2+else-deleter-t u ↦
              passing_deleted _ _ _ _ l.i l.c v.1 (search rules) (omega (arith, e, top, u.if-d-top-2.true))
              (sym u.deleter.ensures ∙ u.if-deleter-t.false)
          | else-d-top-2-via-else-d-top-2 u ↦
              passing_deeper _ _ _ _ l.i l.c v.1 (search rules) (omega (arith, e, top, c.if-d-top.false, u.if-d-top-2.false))
        ],
      )
    ]

pub returns : goal.returns
returns c =
    let v = c.loop-i.invariant in
    (passing_end _ _ _ _ c.loop-i.i c.loop-i.c v.1 (search rules), omega (arith, v.0, c.requires.0.room, c.requires.0.many))
