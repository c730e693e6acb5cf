use borrow.Author.Rules.{rules}
use mathlib.Core.Path.{◌∙◌}
use Rattle.std.proofs.Common.{length, ◌<◌}
use Rattle.std.proofs.lemmas.List.Elements.{All-get_or}
use Rattle.table.specs.Layout.{nodes}
use Rattle.engine.specs.Laws.Waits.{touch_found, touch_passed, touch_none, touches_word}
use Rattle.engine.proofs.locking.touches.Goals as goal

pub returns-then-share : goal.returns-then-share
returns-then-share c =
    let l = c.loop-j in
    let inside = All-get_or (λ i. i < length (nodes c.args.s.now)) c.args.way.now l.j 0 (search rules) c.requires.4 in
    let touches = touches_word c.load-held.ensures _ _ _ _ _ inside (rw c.from.ensures at c.slot-k.ensures.0) c.word_at.ensures c.share.ensures in
    touch_found _ _ _ _ l.j l.invariant (search rules) (touches ∙ c.if-share.true)

pub loop-j-preserved : goal.loop-j-preserved
loop-j-preserved c =
    let l = c.loop-j in
    let inside = All-get_or (λ i. i < length (nodes c.args.s.now)) c.args.way.now l.j 0 (search rules) c.requires.4 in
    let touches = touches_word c.load-held.ensures _ _ _ _ _ inside (rw c.from.ensures at c.slot-k.ensures.0) c.word_at.ensures c.share.ensures in
    touch_passed _ _ _ _ l.j l.invariant (search rules) (touches ∙ c.if-share.false)

pub returns : goal.returns
returns c = touch_none _ _ _ _ c.loop-j.j c.loop-j.invariant (search rules)
