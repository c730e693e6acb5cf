use Rattle.tree.specs.Values.{class}
use Rattle.tree.proofs.characters.class_meets.Goals as goal

-- the tables are the classes, by computation
pub returns-then-text : goal.returns-then-text
unfolding class
returns-then-text c = rw c.if-text.true c.meets.ensures

pub returns-then-first : goal.returns-then-first
unfolding class
returns-then-first c = rw (c.if-text.false, c.if-first.true) c.meets-then-first.ensures

pub returns : goal.returns
unfolding class
returns c = rw (c.if-text.false, c.if-first.false) c.meets-2.ensures
