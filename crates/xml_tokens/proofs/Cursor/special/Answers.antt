use Rattle.xml_tokens.specs.Laws.Specials.{special_fits, special_full, special_lost, special_reference}
use mathlib.Core.Path.{refl}
use borrow.Author.Rules.{rules}
use Rattle.xml_tokens.proofs.Cursor.special.Goals as goal

pub returns-then-s-at-ge128 : goal.returns-then-s-at-ge128
returns-then-s-at-ge128 c =
    let p = c.requires in
    special_fits _ _ _ _ p.0 c.if-s-at-ge128.true c.letters-end.ensures p.1 _ refl c.fit.ensures

pub returns-then-count-eq32 : goal.returns-then-count-eq32
returns-then-count-eq32 c =
    let p = c.requires in
    rw c.new.ensures (special_full _ _ _ p.0 p.2 c.if-s-at-ge128.false c.if-count-eq32.true)

pub returns-in_err-reference : goal.returns-in_err-reference
returns-in_err-reference c = search (rules, special_lost)

pub returns : goal.returns
returns c =
    special_reference _ _ _ c.requires.0 c.requires.2 c.if-s-at-ge128.false (search rules) c.in_ok-reference.ensures
