use native.Mathlib.Omega.{arith}
use mathlib.Core.Path.{sym, ◌∙◌}
use borrow.Author.Rules.{rules}
use Rattle.xml_tokens.specs.Laws.Characters.{characters_start, characters_end, characters_stop, characters_wrong}
use Rattle.xml_tokens.specs.Laws.Characters.{characters_full, characters_byte, characters_unfit, characters_special}
use Rattle.xml_tokens.specs.Laws.Characters.{special_inside}
use Rattle.xml_tokens.proofs.Cursor.characters.Goals as goal

pub loop-i-init : goal.loop-i-init
loop-i-init c = (search rules, search rules, search rules, characters_start _ _ _ _)

pub returns-then-b-stop : goal.returns-then-b-stop
returns-then-b-stop c = search (characters_stop, rules)

pub returns-then-not-may_stand : goal.returns-then-not-may_stand
returns-then-not-may_stand c =
    let loop = c.loop-i in
    let if1 = c.if-b-stop in
    rw c.new.ensures (characters_wrong _ _ _ _ _ _ _ loop.invariant.3 (search rules) if1.false
    (sym c.may_stand.ensures ∙ c.if-not-may_stand.true))

pub returns-then-count-eq32 : goal.returns-then-count-eq32
returns-then-count-eq32 c =
    let loop = c.loop-i in
    rw c.new-then-count-eq32.ensures (characters_full _ _ _ _ _ _ _ loop.invariant.3 (search rules) c.if-b-stop.false
    (sym c.may_stand.ensures ∙ c.if-not-may_stand.false) (sym c.alone.ensures ∙ c.if-alone.true) c.if-count-eq32.true)

pub loop-i-preserved-then-alone : goal.loop-i-preserved-then-alone
loop-i-preserved-then-alone c =
    let loop = c.loop-i in (
      search rules,
      search rules,
      search rules,
      rw c.brackets_after-k.ensures
          (characters_byte _ _ _ _ _ _ _ loop.invariant.3 (search rules) c.if-b-stop.false
          (sym c.may_stand.ensures ∙ c.if-not-may_stand.false) (sym c.alone.ensures ∙ c.if-alone.true)
          (search rules)),
    )

pub special-requires : goal.special-requires
special-requires c = (search rules, search rules, sym c.alone.ensures ∙ c.if-alone.false)

pub returns-in_err-piece : goal.returns-in_err-piece
returns-in_err-piece c = search (rules, characters_unfit)

pub loop-i-smaller : goal.loop-i-smaller
loop-i-smaller c = let y = special_inside c.in_ok-piece.ensures in omega (arith, y.0, y.1)

pub loop-i-preserved : goal.loop-i-preserved
loop-i-preserved c =
    let r = c.in_ok-piece.ensures in
    let y = special_inside r in
    (omega (arith, y.0), y.1, y.2, characters_special _ _ _ _ _ _ _ c.loop-i.invariant.3 r)

pub returns : goal.returns
returns c = rw c.new-2.ensures (characters_end _ _ _ _ _ _ _ c.loop-i.invariant.3 (search rules))
