use Rattle.xml_tokens.specs.Laws.Letters.{name_fits}
use Rattle.xml_tokens.specs.Laws.Plain.{name_further, plain_long, plain_short}
use mathlib.Core.Path.{refl}
use native.Mathlib.Omega.{arith}
use Rattle.xml_tokens.proofs.Cursor.spelled_name.Goals as goal

pub returns-then-peek-ge128 : goal.returns-then-peek-ge128
returns-then-peek-ge128 c =
    let p = c.requires in
    name_fits _ _ p.0 p.1 _ (name_further _ _ _ c.plain_name-behind.ensures c.name-end.ensures) _ refl c.fit.ensures

pub returns-then-length-gt32 : goal.returns-then-length-gt32
returns-then-length-gt32 c =
    let p = c.requires in
    rw c.new.ensures (plain_long _ _ _ c.plain_name-behind.ensures p.0 p.1 (omega (arith, c.peek.ensures, c.if-peek-ge128.false))
    c.if-length-gt32.true)

pub returns : goal.returns
returns c =
    let p = c.requires in
    plain_short _ _ _ c.plain_name-behind.ensures p.0 p.1 (omega (arith, c.peek.ensures, c.if-peek-ge128.false))
    c.if-length-gt32.false _ refl
