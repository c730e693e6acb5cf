use Prim.Native.Nat.{ℕ}
use mathlib.Core.Path.{◌≡◌, refl}
use mathlib.Core.Logic.{◌⊎◌, inl, inr}
use native.Mathlib.Omega.{arith}
use borrow.Author.Rules.{rules}
use Rattle.xml.specs.Bytes.{Quote, double, single, quote_byte}
use Rattle.xml_tokens.specs.Laws.Tags.{byte_found, sign_lost, quote_end, quote_wrong, quote_read}
use Rattle.xml_tokens.proofs.Cursor.equals.Goals as goal

a_quote : (b : ℕ) → (b ≡ 34) ⊎ (b ≡ 39) → (q : Quote) × (b ≡ quote_byte q)
a_quote b (inl e) = (double, e)
a_quote b (inr e) = (single, e)

pub returns-in_err-sign : goal.returns-in_err-sign
returns-in_err-sign c = search (rules, sign_lost)

pub blanks-behind-requires : goal.blanks-behind-requires
blanks-behind-requires c = let y = byte_found c.in_ok-sign.ensures in omega (arith, y.0, y.1)

pub returns-then-at-s : goal.returns-then-at-s
returns-then-at-s c =
    let y = byte_found c.in_ok-sign.ensures in
    quote_end _ _ _ c.blanks-before.ensures y.1 y.2 _ (rw y.0 at c.blanks-behind.ensures) c.if-at-s.true

pub returns-in_default : goal.returns-in_default
returns-in_default c =
    let y = byte_found c.in_ok-sign.ensures in
    quote_wrong _ _ _ c.blanks-before.ensures y.1 y.2 _ (rw y.0 at c.blanks-behind.ensures) c.if-at-s.false (search rules)
    (search rules)

pub returns-in-34 : goal.returns-in-34
returns-in-34 c =
    let y = byte_found c.in_ok-sign.ensures in
    let q = a_quote _ c.in-34.is in
    rw q.1 (quote_read _ _ _ c.blanks-before.ensures y.1 y.2 _ (rw y.0 at c.blanks-behind.ensures) c.if-at-s.false q.0 _ q.1 refl)
