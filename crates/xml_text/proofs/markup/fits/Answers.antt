use Rattle.std.specs.Prelude.{◌≡◌, ℕ}
use Rattle.std.proofs.Math.Path.{sym, ◌∙◌}
use Rattle.std.proofs.Math.Bool.{true, not, and-true, and-false}
use Rattle.std.proofs.Math.Dec.{eqb}
use Rattle.tree.specs.Content.{takes}
use Rattle.xml_text.specs.Rows.{in_start_tag, may_stand, fits}
use Rattle.xml_text.proofs.markup.fits.Goals as goal

-- below an element that takes the node
module _ (parent previous kind : ℕ) (t : takes parent kind ≡ true) (p : parent ≡ 2) where
  attribute_fits : kind ≡ 3 → in_start_tag previous ≡ fits parent previous kind
  unfolding fits may_stand
  attribute_fits k = rw (t, p, k, and-false (eqb previous 4), and-true (in_start_tag previous))

  text_fits : kind ≡ 4 → not (eqb previous 4) ≡ fits parent previous kind
  unfolding fits may_stand
  text_fits k = rw (t, p, k, and-true (eqb previous 4))

pub returns-in-2-eq3 : goal.returns-in-2-eq3
returns-in-2-eq3 c =
    let taken = rw (c.from.ensures, c.from-2.ensures) at (sym c.takes.ensures ∙ c.if-takes.true) in
    c.in_start_tag.ensures ∙ attribute_fits _ _ _ taken c.in-2-eq3.is-0 c.in-2-eq3.is-1

pub returns-in-2-eq4 : goal.returns-in-2-eq4
returns-in-2-eq4 c =
    let taken = rw (c.from.ensures, c.from-2.ensures) at (sym c.takes.ensures ∙ c.if-takes.true) in
    text_fits _ _ _ taken c.in-2-eq4.is-0 c.in-2-eq4.is-1
