use Rattle.std.specs.Prelude.{◌≡◌, ℕ, eqb}
use Rattle.std.proofs.Common.{◌∙◌}
use borrow.Author.Tests.{ne_eqb}
use Rattle.xml.specs.Shape.{Label}
use Rattle.xml.specs.Writing.{escaped}
use Rattle.xml_write.specs.Pieces.{label_of}
use Rattle.xml_write.specs.Texts.{of_kind, opening}
use Rattle.xml_write.proofs.node.Node.put_opening.Goals as goal

-- what is no element begins with its content
opening_text : (above : ℕ) (a : Label) → (a.kind ≡ 2 → ⊥) → opening (of_kind above) a ≡ escaped (eqb above 3) a.content
unfolding opening
opening_text above a h = rw (ne_eqb a.kind 2 h)

pub put_escaped-requires : goal.put_escaped-requires
put_escaped-requires c =
    let self = c.args.self.now in
    rw (opening_text c.args.above (label_of self) (λ e. c.if-self-eq-ELEMENT.false (self.of_kind ∙ e))) at c.requires
