-- Of a parent only the kind counts.
use Rattle.std.specs.Prelude.{◌≡◌, refl, ℕ}
use Rattle.xml.specs.Shape.{Label}
use Rattle.xml_text.specs.Rows.{tag_end, begin}
use Rattle.xml_write.specs.Texts.{of_kind}

pub begin_kind : (parent : Label) (previous : ℕ) (a : Label) → begin parent previous a ≡ begin (of_kind parent.kind) previous a
unfolding begin tag_end
begin_kind parent previous a = refl
