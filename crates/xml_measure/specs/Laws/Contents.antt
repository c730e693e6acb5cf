-- Committed contents.
use Rattle.std.specs.Prelude.{◌≡◌, refl, ℕ, ◌<◌, true, List, length, take}
use Rattle.std.proofs.Common.{sym, ne_eqb}
use Rattle.protocol.specs.State.{writer_of}
use Rattle.protocol.proofs.Laws.Shown.{content_committed}
use Rattle.table.specs.Layout.{Entry, nodes}
use Rattle.table.specs.Laws.Texts.{not_written}
use Rattle.table.specs.Fields.{has_text, text, Begins}
use Rattle.rows.specs.Places.{item}
use Rattle.xml_measure.specs.Lines.{committed_label, label_at}

pub kind_at : (l : List Entry) (p : ℕ) → (label_at l p).kind ≡ (item l p).now.kind
unfolding label_at committed_label
kind_at l p = refl

-- nobody, or somebody, wrote the node
pub version_now : (s : List ℕ) (p : ℕ) → p < length (nodes s) → writer_of (item (nodes s) p).update ≡ 0
    → text 0 (item (nodes s) p) ≡ (label_at (nodes s) p).content
unfolding label_at committed_label
version_now s p l e = rw (not_written s p l e)

pub version_saved : (l : List Entry) (p : ℕ) → (writer_of (item l p).update ≡ 0 → ⊥)
    → (text 1 (item l p) ≡ (label_at l p).content) × (has_text 1 (item l p) ≡ true)
unfolding label_at committed_label
version_saved l p h = (
  sym (content_committed (item l p).now.content (item l p).update h),
  rw (ne_eqb (writer_of (item l p).update) 0 h),
)

pub first_is : (content window : List ℕ) (n : ℕ) → Begins content window → n ≡ length content → take n window ≡ content
first_is content window n b e = rw e b.first
