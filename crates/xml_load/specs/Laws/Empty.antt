-- The document node held alone.
use Rattle.std.specs.Prelude.{◌≡◌, ℕ, true, List, [], take}
use Rattle.std.proofs.Common.{arith}
use Rattle.tree.specs.Forest.{view}
use Rattle.tree.specs.Document.{node_0_alone}
use Rattle.protocol.specs.State.{unwritten, tree_of, with_update, with_count, with_commits}
use Rattle.table.specs.Lists.{modify}
use Rattle.table.specs.Flat.{flat, second}
use Rattle.table.specs.Fields.{with_bytes, unlocked}
use Rattle.table.specs.Layout.{nodes, Left, Kept, header}
use Rattle.table.specs.Laws.Kept.{left_then, left_on, left_as}
use Rattle.table.specs.Laws.Fields.{at_level_0}
use Rattle.form.specs.Form.{form}
use Rattle.form.specs.Laws.Holds.{form_holds}
use Rattle.form.specs.Laws.Valid.{root_of}

-- by the form, the first node is the document, which nobody inserted or deleted
alone : (s : List ℕ) → form s ≡ true →
    modify 0 (second unlocked) (modify 0 (second (with_count 0)) (modify 0 (second (with_bytes []))
    (modify 0 (second (with_update unwritten)) (take 1 (nodes s)))))
    ≡ flat 0 (tree_of node_0_alone)
unfolding flat modify tree_of node_0_alone view
alone s h =
    let p = form_holds s h in
    let r = root_of p.0.tree p.1.valid in
    let d = r.document in
    let z = rw (p.1.rows, r.whole) at (at_level_0 s 0 (omega (arith, p.1.layout.some, p.1.layout.many))) in
    rw (p.1.rows, r.whole, d.kind, d.number, d.inserter, d.deleter, z.0, z.1)

pub emptied : {s s₁ s₂ s₃ s₄ s₅ s₆ : List ℕ} → form s ≡ true → Left s s₁ (header s) (take 1 (nodes s)) →
    Kept s₁ s₂ (modify 0 (second (with_update unwritten)) (nodes s₁)) → Kept s₂ s₃ (modify 0 (second (with_bytes [])) (nodes s₂)) →
    Kept s₃ s₄ (modify 0 (second (with_count 0)) (nodes s₃)) → Kept s₄ s₅ (modify 0 (second unlocked) (nodes s₄)) →
    Left s₅ s₆ (with_commits 0 (header s₅)) (nodes s₅) → Left s s₆ (with_commits 0 (header s)) (flat 0 (tree_of node_0_alone))
emptied {s} h a b c d e f =
    left_as _ _ (alone s h)
    (left_on _ (with_commits 0) (λ ns. ns) (left_then _ (modify 0 (second unlocked)) (left_then _ (modify 0 (second (with_count 0)))
    (left_then _ (modify 0 (second (with_bytes []))) (left_then _ (modify 0 (second (with_update unwritten))) a b) c) d) e) f)
