-- What U writes: the node marked, then its content.
use Rattle.std.specs.Prelude.{ℕ, List}
use Rattle.protocol.specs.State.{written_by}
use Rattle.table.specs.Lists.{modify}
use Rattle.table.specs.Flat.{second}
use Rattle.table.specs.Layout.{nodes, Kept}
use Rattle.table.specs.Fields.{with_bytes, marked_written}
use Rattle.table.specs.Laws.Lists.{modify_modify}
use Rattle.table.specs.Laws.Kept.{kept_then, kept_as}

pub written : {s s₁ s₂ : List ℕ} (p t : ℕ) (b : List ℕ) → Kept s s₁ (modify p (second (marked_written t)) (nodes s))
    → Kept s₁ s₂ (modify p (second (with_bytes b)) (nodes s₁)) → Kept s s₂ (modify p (second (written_by t 0 b)) (nodes s))
written {s} p t b x y =
    kept_as _ _ (modify_modify p (second (with_bytes b)) (second (marked_written t)) (nodes s))
    (kept_then (modify p (second (marked_written t)) (nodes s)) (modify p (second (with_bytes b))) x y)
