-- A forest as a list: document order, each node with its depth, 0 for the topmost.
use Rattle.std.specs.Prelude.{ℕ, suc, List, [], ◌∷◌, ◌++◌}
use Rattle.tree.specs.Forest.{Forest, nil, node}
unfoldable pub use Rattle.table.specs.Passes.{second, left_out, prune}

unfoldable pub flat : {A : Type 0} → ℕ → Forest A → List (ℕ × A)
flat d nil = []
flat d (node a ks fs) = (d, a) ∷ (flat (suc d) ks ++ flat d fs)
