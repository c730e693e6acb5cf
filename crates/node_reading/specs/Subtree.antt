-- A node and all below it that a transaction sees: their places in document order.
use Rattle.std.specs.Prelude.{ℕ, ◌≡◌, List, length}
use Rattle.table.specs.Layout.{Entry}
use Rattle.rows.specs.Places.{subtree}
use Rattle.engine.specs.Way.{Places, nodes_of, Inside}

-- the node at p and all below it that t sees
pub record Selected (l : List Entry) (t p : ℕ) (w : Places) : Type 0 where
  pub inside : Inside l w
  pub nodes : nodes_of l w ≡ subtree t l p
  pub many : w.count ≡ length (subtree t l p)
