-- What the functions that change nodes leave, and what the pass over children counts.
use Rattle.std.specs.Prelude.{◌≡◌, ℕ, ◌+◌, ◌≤◌, Bool, cond, ◌&&◌, List, ◌++◌, length, take, drop, eqb}
use Rattle.tree.specs.Lists.{every, keep}
use Rattle.tree.specs.Content.{attribute_kind, takes, attributes_first}
use Rattle.tree.specs.Steps.{is_named}
use Rattle.locks.specs.Needs.{need}
use Rattle.locks.specs.Words.{step_named}
use Rattle.locks.specs.declared.StepName.TheVariants as name
use Rattle.protocol.specs.State.{Marked, seen_by, inserted_by}
use Rattle.table.specs.Lists.{modify}
use Rattle.table.specs.Flat.{second}
use Rattle.table.specs.Layout.{Entry, nodes, Kept}
use Rattle.rows.specs.Places.{depth, item, seen_from, subtree}
use Rattle.rows.specs.Placing.{attributes}
use Rattle.rows.specs.Rows.{changed_below, granted_modes, renamed_by, renamed_rows}
use Rattle.node_writing.specs.declared.Tally.{Tally}

-- one node, renamed if it is an element named a; r says whether it was
pub record Renamed (s s' : List ℕ) (r : Bool) (p t : ℕ) (a b : List ℕ) : Type 0 where
  pub kept : Kept s s' (modify p (second (renamed_by t 0 a b)) (nodes s))
  pub hit : r ≡ is_named a (item (nodes s) p).now

-- the rows with those below the node at p renamed, and how many they are
unfoldable pub rest_renamed : ℕ → List ℕ → List ℕ → ℕ → List Entry → List Entry
rest_renamed t a b p l = take (p + 1) l ++ changed_below (seen_by t) (renamed_by t 0 a b) (depth l p) 0 (drop (p + 1) l)

unfoldable pub rest_named : ℕ → List ℕ → ℕ → List Entry → ℕ
rest_named t a p l = length (keep (λ x. is_named a x.now) (seen_from t 0 (depth l p) (drop (p + 1) l)))

pub record RenamedRest (s s' : List ℕ) (r p t : ℕ) (a b : List ℕ) : Type 0 where
  pub kept : Kept s s' (rest_renamed t a b p (nodes s))
  pub hits : r ≡ rest_named t a p (nodes s)
  pub few : r ≤ 1024

-- UU of t on the node at p; r is how many
pub record RenamedBelow (s s' : List ℕ) (r p t : ℕ) (a b : List ℕ) : Type 0 where
  pub kept : Kept s s' (renamed_rows t 0 a b p (nodes s))
  pub hits : r ≡ length (keep (λ x. is_named a x.now) (subtree t (nodes s) p))
  pub few : r ≤ 1025

-- a node inserted by t, with the locks of t on it
abbrev pub new_node : ℕ → ℕ → ℕ → List ℕ → Marked
new_node t m kind b =
    granted_modes t (need (step_named name.I)).new (inserted_by t 0 (record { number = m; kind = kind; content = b }))

-- one more child, of a kind
unfoldable pub counted : ℕ → ℕ → Tally → Tally
counted parent kind c = record {
  count = c.count + 1;
  attributes = cond (eqb kind attribute_kind) (c.attributes + 1) c.attributes;
  ordered = cond (eqb kind attribute_kind) (c.ordered && eqb c.attributes c.count) c.ordered;
  allowed = c.allowed && takes parent kind;
}

-- children of these kinds, counted
pub record Counted (parent : ℕ) (kinds : List ℕ) (c : Tally) : Type 0 where
  pub count : length kinds ≡ c.count
  pub attributes : attributes kinds ≡ c.attributes
  pub ordered : attributes_first kinds ≡ c.ordered
  pub allowed : every (takes parent) kinds ≡ c.allowed
  pub few : c.attributes ≤ c.count
