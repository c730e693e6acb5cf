-- Sets of transactions as words, and how far waits lead.
use Rattle.std.specs.Prelude.{ℕ, ◌-◌, Bool, false, cond, ◌&&◌, ◌||◌, List, get_or}
use Rattle.tree.specs.Lists.{any}
use Rattle.protocol.specs.State.{is_transaction, transactions, in_set, WaitSets}

-- the sets in sixteen words, that of transaction t at t - 1
unfoldable pub sets_of : List ℕ → WaitSets
sets_of l t u = cond (is_transaction t) (in_set (get_or l (t - 1) 0) u) false

-- u is in the set of t, or in that of one in reach
unfoldable pub onward : WaitSets → ℕ → (ℕ → Bool) → ℕ → Bool
onward r t reach u = r t u || any (λ v. r v u && reach v) transactions
