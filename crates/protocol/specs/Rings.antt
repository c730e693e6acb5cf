-- Rings of transactions each waiting for the next, which are cycles of the waits-for graph: document 02, A.6.
use Rattle.std.specs.Prelude.{ℕ, zero, suc, ◌≡◌, Bool, true, false, ◌&&◌, ◌||◌}
use Rattle.tree.specs.Lists.{any}
use Rattle.protocol.specs.State.{transactions, WaitSets, Header}

-- only open transactions wait, and only for open ones
abbrev pub AmongOpen : Header → Type 0
AmongOpen h = (t u : ℕ) → h.remembered t u ≡ true → (h.is_open t ≡ true) × (h.is_open u ≡ true)

-- a path of at most n waits leads from t to u: u is in the set of t, or in that of one to whom such a path leads
abbrev pub waits_within : ℕ → WaitSets → ℕ → ℕ → Bool
waits_within zero r t u = false
waits_within (suc n) r t u = r t u || any (λ v. r v u && waits_within n r t v) transactions

-- t is in a ring; among sixteen transactions none is longer than sixteen (`ring_test` in serializability: this is a path of any length)
unfoldable pub in_ring : WaitSets → ℕ → Bool
in_ring r t = waits_within 16 r t t
