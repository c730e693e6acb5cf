-- How many nodes events tell of, and how long contents become.
use Rattle.std.specs.Prelude.{ℕ, suc, max, List, [], ◌∷◌}
use Rattle.xml.specs.Laws.Automaton.{Event, born, byte}

-- nodes
unfoldable pub births : List Event → ℕ
births [] = 0
births (born d k ∷ e) = suc (births e)
births (byte b ∷ e) = births e

-- the length of the last content, k bytes of it there before
unfoldable pub tail : ℕ → List Event → ℕ
tail k [] = k
tail k (born d m ∷ e) = tail 0 e
tail k (byte b ∷ e) = tail (suc k) e

-- the length of the longest content, k bytes of the first there before
unfoldable pub peak : ℕ → List Event → ℕ
peak k [] = k
peak k (born d m ∷ e) = max k (peak 0 e)
peak k (byte b ∷ e) = peak (suc k) e
