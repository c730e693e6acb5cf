-- Bytes stored in a lent buffer.
use Rattle.std.specs.Prelude.{ℕ, ◌≡◌, List, length}
use Rattle.std.proofs.lemmas.List.Edits.{sets}

-- a buffer that held o holds b from k on, and nothing else is changed
pub record Stored (k : ℕ) (b o o' : List ℕ) : Type 0 where
  pub long : length o' ≡ length o
  pub bytes : o' ≡ sets o k b
