-- How far two byte strings agree.
use Rattle.std.specs.Prelude.{ℕ, ◌+◌, ◌≤◌, ◌≡◌, List, length, drop}
use Rattle.xml.specs.Laws.Fixed.{agree}

-- the bytes of a word that stand at an offset
pub record Agreement (w s : List ℕ) (at n : ℕ) : Type 0 where
  pub agrees : n ≡ agree w (drop at s)
  pub inside : at + n ≤ length s
  pub most : n ≤ length w
