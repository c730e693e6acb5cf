-- What is told between two offsets of an input that is read to its end. Where nothing is told, one law serves judging an input and filling
-- a table with its nodes.
use Prim.Native.Nat.{ℕ}
use Rattle.std.specs.Prelude.{◌≡◌, Bool}
use Rattle.std.proofs.Math.Bool.{true}
use mathlib.Core.List.{List, [], ◌++◌}
use Rattle.std.proofs.Math.ListN.{drop}
use Rattle.xml.specs.Laws.Automaton.{Config, Event}
use Rattle.xml.specs.Laws.Complete.{Accepts}
use Rattle.xml.specs.Laws.Goes.{Goes}

-- whatever is read from c at offset i on tells v first, and is read on from d at offset j
pub record Tells (s : List ℕ) (c : Config) (i : ℕ) (v : List Event) (d : Config) (j : ℕ) : Type 0 where
  pub told : (e : List Event) → Accepts true c (drop i s) e → (l : List Event) × (e ≡ v ++ l) × Accepts true d (drop j s) l

-- ways on which nothing is told --------------------------------------------------------------

pub record Passes (s : List ℕ) (c : Config) (i : ℕ) (d : Config) (j : ℕ) : Type 0 where
  pub goes : {w : Bool} (n : ℕ) → Goes w s c n i d n j
  pub tells : Tells s c i [] d j
