-- What a transaction did: a tree of granted steps and undone parts, level by level. Level 0 is what stands outside of open parts, level d
-- what stands in the d-th open part.
use Rattle.std.specs.Prelude.{ℕ, zero, suc, ◌≤◌, ◌≡◌, Bool, true, cond, eqb, ltb, List}
use Rattle.tree.specs.Steps.{Step, Value}
use Rattle.locks.specs.Needs.{Lock}

-- a granted step, with its answer, its locks and the nodes that it touched
pub record Entry : Type 0 where
  pub step : Step
  pub value : Value
  pub held : List Lock
  pub touched : List ℕ

-- entries in order; an undone part stands where it was undone
pub data Parts : Type 0 where
  end : Parts
  did : (x : Entry) (l : Parts) → Parts
  undone : (k l : Parts) → Parts

-- l, and then k
abbrev pub then : Parts → Parts → Parts
then end k = k
then (did x l) k = did x (then l k)
then (undone j l) k = undone j (then l k)

-- y is one of the entries, those of undone parts included
pub data Of (y : Entry) : Parts → Type 0 where
  here : {x : Entry} {l : Parts} → y ≡ x → Of y (did x l)
  later : {x : Entry} {l : Parts} → Of y l → Of y (did x l)
  inside : {k l : Parts} → Of y k → Of y (undone k l)
  beyond : {k l : Parts} → Of y l → Of y (undone k l)

-- levels -----------------------------------------------------------------------------------

-- what a transaction did at each level
abbrev pub LevelledLog : Type 0
LevelledLog = ℕ → Parts

-- what it did below level n
abbrev pub first_levels : ℕ → LevelledLog → Parts
first_levels zero c = end
first_levels (suc n) c = then (first_levels n c) (c n)

-- how much of a transaction is shown: the levels below a number, or all
pub data Extent : Type 0 where
  below : (n : ℕ) → Extent
  all : Extent

abbrev pub shows : Extent → ℕ → Bool
shows (below n) l = ltb l n
shows all l = true

-- so much of the log of a transaction with d parts open
abbrev pub log_within : Extent → ℕ → LevelledLog → Parts
log_within (below n) d c = first_levels n c
log_within all d c = first_levels (suc d) c

-- some levels of a transaction with d parts open: not the last
abbrev pub Proper : ℕ → Extent → Type 0
Proper d x = (n : ℕ) → x ≡ below n → n ≤ d

-- l is what t did at level d, in place of what it did there
abbrev pub with_level : ℕ → ℕ → Parts → (ℕ → LevelledLog) → ℕ → LevelledLog
with_level t d l log u e = cond (eqb u t) (cond (eqb e d) l (log u e)) (log u e)
