-- The state against the logs: for every list of distinct transactions, in every order, and of each of them so many levels, the plain rules
-- lead from the committed document to the one that the tree shows of them.
use Rattle.std.specs.Prelude.{ℕ, ◌<◌, ◌≡◌, true, false, ◌&&◌, List, [], ◌++◌}
use Rattle.tree.specs.Lists.{has}
use Rattle.tree.specs.Document.{Document}
use Rattle.tree.specs.Steps.{inserts}
use Rattle.locks.specs.Needs.{Lock}
use Rattle.protocol.specs.State.{nobody, Levels, State, is_transaction, document_of}
use Rattle.serializability.proofs.Laws.Parts.{Entry, Parts, end, did, undone, Of, LevelledLog, Extent, all, shows, log_within, Proper}
use Rattle.serializability.proofs.Laws.Runs.{touched_in}
use Rattle.serializability.proofs.Laws.Orders.{Distinct}
use Rattle.serializability.proofs.Laws.Serial.{Serial}
use Rattle.serializability.proofs.Laws.OpenLevels.{LevelsOpen, touched_within, deleted_within}
use Rattle.serializability.proofs.Laws.Shown.{Place, Inside}
use Rattle.serializability.proofs.Laws.Numbers.{number_of}
use Rattle.serializability.proofs.Laws.Marks.{Covered}
use Rattle.serializability.proofs.Laws.Standing.{Standing}

-- the locks of a log, those of undone parts too: "locks remain"
abbrev pub locks_of : Parts → List Lock
locks_of end = []
locks_of (did x l) = x.held ++ locks_of l
locks_of (undone k l) = locks_of k ++ locks_of l

-- all that u did, where M's header says how many parts are open
abbrev pub whole : (ℕ → LevelledLog) → (ℕ → ℕ) → ℕ → Parts
whole log depth u = log_within all (depth u) (log u)

abbrev pub holds : (ℕ → LevelledLog) → (ℕ → ℕ) → ℕ → List Lock
holds log depth u = locks_of (whole log depth u)

-- the log of u brought in the number m
abbrev pub Brought : (ℕ → LevelledLog) → (ℕ → ℕ) → ℕ → ℕ → Type 0
Brought log depth m u = (y : Entry) × Of y (whole log depth u) × (has m (inserts y.step) ≡ true)

-- of each of the transactions b so much
abbrev pub shown_of : (ℕ → Extent) → List ℕ → Levels
shown_of x b u l = has u b && shows (x u) l

-- c is the committed document, log what each open transaction did so far
pub record Good (c : Document) (log : ℕ → LevelledLog) (M : State) : Type 0 where
  pub closed : (u : ℕ) → M.header.is_open u ≡ false → (l : ℕ) → log u l ≡ end
  -- nothing was done at levels that are not open
  pub deeper : (u l : ℕ) → M.header.depth u < l → log u l ≡ end
  pub no_parts : (u : ℕ) → M.header.is_open u ≡ false → M.header.depth u ≡ 0
  pub numbered : (u : ℕ) → M.header.is_open u ≡ true → is_transaction u ≡ true
  pub covered : Covered (holds log M.header.depth) M.tree
  pub standing : (u : ℕ) (y : Entry) → Of y (whole log M.header.depth u) → Standing M.tree u y.step y.held
  -- a node that a transaction inserted is one that its log brought in
  pub brought : (r : Place) → Inside r M.tree → (r.it.inserter ≡ nobody → ⊥)
      → Brought log M.header.depth (number_of r) r.it.inserter
  pub levels : (r : Place) → Inside r M.tree → LevelsOpen M.header.depth r.it
  -- of the nodes that so much of a transaction did not delete, those that bear its marks of insertion or update are those that so much of
  -- its log touched
  pub touched : (r : Place) → Inside r M.tree → (u : ℕ) → (u ≡ nobody → ⊥) → (x : Extent) → Proper (M.header.depth u) x
      → deleted_within x u r.it ≡ false
      → touched_within x u r.it ≡ touched_in (log_within x (M.header.depth u) (log u)) (number_of r)
  pub serial : (x : ℕ → Extent) → ((u : ℕ) → Proper (M.header.depth u) (x u)) → (b : List ℕ) → Distinct b
      → Serial c b (λ u. log_within (x u) (M.header.depth u) (log u)) (document_of (shown_of x b) M.tree)
