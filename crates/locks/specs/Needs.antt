-- The locks of the nine steps: document 01, "Steps", column "Locks".
use Rattle.std.specs.Prelude.{ℕ, List, [], ◌∷◌, ◌++◌, map}
use Rattle.tree.specs.Document.{Document, at}
use Rattle.tree.specs.Steps.{Step, T, C, R, U, D, I, TT, RR, UU, target, inserts}
use Rattle.locks.specs.Modes.{Mode, LT, LC, LR, LU, LW, LTT, LRR, LUU, LIR, LIU, LIW, LICW}

-- the modes on the node that a step is on, on its parent, above the parent, and on a new node
pub record Need : Type 0 where
  pub node : List Mode
  pub parent : List Mode
  pub above : List Mode
  pub new : List Mode

-- `a` on the node, `b` above it (on the parent and above that)
abbrev on_above : Mode → Mode → Need
on_above a b = record { node = a ∷ []; parent = b ∷ []; above = b ∷ []; new = [] }

-- "those of C(n, k)", which I takes too
abbrev need_C : Need
need_C = on_above LC LT

-- the modes of two needs together
abbrev both : Need → Need → Need
both v w = record { node = v.node ++ w.node; parent = v.parent ++ w.parent; above = v.above ++ w.above; new = v.new ++ w.new }

abbrev pub need : Step → Need
need (T n) = on_above LT LT
need (C n k) = need_C
need (R n) = on_above LR LIR
need (U n b) = on_above LU LIU
need (D n) = record { node = LW ∷ []; parent = LICW ∷ []; above = LIW ∷ []; new = [] }
need (I m kind b n k) = both need_C (record { node = LICW ∷ []; parent = LIW ∷ []; above = LIW ∷ []; new = LW ∷ [] })
need (TT n) = on_above LTT LT
need (RR n) = on_above LRR LIR
need (UU n a b) = on_above LUU LIU

-- a mode on a node, by its number
abbrev pub Lock : Type 0
Lock = ℕ × Mode

-- these modes on one node; on each of some nodes
abbrev pub each : List Mode → ℕ → List Lock
each l q = map (λ a. (q, a)) l

abbrev pub every_one : List Mode → List ℕ → List Lock
every_one l [] = []
every_one l (q ∷ qs) = each l q ++ every_one l qs

-- these on the parent, those above it
abbrev pub up : Need → List ℕ → List Lock
up w [] = []
up w (q ∷ qs) = each w.parent q ++ every_one w.above qs

-- the locks of a step on a node whose proper ancestors are p
unfoldable pub locks : Step → List ℕ → List Lock
locks s p = each (need s).node (target s) ++ (up (need s) p ++ every_one (need s).new (inserts s))

-- the locks of a step in a document
abbrev pub needs : Step → Document → List Lock
needs s d = locks s (at (target s) d).above
