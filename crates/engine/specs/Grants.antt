-- Locks granted along the way, by words.
use Rattle.std.specs.Prelude.{ℕ, suc, ◌≡◌, false, cond, List, [], ◌∷◌, eqb, length}
use Rattle.locks.specs.Modes.{union, in_word}
use Rattle.tree.specs.Steps.{Step}
use Rattle.locks.specs.Needs.{Need, need}
use Rattle.locks.specs.Words.{words}
use Rattle.locks.specs.declared.NeedWords.{NeedWords}
use Rattle.protocol.specs.State.{Marked, with_held, set_header}
use Rattle.table.specs.Lists.{modify}
use Rattle.table.specs.Flat.{second}
use Rattle.table.specs.Layout.{Entry, nodes, header, Left, Kept}
use Rattle.rows.specs.Rows.{granted_along}
use Rattle.engine.specs.Waits.{word_at}

-- t is granted the modes of a word on a node
abbrev pub with_more : ℕ → ℕ → Marked → Marked
with_more t w a = with_held (λ u. cond (eqb u t) (union (a.held u) (in_word w)) (a.held u)) a

-- on the places of the way from its j-th on
unfoldable pub granted_from : ℕ → NeedWords → ℕ → List ℕ → List Entry → List Entry
granted_from t w j [] l = l
granted_from t w j (i ∷ is) l = granted_from t w (suc j) is (modify i (second (with_more t (word_at w j))) l)

-- the modes of a need on the places: on the first those of the node, then those of the parent, and on the others those above
unfoldable pub granted_on : ℕ → Need → List ℕ → List Entry → List Entry
granted_on t w is l = granted_along t w.node w.parent w.above is l

-- t was granted on the way what a step needs, whichever step needs these sets
pub record Granted (s s' : List ℕ) (t : ℕ) (w : NeedWords) (way : List ℕ) : Type 0 where
  pub kept : (st : Step) → w ≡ words (need st) → Kept s s' (granted_on t (need st) way (nodes s))

-- these nodes, as many as before, and t waits for nobody
pub record Settled (s s' : List ℕ) (t : ℕ) (ns : List Entry) : Type 0 where
  pub left : Left s s' (set_header t (λ u. false) (header s)) ns
  pub many : length (nodes s') ≡ length (nodes s)

-- what a step that is granted leaves beside what it does itself: its locks on the way, and no wait
pub record GrantedStep (s s' : List ℕ) (t : ℕ) (w : NeedWords) (way : List ℕ) : Type 0 where
  pub settled : (st : Step) → w ≡ words (need st) → Settled s s' t (granted_on t (need st) way (nodes s))
