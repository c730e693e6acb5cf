-- A step that finds its node at a place of the rows: all that it is judged by and answers, in terms of rows.
use Rattle.std.specs.Prelude.{◌≡◌, ℕ, zero, suc, Bool, true, false, not, ◌&&◌, ◌||◌, List, [], ◌∷◌, map, length, eqb, ltb, leb}
use Rattle.tree.specs.Lists.{any, keep}
use Rattle.tree.specs.Forest.{row}
use Rattle.tree.specs.Document.{child, select, here, at, kinds}
use Rattle.tree.specs.Steps.{Step, T, C, R, U, D, I, TT, RR, UU, target, inserts, kind_at, wrong_kind_on, wrong_content_on, misplaced_on}
use Rattle.tree.specs.Steps.{answer, parent, is_named}
use Rattle.tree.specs.Steps.{Value, done, kind_parent, child_is, none, content_is, numbers_are, cells_are, how_many}
use Rattle.locks.specs.Modes.{Mode, against}
use Rattle.locks.specs.Needs.{Need, need, locks, needs}
use Rattle.locks.specs.Words.{word}
use Rattle.protocol.specs.State.{Marked, State, callers_document, with_tree, forgetting, act, grant}
use Rattle.protocol.specs.Lent.{Room, has_room}
use Rattle.protocol.specs.Causes.{kind_not_allowed, content_not_allowed, held_number, place_not_allowed, no_more_nodes, short_buffer}
use Rattle.protocol.specs.Causes.{deadlock}
use Rattle.protocol.specs.Calls.{node_limit, wait_set, number_in_use, limit_reached, Next, checked, held_back, grants_step, refused, waits}
use Rattle.protocol.specs.Calls.{closes_ring}
use Rattle.table.specs.Layout.{Entry}
use Rattle.rows.specs.Places.{item, number_of, place_of, ups, numbers_above, children, subtree}

-- the k-th of these children, k from 1
unfoldable pub kth_child : ℕ → List Marked → Value
kth_child k [] = none
kth_child zero (c ∷ cs) = none
kth_child (suc zero) (c ∷ cs) = child_is c.now.number c.now.kind
kth_child (suc (suc k)) (c ∷ cs) = kth_child (suc k) cs

-- the answer of a step of t that finds its node at place p
abbrev pub answer_at : Step → ℕ → List Entry → ℕ → Value
answer_at (T n) t l p = kind_parent (item l p).now.kind (parent (numbers_above l p))
answer_at (C n k) t l p = kth_child k (children t l p)
answer_at (R n) t l p = content_is (item l p).now.content
answer_at (U n b) t l p = done
answer_at (D n) t l p = done
answer_at (I m kind b n k) t l p = done
answer_at (TT n) t l p = numbers_are (map number_of (subtree t l p))
answer_at (RR n) t l p = cells_are (map (λ a. (number_of a, a.now.content)) (subtree t l p))
answer_at (UU n a b) t l p = how_many (length (keep (λ x. is_named a x.now) (subtree t l p)))

-- waiting ----------------------------------------------------------------------------

-- u holds, on this node, a mode that clashes with one of these
abbrev pub blocks_node : List Mode → ℕ → Marked → Bool
blocks_node ms u a = any (against (a.held u)) ms

-- the same along the way up: ms on the first node, then ms' on the next, and ms'' on all others
unfoldable pub blocks_way : List Mode → List Mode → List Mode → ℕ → List Marked → Bool
blocks_way ms ms' ms'' u [] = false
blocks_way ms ms' ms'' u (a ∷ way) = blocks_node ms u a || blocks_way ms' ms'' ms'' u way

-- another open transaction, which holds such a mode on the node or above it
abbrev pub blocks_at : ℕ → Need → (ℕ → Bool) → List Marked → ℕ → Bool
blocks_at t w is_open way u = is_open u && not (eqb u t) && blocks_way w.node w.parent w.above u way

-- the set of those: bit t-1 for transaction t
unfoldable pub wait_word : ℕ → Need → (ℕ → Bool) → List Marked → ℕ
wait_word t w is_open way = word (λ i. blocks_at t w is_open way (suc i)) 16 0

-- causes 10 and 12 ---------------------------------------------------------------------

abbrev pub kind_of : Marked → ℕ
kind_of a = a.now.kind

-- some place has a number that the step inserts
abbrev pub used_in : Step → List Entry → Bool
used_in s l = any (λ m. ltb (place_of m l) (length l)) (inserts s)

-- the step inserts a node, and as many as the limit are held
abbrev pub limit_reached_in : Step → List Entry → Bool
limit_reached_in s l = any (λ m. leb node_limit (length l)) (inserts s)

-- the record ---------------------------------------------------------------------------

-- a step of t whose node stands at place p of the rows l of the state's tree, seen by t
pub record Found (l : List Entry) (t : ℕ) (s : Step) (M : State) (p : ℕ) : Type 0 where
  pub is_here : here (target s) (callers_document t M.tree) ≡ true
  pub line : at (target s) (callers_document t M.tree) ≡ row (item l p).now (numbers_above l p)
  pub lock_list : needs s (callers_document t M.tree) ≡ locks s (numbers_above l p)
  -- causes 8 and 9
  pub kind : kind_at s (callers_document t M.tree) ≡ (item l p).now.kind
  -- cause 10
  pub held : number_in_use s M.tree ≡ used_in s l
  pub wait : number_in_use s M.tree ≡ false
      → wait_set t (needs s (callers_document t M.tree)) M ≡ wait_word t (need s) M.header.is_open (item l p ∷ ups l p)
  -- cause 11
  pub others : kinds (select (child (target s)) (callers_document t M.tree)) ≡ map kind_of (children t l p)
  -- cause 12
  pub full : limit_reached node_limit s M.tree ≡ limit_reached_in s l
  pub answers : answer s (callers_document t M.tree) ≡ answer_at s t l p

-- the whole judgement: 8, 9, 10, wait or 17, 11, 12, 13, then granted
unfoldable pub judged_at : ℕ → Step → Room → State → List Entry → ℕ → Next
judged_at t s room M l p =
    checked (held_back t M) (
    (refused kind_not_allowed, wrong_kind_on s (item l p).now.kind)
    ∷ (refused content_not_allowed, wrong_content_on s (item l p).now.kind)
    ∷ (refused held_number, used_in s l)
    ∷ (refused deadlock, closes_ring t (wait_word t (need s) M.header.is_open (item l p ∷ ups l p)) M)
    ∷ (
      waits (wait_word t (need s) M.header.is_open (item l p ∷ ups l p)),
      not (eqb (wait_word t (need s) M.header.is_open (item l p ∷ ups l p)) 0),
    )
    ∷ (refused place_not_allowed, misplaced_on s (item l p).now.kind (map kind_of (children t l p)))
    ∷ (refused no_more_nodes, limit_reached_in s l)
    ∷ (refused short_buffer, not (has_room (answer_at s t l p) room)) ∷ [])
    (grants_step s (answer_at s t l p)
    (forgetting t (with_tree M (grant t (locks s (numbers_above l p)) (act t (M.header.depth t) s M.tree)))))
