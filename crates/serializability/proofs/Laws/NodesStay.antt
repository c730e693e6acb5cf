-- A.8: the calls on parts leave every node where it is, with its number and its locks.
use Rattle.std.specs.Prelude.{ℕ, ◌≡◌, refl, Bool, true, false, [], ◌∷◌, map}
use Rattle.std.proofs.Common.{sym, ap₂}
use Rattle.std.proofs.lemmas.Bool.{false≢true}
use Rattle.tree.specs.Forest.{rows}
use Rattle.tree.specs.Laws.Lists.{map_map, every_at}
use Rattle.tree.specs.Laws.Amend.{rows_amend}
use Rattle.protocol.specs.State.{Marked, Tree, nodes, mark, part_undone, part_joined, undo_tree, join_tree}
use Rattle.protocol.specs.Calls.{Call, start, load, begin, commit, abort, step, write, count_of, open_part, close_part, undo_part}
use Rattle.serializability.specs.Theorem.{number_and_locks, NodesStay}
use Rattle.serializability.proofs.Laws.Outcomes.{every_call}
use Rattle.serializability.proofs.Laws.Shown.{Place}
use Rattle.serializability.proofs.Laws.Numbers.{marked_above, marked}
use Rattle.serializability.proofs.Laws.PartMarks.{undone_marks}

-- other marks, with the same numbers and locks
marked_stay : (g : Marked → Marked) → ((a : Marked) → number_and_locks (g a) ≡ number_and_locks a) → (f : Tree)
    → map number_and_locks (nodes (mark (λ r. g r.it) f)) ≡ map number_and_locks (nodes f)
unfolding nodes
marked_stay g h f =
    let c : Place → Marked = λ r. g r.it in
    let l = rows (λ (a : Marked). a) [] f in
    rw (
      rows_amend (λ (a : Marked). a) (λ a. a) c (marked_above c) (λ a p. refl) [] f,
      map_map (λ (r : Place). r.it) (marked c) c l (λ r m. refl),
      map_map number_and_locks c (λ r. number_and_locks r.it) l (λ r m. h r.it),
    ) (sym (map_map number_and_locks (λ (r : Place). r.it) (λ r. number_and_locks r.it) l (λ r m. refl)))

undo_stay : (t d : ℕ) (f : Tree) → map number_and_locks (nodes (undo_tree t d f)) ≡ map number_and_locks (nodes f)
unfolding undo_tree
undo_stay t d f = marked_stay (part_undone t d) (λ a. ap₂ (λ n l. (n, l)) (undone_marks t d a).number (undone_marks t d a).held) f

join_stay : (t d : ℕ) (f : Tree) → map number_and_locks (nodes (join_tree t d f)) ≡ map number_and_locks (nodes f)
unfolding join_tree
join_stay t d f = marked_stay (part_joined t d) (λ a. refl) f

-- the calls on parts
is_on_parts : Call → Bool
is_on_parts start = false
is_on_parts (load i) = false
is_on_parts (begin t) = false
is_on_parts (commit t) = false
is_on_parts (abort t) = false
is_on_parts (step t s room) = false
is_on_parts write = false
is_on_parts (count_of n) = false
is_on_parts (open_part t) = true
is_on_parts (close_part t) = true
is_on_parts (undo_part t) = true

pub nodes_stay : NodesStay
unfolding is_on_parts
nodes_stay c t M i = every_call
    (λ x n. is_on_parts x ≡ true → map number_and_locks (nodes n.state.tree) ≡ map number_and_locks (nodes M.tree)) M (record {
      refusal = λ c n h e. refl;
      at_start = λ e. absurd (false≢true e);
      at_unread = λ c o e. refl;
      at_load = λ d h o e. absurd (false≢true e);
      at_begin = λ t h o e. absurd (false≢true e);
      at_commit = λ t h o l e. absurd (false≢true e);
      at_abort = λ t h o e. absurd (false≢true e);
      at_wait = λ t s room h o z w e. absurd (false≢true e);
      at_step = λ t s room h o p e. absurd (false≢true e);
      at_write = λ e. refl;
      at_count = λ n h e. refl;
      at_open_part = λ t h o l e. refl;
      at_close_part = λ t h o l e. join_stay t (M.header.depth t) M.tree;
      at_undo_part = λ t h o l e. undo_stay t (M.header.depth t) M.tree;
    }) c (every_at is_on_parts (open_part t ∷ close_part t ∷ undo_part t ∷ []) refl i)
