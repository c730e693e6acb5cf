-- C, R, TT and RR on the node at p: room for their answers, what they put into lent buffers, and their ends.
use Rattle.std.specs.Prelude.{◌≡◌, refl, ℕ, zero, suc, ◌*◌, ◌≤◌, ◌<◌, true, false, cond, not, ◌&&◌, List, [], ◌∷◌, map, length, leb, take}
use Rattle.std.proofs.Math.Path.{sym, ap}
use Rattle.std.proofs.Common.{◌∙◌, arith, le-leb}
use Rattle.std.proofs.Math.Bool.{and-false}
use Rattle.std.proofs.lemmas.List.{length-map}
use Rattle.std.proofs.lemmas.Bool.{lt-leb}
use Rattle.tree.specs.Steps.{Value, content_is, numbers_are, cells_are}
use Rattle.tree.specs.Laws.Lists.{map_map}
use Rattle.protocol.specs.Lent.{Room, list_bytes, cells, first_lent, second_lent, has_room, filled}
use Rattle.protocol.specs.State.{Marked}
use Rattle.protocol.specs.Calls.{Call}
use Rattle.protocol.specs.Answers.{granted_answer}
use Rattle.protocol.specs.declared.Answer.TheVariants.{Count}
use Rattle.table.specs.Layout.{nodes, Layout}
use Rattle.rows.specs.Places.{item, number_of, subtree}
use Rattle.rows.specs.Found.{kth_child}
use Rattle.engine.specs.Way.{Places}
use Rattle.node_reading.specs.Subtree.{Selected}
use Rattle.node_reading.specs.Laws.Subtree.{selected_nodes}
use Rattle.read_steps.specs.Laws.Lengths.{length_numbers, length_cells}
use Rattle.engine.specs.Contract.{Performed, Lent, no_room, room_of, rooms_of}
use Rattle.engine.specs.Laws.Outcomes.{Grants, performed_grants, lent_grants}

-- room for the answer ----------------------------------------------------------------------

fitting : (a b c d : ℕ) → a ≤ b → c ≤ d → (leb a b && leb c d) ≡ true
fitting a b c d h k = rw (le-leb a b h, le-leb c d k)

short_first : (a b c d : ℕ) → b < a → (leb a b && leb c d) ≡ false
short_first a b c d h = rw (lt-leb a b h)

short_second : (a b c d : ℕ) → d < c → (leb a b && leb c d) ≡ false
short_second a b c d h = rw (lt-leb c d h) (and-false (leb a b))

-- 13 or none, as the last of the causes
module _ (v : Value) (room : Room) where
  pub room_left : has_room v room ≡ true → ◌≡◌ {A = ℕ} (cond (not (has_room v room)) 13 0) 0
  room_left e = rw e

  pub room_short : has_room v room ≡ false → ◌≡◌ {A = ℕ} 13 (cond (not (has_room v room)) 13 0)
  room_short e = rw e

-- C has no lent buffer
pub child_fits : (k : ℕ) (cs : List Marked) → has_room (kth_child k cs) no_room ≡ true
unfolding kth_child first_lent second_lent
child_fits k [] = refl
child_fits zero (c ∷ cs) = refl
child_fits (suc zero) (c ∷ cs) = refl
child_fits (suc (suc k)) (c ∷ cs) = child_fits (suc k) cs

-- R: n is the length of the content
module _ {n : ℕ} (b o : List ℕ) (e : n ≡ length b) where
  pub content_fits : n ≤ length o → has_room (content_is b) (room_of o) ≡ true
  unfolding first_lent second_lent
  content_fits h = fitting (length b) (length o) 0 0 (omega arith) (omega arith)

  pub content_short : length o < n → has_room (content_is b) (room_of o) ≡ false
  unfolding first_lent second_lent
  content_short h = short_first (length b) (length o) 0 0 (omega arith)

-- TT and RR: the nodes that they answer, and each with its content
abbrev seen : List ℕ → ℕ → ℕ → List Marked
seen s t p = subtree t (nodes s) p

abbrev numbered : Marked → ℕ × List ℕ
numbered a = (number_of a, a.now.content)

-- by the subtree that was selected
module _ (s : List ℕ) {t p : ℕ} {w : Places} (c : Selected (nodes s) t p w) where
  numbers_long : length (list_bytes (map number_of (seen s t p))) ≡ 4 * w.count
  numbers_long = length_numbers (seen s t p) ∙ rw (← c.many)

  module _ (o : List ℕ) where
    pub numbers_fit : 4 * w.count ≤ length o → has_room (numbers_are (map number_of (seen s t p))) (room_of o) ≡ true
    unfolding first_lent second_lent
    numbers_fit h = fitting (length (list_bytes (map number_of (seen s t p)))) (length o) 0 0 (omega (arith, numbers_long)) (omega arith)

    pub numbers_short : length o < 4 * w.count → has_room (numbers_are (map number_of (seen s t p))) (room_of o) ≡ false
    unfolding first_lent second_lent
    numbers_short h = short_first (length (list_bytes (map number_of (seen s t p)))) (length o) 0 0 (omega (arith, numbers_long))

  firsts : list_bytes (map (λ x. x.0) (map numbered (seen s t p))) ≡ list_bytes (map number_of (seen s t p))
  firsts = ap list_bytes (map_map (λ x. x.0) numbered number_of (seen s t p) (λ a m. refl))

  firsts_long : length (list_bytes (map (λ x. x.0) (map numbered (seen s t p)))) ≡ 4 * w.count
  firsts_long = ap length firsts ∙ numbers_long

  module _ (h : Layout s) (o q : List ℕ) where
    cells_long : length (cells (map numbered (seen s t p))) ≡ 33 * w.count
    cells_long = sym (ap (λ l. length (cells (map numbered l))) (selected_nodes c)) ∙ length_cells w h c.inside

    pub cells_fit : 4 * w.count ≤ length o → 33 * w.count ≤ length q
        → has_room (cells_are (map numbered (seen s t p))) (rooms_of o q) ≡ true
    unfolding first_lent second_lent
    cells_fit i j = fitting _ (length o) _ (length q) (omega (arith, firsts_long)) (omega (arith, cells_long))

    pub cells_short_first : length o < 4 * w.count → has_room (cells_are (map numbered (seen s t p))) (rooms_of o q) ≡ false
    unfolding first_lent second_lent
    cells_short_first i = short_first _ (length o) _ (length q) (omega (arith, firsts_long))

    pub cells_short_second : length q < 33 * w.count → has_room (cells_are (map numbered (seen s t p))) (rooms_of o q) ≡ false
    unfolding first_lent second_lent
    cells_short_second j = short_second _ (length o) _ (length q) (omega (arith, cells_long))

  numbers_filled : (o o' : List ℕ) → o' ≡ filled (list_bytes (map number_of (map (item (nodes s)) (take w.count w.places)))) o
      → o' ≡ filled (list_bytes (map number_of (seen s t p))) o
  numbers_filled o o' e = e ∙ ap (λ l. filled (list_bytes (map number_of l)) o) (selected_nodes c)

  -- granted: the count, and the lent buffers
  module _ {s' : List ℕ} {call : Call} {o o' : List ℕ} (e : o' ≡ filled (list_bytes (map number_of (map (item (nodes s)) (take w.count w.places)))) o) where
    pub numbers_granted : Grants s s' (numbers_are (map number_of (seen s t p))) call
        → Performed s s' (Count w.count) call × Lent first_lent s o o' call
    unfolding granted_answer first_lent
    numbers_granted g = (
      performed_grants g (Count w.count) (ap Count (c.many ∙ sym (length-map (seen s t p) number_of))),
      lent_grants g first_lent o o' (numbers_filled o o' e),
    )

    pub cells_granted : {q q' : List ℕ} → q' ≡ filled (cells (map numbered (map (item (nodes s)) (take w.count w.places)))) q
        → Grants s s' (cells_are (map numbered (seen s t p))) call
        → Performed s s' (Count w.count) call × Lent first_lent s o o' call × Lent second_lent s q q' call
    unfolding granted_answer first_lent second_lent
    cells_granted {q} {q'} i g = (
      performed_grants g (Count w.count) (ap Count (c.many ∙ sym (length-map (seen s t p) numbered))),
      lent_grants g first_lent o o' (numbers_filled o o' e ∙ ap (λ b. filled b o) (sym firsts)),
      lent_grants g second_lent q q' (i ∙ ap (λ l. filled (cells (map numbered l)) q) (selected_nodes c)),
    )

pub content_granted : {s s' : List ℕ} {call : Call} {n : ℕ} {b o o' : List ℕ} → Grants s s' (content_is b) call → n ≡ length b
    → o' ≡ filled b o
    → Performed s s' (Count n) call × Lent first_lent s o o' call
unfolding granted_answer first_lent
content_granted {n = n} {o = o} {o' = o'} g e i = (performed_grants g (Count n) (ap Count e), lent_grants g first_lent o o' i)
