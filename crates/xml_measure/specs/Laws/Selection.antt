-- The loop that selects the nodes of the committed document.
use Rattle.std.specs.Prelude.{◌≡◌, refl, ℕ, ◌+◌, ◌≤◌, ◌<◌, Bool, List, [], ◌∷◌, ◌++◌, map, take, drop, set}
use Rattle.std.proofs.Math.Path.{sym}
use Rattle.std.proofs.Common.{ap, ◌∙◌, append_assoc, append-nil, arith, drop_of_length-le, drop-cons, get_or-set_other}
use Rattle.std.proofs.Math.Bool.{true, false}
use Rattle.std.proofs.Math.Numerals.{add-one}
use Rattle.std.proofs.Math.ListN.{length, get_or, length-set}
use Rattle.std.proofs.Math.Seq.{take-suc-set, get_or-set_same}
use Rattle.std.proofs.Math.Dec.{eqb}
use borrow.Author.Tests.{eq-eqb, ne_eqb, eqb-true, eqb-false}
use Rattle.tree.specs.Laws.Lists.{map_append}
use Rattle.table.specs.Flat.{second, prune}
use Rattle.table.specs.Layout.{Entry, no_entry}
use Rattle.rows.specs.Places.{depth, item, is_committed}
use Rattle.rows.specs.Rows.{left_out}
use Rattle.xml_measure.specs.Lines.{committed_label, committed_lines, label_at, line_at, lines, Selected}

-- count places were selected, the rows from i on are still to be looked at, and those from depth hidden on are left out now
pub record Selecting (l : List Entry) (hidden i count : ℕ) (places : List ℕ) : Type 0 where
  pub long : length places ≡ 1024
  pub behind : i ≤ length l
  pub room : count ≤ i
  pub inside : (j : ℕ) → j < count → get_or places j 0 < length l
  pub found : committed_lines l ≡ lines l places count ++ map (second committed_label) (prune is_committed hidden (drop i l))

pub selecting_start : (l : List Entry) (places : List ℕ) → length places ≡ 1024 → Selecting l 0 0 0 places
unfolding committed_lines lines
selecting_start l places n =
    record { long = n; behind = omega arith; room = omega arith; inside = λ j z. absurd (omega arith); found = refl }

module _ {l : List Entry} {hidden i count : ℕ} {places : List ℕ} (c : Selecting l hidden i count places) where
  -- no row is left
  pub selecting_end : length l ≤ 1024 → length l ≤ i → Selected l (record { places = places; count = count })
  unfolding prune
  selecting_end m h =
      record {
        inside = record { long = c.long; room = omega (arith, c.room, c.behind); inside = c.inside };
        lines = sym (c.found ∙ rw (drop_of_length-le l h) (append-nil (lines l places count)));
      }

  -- d is the depth at i
  module _ {d : ℕ} (h : i < length l) (v : d ≡ depth l i) where
    row : drop i l ≡ get_or l i no_entry ∷ drop (i + 1) l
    row = drop-cons l i no_entry h ∙ rw (add-one i)

    on : (hidden' : ℕ) → prune is_committed hidden (drop i l) ≡ prune is_committed hidden' (drop (i + 1) l)
        → Selecting l hidden' (i + 1) count places
    on hidden' z = record {
      long = c.long;
      behind = omega arith;
      room = omega (arith, c.room);
      inside = c.inside;
      found = c.found ∙ ap (λ (k : List Entry). lines l places count ++ map (second committed_label) k) z;
    }

    -- below a node that an open transaction inserted
    pub selecting_hidden : left_out hidden d ≡ true → Selecting l hidden (i + 1) count places
    unfolding prune
    selecting_hidden e = on hidden (rw (row, ← v, e))

    -- x is who inserted it
    module _ {x : ℕ} (e : left_out hidden d ≡ false) (w : x ≡ (item l i).inserter) where
      pub selecting_inserted : (x ≡ 0 → ⊥) → Selecting l (d + 1) (i + 1) count places
      unfolding prune
      selecting_inserted n = on (d + 1) (rw (row, ← v, e, ne_eqb (item l i).inserter 0 (λ z. n (w ∙ z)), add-one d))

      pub selecting_found : length l ≤ 1024 → x ≡ 0 → Selecting l 0 (i + 1) (count + 1) (set places count i)
      unfolding prune lines label_at
      selecting_found m z =
          let n : count < length places = omega (arith, c.long, c.room) in
          let f : prune is_committed hidden (drop i l) ≡ get_or l i no_entry ∷ prune is_committed 0 (drop (i + 1) l) =
          rw (row, ← v, e, eq-eqb (item l i).inserter 0 (sym w ∙ z)) in
          record {
            long = length-set places count i ∙ c.long;
            behind = omega arith;
            room = omega (arith, c.room);
            inside = λ j g. at j g (eqb j count) refl;
            found = c.found
                ∙ rw (f, add-one count, take-suc-set places count i n, map_append (line_at l) (take count places) (i ∷ []))
                (sym (append_assoc (map (line_at l) (take count places)) (line_at l i ∷ [])
                (map (second committed_label) (prune is_committed 0 (drop (i + 1) l)))));
          }
        where
          at : (j : ℕ) → j < count + 1 → (b : Bool) → eqb j count ≡ b → get_or (set places count i) j 0 < length l
          at j g true q = rw (eqb-true j count q, get_or-set_same places count i 0 (omega (arith, c.long, c.room))) h
          at j g false q = let y = eqb-false j count q in rw (get_or-set_other places count j i 0 y) (c.inside j (omega (arith, y)))
