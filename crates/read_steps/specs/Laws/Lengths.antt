-- How long the answers of TT and RR are.
use Rattle.std.specs.Prelude.{◌≡◌, refl, ℕ, zero, suc, ◌*◌, ◌≤◌, ◌<◌, List, [], ◌∷◌, map, length, get_or, take}
use Rattle.std.proofs.Common.{◌∙◌, arith, length-append}
use Rattle.std.proofs.lemmas.List.{length-replicate}
use Rattle.std.proofs.Math.ListN.{length-take}
use Rattle.protocol.specs.State.{Marked}
use Rattle.protocol.specs.Lent.{list_bytes, cell, cells}
use Rattle.table.specs.Layout.{slot, Entry, nodes, Layout}
use Rattle.table.specs.Laws.Texts.{size_small}
use Rattle.rows.specs.Places.{item, number_of}
use Rattle.engine.specs.Way.{Places, Inside}

-- the places that were found
pub length_places : {l : List Entry} {w : Places} → Inside l w → length (take w.count w.places) ≡ w.count
length_places {w = w} c = length-take w.count w.places ∙ omega (arith, c.long, c.room)

-- four bytes for a number
pub length_numbers : (l : List Marked) → length (list_bytes (map number_of l)) ≡ 4 * length l
length_numbers [] = refl
length_numbers (a ∷ l) = let e = length_numbers l in omega (arith, e)

-- 33 for a cell
length_cell : (b : List ℕ) → length b ≤ 32 → length (cell b) ≡ 33
length_cell b h = simp (length-append, length-replicate) (omega arith)

cells_of : (l : List Entry) (places : List ℕ) (n : ℕ) → n ≤ length places
    → ((j : ℕ) → j < n → length (item l (get_or places j 0)).now.content ≤ 32)
    → length (cells (map (λ a. (number_of a, a.now.content)) (map (item l) (take n places)))) ≡ 33 * n
cells_of l places zero h f = refl
cells_of l [] (suc n) h f = absurd (omega arith)
cells_of l (i ∷ places) (suc n) h f =
    let e = cells_of l places n (omega arith) (λ j g. f (suc j) (omega arith)) in
    let x : length (cell (item l i).now.content) ≡ 33 = length_cell (item l i).now.content (f 0 (omega arith)) in
    length-append (cell (item l i).now.content) (cells (map (λ a. (number_of a, a.now.content)) (map (item l) (take n places))))
    ∙ rw (e, x) (omega arith)

content_small : {s : List ℕ} → Layout s → (i : ℕ) → i < length (nodes s) → length (item (nodes s) i).now.content ≤ 32
content_small {s} h i l = size_small s i 0 (slot s i) refl h l refl

pub length_cells : {s : List ℕ} (w : Places) → Layout s → Inside (nodes s) w
    → length (cells (map (λ a. (number_of a, a.now.content)) (map (item (nodes s)) (take w.count w.places)))) ≡ 33 * w.count
length_cells {s} w h c =
    cells_of (nodes s) w.places w.count (omega (arith, c.long, c.room))
    (λ j g. content_small h (get_or w.places j 0) (c.inside j g))
