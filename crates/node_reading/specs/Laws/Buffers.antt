-- The loops that put a piece for each place into a lent buffer.
use Rattle.std.specs.Prelude.{◌≡◌, refl, ℕ, ◌+◌, ◌-◌, ◌*◌, ◌≤◌, ◌<◌, List, [], ◌∷◌, map, length, get_or, take, drop}
use Rattle.std.specs.List.{flat_map}
use Rattle.std.proofs.Common.{sym, ap, ◌∙◌, arith, append-nil, mul-zero}
use Rattle.std.proofs.Math.Nat.{mul-le-mul_left}
use Rattle.std.proofs.lemmas.List.{take_all, take_more, take-append-drop, length-take-le, drop-drop}
use Rattle.std.proofs.lemmas.Grind.{flat_map-append}
use Rattle.std.proofs.lemmas.Slice.{take-put_mid, drop-put_mid}
use borrow.Rule.Slice.PartMut.{put_mid}
use Rattle.protocol.specs.Lent.{number_bytes, list_bytes, cell, cells, filled}
use Rattle.table.specs.Layout.{Entry}
use Rattle.rows.specs.Places.{item, number_of}

-- the pieces of the first j places are written, w bytes each, and nothing behind them
pub record Written (piece : ℕ → List ℕ) (w : ℕ) (places : List ℕ) (j : ℕ) (o out : List ℕ) : Type 0 where
  pub front : take (w * j) out ≡ flat_map piece (take j places)
  pub rest : drop (w * j) out ≡ drop (w * j) o

pub written_start : (piece : ℕ → List ℕ) (w : ℕ) (places o : List ℕ) → Written piece w places 0 o o
written_start piece w places o = record { front = rw mul-zero; rest = refl }

module _ {piece : ℕ → List ℕ} {w : ℕ} {places : List ℕ} {j : ℕ} {o out : List ℕ} (c : Written piece w places j o out)
    (m : w * length places ≤ length out)
  where
    -- the next piece
    pub written_more : {b : List ℕ} → j < length places → b ≡ piece (get_or places j 0) → length b ≡ w
        → Written piece w places (j + 1) o (put_mid (w * j) (w * j + w - w * j) out b)
    written_more {b} h e n =
        let z : w * (j + 1) ≤ w * length places = mul-le-mul_left w (omega arith) in
        let k : w * j + w - w * j ≡ w = omega arith in
        let a : w * j ≤ length out = omega arith in
        let rest_more : drop (w * (j + 1)) out ≡ drop (w * (j + 1)) o =
        let x : w * (j + 1) ≡ w * j + w = omega arith in
        rw (x, ← drop-drop w (w * j) out, ← drop-drop w (w * j) o, c.rest) in
        record {
          front = take-put_mid (w * j) (w * j + w - w * j) out b (w * (j + 1)) (omega arith) a
              ∙ rw (c.front, take_more places j 0 h, flat_map-append piece (take j places) (get_or places j 0 ∷ []), e, append-nil);
          rest = drop-put_mid (w * j) (w * j + w - w * j) out b (w * (j + 1)) (omega arith) a (omega arith)
              ∙ rest_more;
        }

    -- all pieces
    pub written_done : j ≡ length places → out ≡ filled (flat_map piece places) o
    written_done e =
        let n : length (flat_map piece (take j places)) ≡ w * j = ap length (sym c.front) ∙ length-take-le (w * j) out (rw e m) in
        sym (take-append-drop (w * j) out) ∙ rw (c.front, c.rest, ← n, take_all j places (omega arith))

-- numbers take four bytes each
pub number_pieces : (l : List Entry) (places : List ℕ)
    → flat_map (λ i. number_bytes (number_of (item l i))) places ≡ list_bytes (map number_of (map (item l) places))
number_pieces l [] = refl
number_pieces l (i ∷ places) = rw (number_pieces l places)

-- cells take 33
pub cell_pieces : (l : List Entry) (places : List ℕ)
    → flat_map (λ i. cell (item l i).now.content) places ≡ cells (map (λ a. (number_of a, a.now.content)) (map (item l) places))
cell_pieces l [] = refl
cell_pieces l (i ∷ places) = rw (cell_pieces l places)
