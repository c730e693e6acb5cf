-- The check of a cell, test by test.
use Rattle.std.specs.Prelude.{◌≡◌, ℕ, ◌+◌, ◌*◌, ◌≤◌, ◌<◌, Bool, true, false, ◌&&◌, ◌||◌, List, eqb, leb}
use Rattle.std.proofs.Math.Path.{sym, ap}
use Rattle.std.proofs.Common.{◌∙◌, add-zero}
use Rattle.std.proofs.Math.Bool.{and-true}
use native.Mathlib.Omega.{arith}
use Rattle.std.proofs.Math.ListN.{get_or}
use borrow.Author.Tests.{leb-true, le-leb, lt-leb, eq-eqb, ne_eqb}
use Rattle.tree.specs.Laws.Tests.{and_left, and_right}
use Rattle.table.specs.Layout.{cell_at, word, double_word, cell, stored, decode}
use Rattle.table.specs.Laws.Fields.{cell_byte, writer_update}
use Rattle.form.specs.Form.{in_range, sizes_in_range}
use Rattle.form.specs.Check.{cell_in_range}

module _ (s : List ℕ) (k : ℕ) where
  -- the bytes of the cell of slot k
  abbrev kind : ℕ
  kind = get_or s (cell_at k) 0

  abbrev byte : ℕ → ℕ
  byte o = get_or s (cell_at k + o) 0

  sizes_of : sizes_in_range (cell s k) ≡ (leb (byte 4) 32 && (eqb (byte 1) 0 || leb (byte 5) 32))
  unfolding sizes_in_range
  sizes_of = rw (cell_byte s k 4 (omega arith), cell_byte s k 1 (omega arith), cell_byte s k 5 (omega arith))

  pub sizes_now : 32 < byte 4 → false ≡ sizes_in_range (cell s k)
  sizes_now h = sym (sizes_of ∙ rw (lt-leb (byte 4) 32 h))

  module _ (h : byte 4 ≤ 32) where
    pub sizes_unwritten : byte 1 ≡ 0 → true ≡ sizes_in_range (cell s k)
    sizes_unwritten e = sym (sizes_of ∙ rw (le-leb (byte 4) 32 h, eq-eqb (byte 1) 0 e))

    pub sizes_saved : (byte 1 ≡ 0 → ⊥) → leb (byte 5) 32 ≡ sizes_in_range (cell s k)
    sizes_saved n = sym (sizes_of ∙ rw (le-leb (byte 4) 32 h, ne_eqb (byte 1) 0 n))

  module _ (low high most : ℕ) where
    -- the tests of kind and marks
    abbrev marks_in_range : Bool
    marks_in_range = leb low kind && leb kind high && (leb (byte 1) 16 && (leb (byte 2) most && leb (byte 3) most))

    cell_of : cell_in_range low high most (cell s k) ≡ (marks_in_range && sizes_in_range (cell s k))
    unfolding cell_in_range in_range decode
    cell_of =
        rw (
          ap (λ (i : ℕ). get_or s i 0) (sym (add-zero (cell_at k))) ∙ cell_byte s k 0 (omega arith),
          cell_byte s k 1 (omega arith),
          cell_byte s k 2 (omega arith),
          cell_byte s k 3 (omega arith),
          writer_update (get_or (cell s k) 1 0) (stored 1 (cell s k)),
        )

    -- w is the word of the four bytes
    pub cell_unmarked : (w : ℕ) → w ≡ double_word s (cell_at k) → (leb low w && leb w high) ≡ true → high ≤ 255
        → leb (byte 4) 32 ≡ cell_in_range low high most (cell s k)
    unfolding double_word word
    cell_unmarked w e t h =
        let behind : cell_at k + 2 + 1 ≡ cell_at k + 3 = omega arith in
        let sum : w ≡ kind + 256 * byte 1 + 65536 * (byte 2 + 256 * byte 3) = rw behind at e in
        let a : low ≤ w = leb-true low w (and_left (leb low w) _ t) in
        let b : w ≤ high = leb-true w high (and_right (leb low w) _ t) in
        sym (cell_of ∙ rw (
          le-leb low kind (omega arith),
          le-leb kind high (omega arith),
          le-leb (byte 1) 16 (omega arith),
          le-leb (byte 2) most (omega arith),
          le-leb (byte 3) most (omega arith),
          sizes_of,
          eq-eqb (byte 1) 0 (omega arith),
        )
        (and-true (leb (byte 4) 32)))

    pub cell_marks : marks_in_range ≡ false → false ≡ cell_in_range low high most (cell s k)
    cell_marks f = sym (cell_of ∙ rw f)

    pub cell_sizes : marks_in_range ≡ true → (r : Bool) → r ≡ sizes_in_range (cell s k) → r ≡ cell_in_range low high most (cell s k)
    cell_sizes t r e = e ∙ sym (cell_of ∙ rw t)
