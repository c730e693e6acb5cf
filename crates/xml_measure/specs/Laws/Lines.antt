-- Rows by their places.
use Rattle.std.specs.Prelude.{◌≡◌, ℕ, suc, ◌≤◌, ◌<◌, List, ◌∷◌, length, get_or, take, drop}
use Rattle.std.proofs.Math.Path.{ap}
use Rattle.std.proofs.Common.{◌∙◌, arith, drop-cons, get_or-take}
use Rattle.std.proofs.Math.ListN.{length-map, get_or-map}
use Rattle.std.proofs.Math.Seq.{length-take-le}
use Rattle.table.specs.Layout.{Entry}
use Rattle.xml_text.specs.Rows.{Line}
use Rattle.xml_measure.specs.Lines.{line_at, lines}

module _ (l : List Entry) (places : List ℕ) (n : ℕ) (h : n ≤ length places) where
  pub length_lines : length (lines l places n) ≡ n
  unfolding lines
  length_lines = length-map (take n places) (line_at l) ∙ length-take-le n places h

  pub line_of : (i : ℕ) → i < n → get_or (lines l places n) i (line_at l 0) ≡ line_at l (get_or places i 0)
  unfolding lines
  line_of i k = get_or-map (line_at l) (take n places) i 0 ∙ ap (line_at l) (get_or-take n places i 0 k)

  -- the rows from i on
  pub lines_from : (i : ℕ) → i < n → drop i (lines l places n) ≡ line_at l (get_or places i 0) ∷ drop (suc i) (lines l places n)
  lines_from i k =
      drop-cons (lines l places n) i (line_at l 0) (omega (arith, length_lines))
      ∙ ap (λ (x : Line). x ∷ drop (suc i) (lines l places n)) (line_of i k)
